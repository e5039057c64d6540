-- The head that load writes.
use Rattle.std.specs.Prelude.{ℕ, List, [], ◌∷◌}

unfoldable pub head_for : ℕ → ℕ → ℕ → List ℕ
head_for n rows c = n ∷ rows ∷ c ∷ 0 ∷ 0 ∷ 0 ∷ 0 ∷ rows ∷ []
