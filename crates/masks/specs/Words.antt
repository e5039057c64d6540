-- Runs of stores in a list of words.
use Rattle.std.specs.Prelude.{ℕ, zero, suc, ◌+◌, List, set}

-- 0 at the n places from `at` on
unfoldable pub zeroed : List ℕ → ℕ → ℕ → List ℕ
zeroed d at zero = d
zeroed d at (suc n) = set (zeroed d at n) (at + n) 0
