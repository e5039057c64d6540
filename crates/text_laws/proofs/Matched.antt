-- The result of a call is what the call ensures; where it was matched, or compared, it is also what was found. So the two are one.
use mathlib.Core.Path.{◌≡◌, sym, ◌∙◌}

pub matched : {A : Type 0} {r a b : A} → r ≡ a → r ≡ b → a ≡ b
matched p q = sym p ∙ q

pub unmatched : {A : Type 0} {r a b : A} → r ≡ a → (r ≡ b → ⊥) → a ≡ b → ⊥
unmatched p n q = n (p ∙ q)
