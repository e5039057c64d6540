-- Rows named twice: a repeated pair refutes that all are distinct, and passing every pair proves it.
use Prim.Native.Nat.{ℕ, ◌<◌}
use mathlib.Core.Path.{◌≡◌, sym, ap, ◌∙◌}
use mathlib.Core.List.{List}
use mathlib.Core.Bool.{Bool, true, false, not}
use lib.Dec.{eqb}
use native.Mathlib.Omega.{arith}
use borrow.Author.Tests.{eq-eqb, eqb-true}
use lib.ListN.{length, get_or, take}
use lib.Seq.{length-take-le, get_or-take}
use Rattle.std.specs.List.{AllWithin, HoldsAt}
use Rattle.masks.specs.Sums.{every}
use Rattle.masks.proofs.Sums.{every-false, every_true}
use Rattle.rules.specs.Steps.{distinct}

-- no row before b is the same as row b
abbrev pub fresh : (ℕ → ℕ) → ℕ → ℕ → Bool
fresh row b a = not (eqb (row a) (row b))

pub pair_found : (n : ℕ) (row : ℕ → ℕ) (a b : ℕ) → a < b → b < n → row a ≡ row b → not (distinct n row) ≡ true
unfolding distinct
pair_found n row a b l h e =
    let here : fresh row b a ≡ false = ap not (eq-eqb (row a) (row b) e) in
    ap not (every-false n (λ j. every j (fresh row j)) b h (every-false b (fresh row b) a l here))

pub none_found : (n : ℕ) (row : ℕ → ℕ) → every n (λ j. every j (fresh row j)) ≡ true → not (distinct n row) ≡ false
unfolding distinct
none_found n row e = ap not e

-- ---- a row and those before it

abbrev pub row : List ℕ → ℕ → ℕ
row named i = get_or named i 0

pub same_before : (named : List ℕ) (j : ℕ) → j < length named
    → (k : ℕ) × (k < length (take j named)) × HoldsAt (λ y. eqb y (row named j) ≡ true) (take j named) k
    → not (distinct (length named) (row named)) ≡ true
same_before named j l h =
    let k : h.0 < j = omega (arith, h.1, length-take-le j named (omega arith)) in
    pair_found (length named) (row named) h.0 j k l (sym (get_or-take j named h.0 0 k) ∙ eqb-true (get_or (take j named) h.0 0) (row named j) (h.2 0))

pub none_before : (named : List ℕ) (j : ℕ) → j < length named
    → AllWithin (λ y. eqb y (row named j) ≡ false) (take j named) 0 (length (take j named))
    → every j (fresh (row named) j) ≡ true
none_before named j l h =
    every_true j (λ i m.
    ap not (ap (λ (x : ℕ). eqb x (row named j)) (sym (get_or-take j named i 0 m)) ∙ h i 0 (omega arith) (omega (arith, length-take-le j named (omega arith)))))
