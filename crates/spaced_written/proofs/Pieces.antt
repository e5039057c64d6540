-- Spaced literals as they are stored: one variable more adds its literal behind the others, and there are no more bytes than signs, spaces and
-- digits allow.
use Prim.Native.Nat.{ℕ, zero, suc, ◌+◌, ◌≤◌}
use mathlib.Core.Path.{◌≡◌, refl, sym, ap, ◌∙◌}
use mathlib.Core.Bool.{false}
use mathlib.Core.List.{[], ◌++◌, append-nil, append_assoc}
use native.Mathlib.Nat.{add-zero, zero-add}
use native.Mathlib.Numerals.{add-one}
use native.Mathlib.Omega.{arith}
use lib.ListN.{length, length-append}
use Rattle.literals.specs.declared.Lits.{Lits}
use Rattle.rules.specs.Wcnf.{spaced_literal, spaced_lits}
use Rattle.text_laws.specs.Pieces.{parting, literal_piece}
use Rattle.text_laws.specs.Lengths.{most_lits}
use Rattle.text_laws.proofs.Pieces.{literal-length}

-- a literal that is not the first of its line has a space in front
pub spaced-piece : (v : ℕ) (l : Lits) → spaced_literal v l ≡ literal_piece false v l
unfolding spaced_literal literal_piece parting
spaced-piece v l = rw (add-one v)

pub spaced-none : (v : ℕ) (l : Lits) → spaced_lits v 0 l ≡ []
unfolding spaced_lits
spaced-none v l = refl

spaced-more : (n v : ℕ) (l : Lits) → spaced_lits v (suc n) l ≡ spaced_lits v n l ++ spaced_literal (v + n) l
unfolding spaced_lits
spaced-more zero v l = rw add-zero (append-nil (spaced_literal v l))
spaced-more (suc n) v l =
    let near : suc v + n ≡ v + suc n = omega arith in
    ap (λ x. spaced_literal v l ++ x) (spaced-more n (suc v) l ∙ rw near)
    ∙ sym (append_assoc (spaced_literal v l) (spaced_lits (suc v) n l) (spaced_literal (v + suc n) l))

-- one more variable
pub spaced-step : (v : ℕ) (l : Lits) → spaced_lits 0 (v + 1) l ≡ spaced_lits 0 v l ++ literal_piece false v l
spaced-step v l = rw (add-one v, ← spaced-piece v l) (spaced-more v 0 l ∙ rw (zero-add v))

pub spaced-length : (n : ℕ) (l : Lits) → length (spaced_lits 0 n l) ≤ most_lits n
spaced-length zero l = rw (spaced-none 0 l) (omega arith)
spaced-length (suc n) l =
    let e : spaced_lits 0 (suc n) l ≡ spaced_lits 0 n l ++ literal_piece false n l = ap (λ (k : ℕ). spaced_lits 0 k l) (sym (add-one n)) ∙ spaced-step n l in
    rw (e, length-append (spaced_lits 0 n l) (literal_piece false n l)) (omega (arith, spaced-length n l, literal-length false n l))
