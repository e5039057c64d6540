-- A set holds just one literal exactly where it is the set of one.
-- The counts of the masks make 1 together, so one mask is empty and the other a power of two, whose exponent names the variable.
use Prim.Native.Nat.{ℕ, zero, suc, ◌+◌, ◌-◌, ◌<◌, ◌^◌}
use mathlib.Core.Path.{◌≡◌, refl, sym, ap, ◌∙◌}
use mathlib.Core.Bool.{true}
use mathlib.Core.Logic.{⊎_elim, ◌⊎◌, inl, inr}
use native.Mathlib.Nat.{eq-zero-or-pos}
use native.Mathlib.Omega.{arith}
use borrow.Author.Tests.{eqb-true, eq-eqb, lt-ltb}
use lib.Count.{count_trailing_zeros}
use lib.IntN.{ℤ, pos, negsuc}
use Rattle.masks.specs.Masks.{count}
use Rattle.masks.proofs.Choice.{cases}
use Rattle.masks.proofs.Counts.{count-zero, count-empty, count-one, trailing_lt}
use Rattle.literals.specs.declared.Lits.{Lits}
use Rattle.literals.specs.Literal.{size, is_positive, is_literal, bit_of, lits_of}
use Rattle.literals.specs.Lits.{is_one}
use Rattle.literals.proofs.Opposites.{sized-literal}
use Rattle.literals.proofs.OneBit.{bit-one, bit-literal}
use Rattle.literals.proofs.TwoMasks.{Held, lits-ext, lits-positive, lits-negative}

pub lits-one : (z : ℤ) → is_literal z ≡ true → is_one (lits_of z) ≡ true
unfolding is_one
lits-one z h =
    ⊎_elim (λ t. rw (lits-positive z t) (eq-eqb (count (bit_of z) + count 0) 1 (omega (arith, bit-one z h, count-zero))))
    (λ t. rw (lits-negative z t) (eq-eqb (count 0 + count (bit_of z)) 1 (omega (arith, bit-one z h, count-zero))))
    (cases (is_positive z))

-- ---- the literals of a variable, from its bit

bit-of : (v : ℕ) (z : ℤ) → is_literal z ≡ true → size z ≡ suc v → bit_of z ≡ 2 ^ v
bit-of v z h e = let place : size z - 1 ≡ v = omega arith in bit-literal z h ∙ ap (λ (k : ℕ). 2 ^ k) place

module _ (v : ℕ) (below : v < 64) where
  positive-literal : is_literal (pos (suc v)) ≡ true
  unfolding size
  positive-literal = sized-literal (pos (suc v)) (record { some = omega arith; most = omega arith })

  negative-literal : is_literal (negsuc v) ≡ true
  unfolding size
  negative-literal = sized-literal (negsuc v) (record { some = omega arith; most = omega arith })

  lits-of-positive : lits_of (pos (suc v)) ≡ record { positive = 2 ^ v; negative = 0 }
  unfolding size is_positive
  lits-of-positive =
      lits-positive (pos (suc v)) (lt-ltb 0 (suc v) (omega arith))
      ∙ lits-ext _ _ (bit-of v (pos (suc v)) positive-literal refl) refl

  lits-of-negative : lits_of (negsuc v) ≡ record { positive = 0; negative = 2 ^ v }
  unfolding size is_positive
  lits-of-negative = lits-negative (negsuc v) refl ∙ lits-ext _ _ refl (bit-of v (negsuc v) negative-literal refl)

-- ---- the literal of a set

-- l is the set of a literal
abbrev pub OfOne : Lits → Type 0
OfOne l = (z : ℤ) × (is_literal z ≡ true) × (l ≡ lits_of z)

one_of_two : (a b : ℕ) → a + b ≡ 1 → ((a ≡ 1) × (b ≡ 0)) ⊎ ((a ≡ 0) × (b ≡ 1))
one_of_two zero b e = inr (refl, omega arith)
one_of_two (suc a) b e = inl (omega arith, omega arith)

-- a mask of one is a power of two
only : (m : ℕ) → m < 2 ^ 64 → count m ≡ 1 → (v : ℕ) × (v < 64) × (m ≡ 2 ^ v)
only m f e =
    let some : 0 < m = ⊎_elim (λ z. absurd (omega (arith, ap count z, count-zero))) (λ p. p) (eq-zero-or-pos m) in
    (count_trailing_zeros 64 m, trailing_lt 64 f some, count-one f e)

pub one-lits : (l : Lits) → Held l → is_one l ≡ true → OfOne l
unfolding is_one
one-lits l held h =
    ⊎_elim
    (λ (w : (count l.positive ≡ 1) × (count l.negative ≡ 0)).
    let o = only l.positive held.positives w.0 in (
      pos (suc o.0),
      positive-literal o.0 o.1,
      lits-ext l _ o.2 (count-empty held.negatives w.1) ∙ sym (lits-of-positive o.0 o.1),
    ))
    (λ (w : (count l.positive ≡ 0) × (count l.negative ≡ 1)).
    let o = only l.negative held.negatives w.1 in (
      negsuc o.0,
      negative-literal o.0 o.1,
      lits-ext l _ (count-empty held.positives w.0) o.2 ∙ sym (lits-of-negative o.0 o.1),
    ))
    (one_of_two (count l.positive) (count l.negative) (eqb-true (count l.positive + count l.negative) 1 h))
