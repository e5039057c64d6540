-- Two literals in a remnant, as signed numbers and as sets of one: `Pair` and `shows` say the same.
-- Sizes differ exactly where the bits are apart, and taking one literal out of the two leaves the other.
use Prim.Native.Nat.{ℕ, ◌-◌, ◌^◌}
use mathlib.Core.Path.{◌≡◌, sym, ap, ◌∙◌}
use mathlib.Core.Bool.{true}
use native.Mathlib.Omega.{arith}
use lib.Bits.{bit_and, bit_or, or_comm, and_self}
use lib.IntN.{ℤ}
use Rattle.masks.specs.Masks.{without}
use Rattle.masks.proofs.Choice.{clash, not_so, both}
use Rattle.masks.proofs.Bits.{has-or}
use Rattle.masks.proofs.Sets.{apart, apart_of, pow_apart, none-zero, without-or-right, without-apart}
use Rattle.literals.specs.declared.Lits.{Lits}
use Rattle.literals.specs.Literal.{size, is_literal, opposite, bit_of, lits_of}
use Rattle.literals.specs.Lits.{together, less, variables_of}
use Rattle.literals.proofs.Opposites.{literal-sized, literal-opposite}
use Rattle.literals.proofs.OneBit.{bit-literal, bit-some}
use Rattle.literals.proofs.TwoMasks.{lits-ext, eq-same, variables-lits}
use Rattle.literals.proofs.OneLiteral.{lits-one}
use Rattle.rules.specs.Rewrite.{shows}
use Rattle.step_laws.specs.StepTable.{Pair}
use Rattle.step_laws.proofs.Sounds.{shows-facts}

-- ---- variables of their own

pub own-apart : (a b : ℤ) → is_literal a ≡ true → is_literal b ≡ true → (size a ≡ size b → ⊥) → bit_and (variables_of (lits_of a)) (variables_of (lits_of b)) ≡ 0
own-apart a b ha hb n =
    rw (variables-lits a, variables-lits b, bit-literal a ha, bit-literal b hb)
    (pow_apart (size a - 1) (size b - 1) (λ e. n (omega (arith, (literal-sized a ha).some, (literal-sized b hb).some))))

pub apart-own : (a b : ℤ) → is_literal a ≡ true → is_literal b ≡ true → bit_and (variables_of (lits_of a)) (variables_of (lits_of b)) ≡ 0 → size a ≡ size b → ⊥
apart-own a b ha hb e same =
    let bits : bit_of b ≡ bit_of a = bit-literal b hb ∙ ap (λ (s : ℕ). 2 ^ (s - 1)) (sym same) ∙ sym (bit-literal a ha) in
    let none_left : bit_and (bit_of a) (bit_of b) ≡ 0 = rw (← variables-lits a, ← variables-lits b) e in
    let whole : bit_and (bit_of a) (bit_of b) ≡ bit_of a = ap (bit_and (bit_of a)) bits ∙ and_self (bit_of a) in
    omega (arith, bit-some a ha)

-- ---- one of two taken out

pub masks-apart : (x y z t : ℕ) → bit_and (bit_or x y) (bit_or z t) ≡ 0 → bit_and z x ≡ 0
masks-apart x y z t e =
    apart_of z x (λ v h. not_so (λ k. clash (has-or z t v ∙ rw h) (apart (bit_or x y) (bit_or z t) e v (has-or x y v ∙ rw k))))

pub less-shown : (l m : Lits) → bit_and (variables_of l) (variables_of m) ≡ 0 → less (together l m) l ≡ m
unfolding less together variables_of
less-shown l m e =
    lits-ext _ m
    (ap (λ (x : ℕ). without x l.positive) (or_comm l.positive m.positive) ∙ without-or-right m.positive l.positive
    ∙ without-apart m.positive l.positive (masks-apart l.positive l.negative m.positive m.negative e))
    (ap (λ (x : ℕ). without x l.negative) (or_comm l.negative m.negative) ∙ without-or-right m.negative l.negative
    ∙ without-apart m.negative l.negative
    (masks-apart l.negative l.positive m.negative m.positive (rw (or_comm l.negative l.positive, or_comm m.negative m.positive) e)))

-- ---- the two ways to say it

module _ (r : Lits) (a b : ℤ) (ha : is_literal a ≡ true) (hb : is_literal b ≡ true) where
  pub pair-shows : Pair r a b → shows r (lits_of a) (lits_of b) ≡ true
  unfolding shows
  pair-shows p =
      both (lits-one a ha)
      (both (lits-one b hb)
      (both (none-zero (own-apart a b ha hb p.own)) (eq-same r (together (lits_of a) (lits_of b)) p.whole)))

  pub shows-pair : shows r (lits_of a) (lits_of b) ≡ true → Pair r a b
  shows-pair e =
      let s = shows-facts r (lits_of a) (lits_of b) e in
      record { whole = s.whole; own = apart-own a b ha hb s.apart }

  -- what the remnant holds beside the first literal
  pub pair-less : Pair r a b → less r (lits_of a) ≡ lits_of b
  pair-less p = ap (λ (x : Lits). less x (lits_of a)) p.whole ∙ less-shown (lits_of a) (lits_of b) (own-apart a b ha hb p.own)

pub opposite-is : (a : ℤ) → is_literal a ≡ true → is_literal (opposite a) ≡ true
opposite-is a h = literal-opposite a ∙ h
