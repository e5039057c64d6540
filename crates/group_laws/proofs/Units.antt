-- Units under a partial reading that has grown: a unit is satisfied where its variable has its value, nothing of it is left where its variable
-- has the other, and else it is left. A row under a partial reading that has grown is what its remnant was.
use Prim.Native.Nat.{ℕ, ◌+◌, ◌^◌, ◌<◌}
use mathlib.Core.Path.{◌≡◌, refl, sym, ap, ◌∙◌}
use mathlib.Core.Bool.{Bool, true, false, not, ◌&&◌, ◌||◌, or-false, or-true}
use mathlib.Core.Logic.{⊎_elim}
use native.Mathlib.Omega.{arith}
use borrow.Author.Tests.{eq-eqb}
use lib.Bits.{bit_and, bit_or, and_comm, and_zero_l}
use lib.Pow.{pow_pos}
use Rattle.masks.specs.Masks.{has, without, none, single, count}
use Rattle.masks.proofs.Choice.{cases, clash, not_so}
use Rattle.masks.proofs.Bits.{has-ext, has-and, has-or, has-without, has-pow-same}
use Rattle.masks.proofs.Sets.{within, zero-without, without-apart, and_pow, and-pow-apart, pow-within, single-pow, none-zero, zero-none, none_or}
use Rattle.masks.proofs.Counts.{count-pow, count-zero}
use Rattle.literals.specs.declared.Lits.{Lits}
use Rattle.literals.specs.Lits.{variables_of, is_empty, is_one}
use Rattle.literals.proofs.TwoMasks.{lits-ext, masks-empty}
use Rattle.rules.specs.declared.Part.{Part}
use Rattle.rules.specs.Desk.{satisfied, remnant}
use Rattle.rules.specs.Groups.{made_true}
use Rattle.walk_laws.proofs.Agreeing.{Nested, positive-agreed, neither}
use Rattle.walk_laws.proofs.Remnants.{unit}
use Rattle.group_laws.proofs.Parts.{Grows, left-undecided, Unit, unit-at, variables-unit, made-decided, made-truths, made-grows}

-- ---- a row under a partial reading that has grown

module _ (p q : Part) (nested : Nested p) (grown : Grows p q) where
  negative-grown : (a : ℕ) → bit_and a (without q.decided q.truths)
      ≡ bit_or (bit_and a (without p.decided p.truths)) (bit_and (without a p.decided) (without q.decided q.truths))
  negative-grown a =
      has-ext (λ v. simp (has-and, has-or, has-without)
      (go (has a v) (has p.decided v) (has p.truths v) (has q.decided v) (has q.truths v) (grown.decided v) (grown.truths v)))
    where
      go : (a d t e u : Bool) → (d ≡ true → e ≡ true) → (d ≡ true → u ≡ t) → (a && (e && not u)) ≡ (a && (d && not t) || a && not d && (e && not u))
      go true true t e u h k = rw (h refl, k refl) (sym (or-false (not t)))
      go true false t e u h k = refl
      go false d t e u h k = refl

  pub satisfied-grown : (l : Lits) → satisfied q l ≡ (satisfied p l || satisfied q (remnant p l))
  unfolding satisfied remnant
  satisfied-grown l =
      rw (positive-agreed p q.truths nested l.positive (λ v a d. grown.truths v d), negative-grown l.negative)
      (simp none_or (neither (none (bit_and l.positive p.truths)) (none (bit_and (without l.positive p.decided) q.truths))
      (none (bit_and l.negative (without p.decided p.truths)))
      (none (bit_and (without l.negative p.decided) (without q.decided q.truths)))))

  pub satisfied-still : (l : Lits) → satisfied p l ≡ true → satisfied q l ≡ true
  satisfied-still l s = satisfied-grown l ∙ rw s

  less-grown : (a : ℕ) → without (without a p.decided) q.decided ≡ without a q.decided
  less-grown a =
      has-ext (λ v. simp has-without (go (has a v) (has p.decided v) (has q.decided v) (grown.decided v)))
    where
      go : (a d e : Bool) → (d ≡ true → e ≡ true) → (a && not d && not e) ≡ (a && not e)
      go true true e h = rw (h refl)
      go true false e h = refl
      go false d e h = refl

  pub remnant-grown : (l : Lits) → remnant q (remnant p l) ≡ remnant q l
  unfolding remnant
  remnant-grown l = lits-ext (remnant q (remnant p l)) (remnant q l) (less-grown l.positive) (less-grown l.negative)

-- ---- units

module _ (q : Part) (v : ℕ) (below : v < 64) where
  meets : (m : ℕ) → not (none (bit_and (single v) m)) ≡ has m v
  meets m =
      rw (single-pow v below, and_comm (2 ^ v) m)
      (⊎_elim
      (λ t. rw (and_pow m v t, t, not_so {b = none (2 ^ v)} (λ e. omega (arith, zero-none (2 ^ v) e, pow_pos v))))
      (λ t. rw (none-zero (and-pow-apart m v t), t))
      (cases (has m v)))

  none-met : (m : ℕ) → not (none (bit_and 0 m)) ≡ false
  none-met m = rw (none-zero (and_zero_l m))

  unit-true : satisfied q (unit v true) ≡ has q.truths v
  unfolding satisfied
  unit-true = rw (meets q.truths, none-met (without q.decided q.truths)) (or-false (has q.truths v))

  unit-false : satisfied q (unit v false) ≡ (has q.decided v && not (has q.truths v))
  unfolding satisfied
  unit-false = rw (none-met q.truths, meets (without q.decided q.truths)) (has-without q.decided q.truths v)

  -- where it is satisfied, and where not
  pub unit-value : (t : Bool) → satisfied q (unit v t) ≡ true → has q.truths v ≡ t
  unit-value true s = sym unit-true ∙ s
  unit-value false s = go (has q.decided v) (has q.truths v) (sym unit-false ∙ s)
    where
      go : (d t : Bool) → (d && not t) ≡ true → t ≡ false
      go d false e = refl
      go true true e = sym e
      go false true e = sym e

  pub unit-satisfied : (t : Bool) → has q.decided v ≡ true → has q.truths v ≡ t → satisfied q (unit v t) ≡ true
  unit-satisfied true d e = unit-true ∙ e
  unit-satisfied false d e = unit-false ∙ rw (d, e)

  -- what is left of it
  pub unit-gone : (t : Bool) → has q.decided v ≡ true → is_empty (remnant q (unit v t)) ≡ true
  unfolding remnant
  unit-gone true d = masks-empty (remnant q (unit v true)) (rw (single-pow v below) (pow-within q.decided v d)) (zero-without q.decided)
  unit-gone false d = masks-empty (remnant q (unit v false)) (zero-without q.decided) (rw (single-pow v below) (pow-within q.decided v d))

  single-left : has q.decided v ≡ false → without (single v) q.decided ≡ single v
  single-left d = rw (single-pow v below) (without-apart (2 ^ v) q.decided (and_comm (2 ^ v) q.decided ∙ and-pow-apart q.decided v d))

  pub unit_left : (t : Bool) → has q.decided v ≡ false → remnant q (unit v t) ≡ unit v t
  unfolding remnant
  unit_left true d = lits-ext (remnant q (unit v true)) (unit v true) (single-left d) (zero-without q.decided)
  unit_left false d = lits-ext (remnant q (unit v false)) (unit v false) (zero-without q.decided) (single-left d)

pub unit-one : (v : ℕ) (t : Bool) → v < 64 → is_one (unit v t) ≡ true
unfolding is_one
unit-one v true below =
    rw (single-pow v below) (eq-eqb (count (2 ^ v) + count 0) 1 (omega (arith, count-pow v below, count-zero)))
unit-one v false below =
    rw (single-pow v below) (eq-eqb (count 0 + count (2 ^ v)) 1 (omega (arith, count-pow v below, count-zero)))

pub unit-has : (v : ℕ) (t : Bool) → v < 64 → has (variables_of (unit v t)) v ≡ true
unit-has v t below = ap (λ (m : ℕ). has m v) (variables-unit v t below) ∙ has-pow-same v

-- ---- the literal that is left of a row is made true

module _ (q : Part) (l : Lits) (nested : Nested q) (u : Unit (remnant q l)) where
  abbrev pub made_so : Part
  made_so = made_true (remnant q l) q

  left-has : has (variables_of (remnant q l)) u.variable ≡ true
  left-has = ap (λ (k : Lits). has (variables_of k) u.variable) u.only ∙ unit-has u.variable u.value u.below

  pub made-there : has made_so.decided u.variable ≡ true
  made-there = made-decided q l u.variable ∙ rw left-has (or-true (has q.decided u.variable))

  pub made-value : has made_so.truths u.variable ≡ u.value
  made-value =
      let out : has q.truths u.variable ≡ false =
      not_so (λ t. clash (within q.truths q.decided nested u.variable t) (left-undecided q l u.variable left-has)) in
      made-truths q l u.variable
      ∙ rw out
      (ap (λ (k : Lits). has k.positive u.variable) u.only
      ∙ (unit-at u.variable u.value u.variable u.below (unit-has u.variable u.value u.below)).1)

  pub made-satisfies : satisfied made_so l ≡ true
  made-satisfies =
      satisfied-grown q made_so nested (made-grows q l) l
      ∙ rw (ap (satisfied made_so) u.only ∙ unit-satisfied made_so u.variable u.below u.value made-there made-value)
      (or-true (satisfied q l))
