-- Partial readings that grow by a literal of a row that is made true. A reading that satisfies a row which is unsatisfied, and of which one
-- literal is left, makes that literal true: where it agreed with the partial reading, it still does.
use Prim.Native.Nat.{ℕ, ◌-◌, ◌^◌, ◌<◌}
use mathlib.Core.Path.{◌≡◌, refl, sym, ap, ◌∙◌}
use mathlib.Core.Bool.{Bool, true, false, cond, not, ◌&&◌, ◌||◌, or-false}
use borrow.Author.Tests.{eqb-true}
use lib.Bits.{bit_or, or_zero_l, or_zero_r}
use Rattle.masks.specs.Masks.{has, single}
use Rattle.masks.proofs.Choice.{clash, not_so, so}
use Rattle.masks.proofs.Bits.{has-or, has-without, has-zero, has-pow}
use Rattle.masks.proofs.Sets.{within_of, without-lt, single-pow}
use Rattle.literals.specs.declared.Lits.{Lits}
use Rattle.literals.specs.Literal.{size, is_positive, lits_of}
use Rattle.literals.specs.Lits.{variables_of, is_one}
use Rattle.literals.proofs.OneBit.{bit-literal, place-below}
use Rattle.literals.proofs.OneLiteral.{one-lits}
use Rattle.literals.proofs.TwoMasks.{Held, lits-ext}
use Rattle.rules.specs.declared.Part.{Part}
use Rattle.rules.specs.Table.{holds}
use Rattle.rules.specs.Desk.{remnant}
use Rattle.rules.specs.Groups.{made_true}
use Rattle.walk_laws.proofs.Agreeing.{Nested, Agrees, true-decided, in-positive}
use Rattle.walk_laws.proofs.Remnants.{unit, holds-missed}

-- what is decided stays so, with its value
pub record Grows (q r : Part) : Type 0 where
  pub decided : (v : ℕ) → has q.decided v ≡ true → has r.decided v ≡ true
  pub truths : (v : ℕ) → has q.decided v ≡ true → has r.truths v ≡ has q.truths v

pub grows_same : (q : Part) → Grows q q
grows_same q = record { decided = λ v t. t; truths = λ v t. refl }

pub grows-on : (q r s : Part) → Grows q r → Grows r s → Grows q s
grows-on q r s g h =
    record { decided = λ v t. h.decided v (g.decided v t); truths = λ v t. h.truths v (g.decided v t) ∙ g.truths v t }

-- the variables of a row are decided or left
pub decided-or-left : (q : Part) (l : Lits) (v : ℕ) → has (variables_of l) v ≡ true → has (bit_or q.decided (variables_of (remnant q l))) v ≡ true
unfolding variables_of remnant
decided-or-left q l v t =
    simp (has-or, has-without) (go (has q.decided v) (has l.positive v) (has l.negative v) (simp has-or at t))
  where
    go : (d a b : Bool) → (a || b) ≡ true → (d || (a && not d || b && not d)) ≡ true
    go true a b e = refl
    go false true b e = refl
    go false false true e = refl
    go false false false e = e

-- what is left is not decided
pub left-undecided : (q : Part) (l : Lits) (v : ℕ) → has (variables_of (remnant q l)) v ≡ true → has q.decided v ≡ false
unfolding variables_of remnant
left-undecided q l v t = go (has q.decided v) (has l.positive v) (has l.negative v) (simp (has-or, has-without) at t)
  where
    go : (d a b : Bool) → (a && not d || b && not d) ≡ true → d ≡ false
    go true true true e = sym e
    go true true false e = sym e
    go true false true e = sym e
    go true false false e = sym e
    go false a b e = refl

-- ---- one literal that is left

pub remnant-held : (q : Part) (l : Lits) → Held l → Held (remnant q l)
unfolding remnant
remnant-held q l h = record { positives = without-lt 64 q.decided h.positives; negatives = without-lt 64 q.decided h.negatives }

-- a set of one literal is a unit: a variable with a value
pub record Unit (l : Lits) : Type 0 where
  pub variable : ℕ
  pub value : Bool
  pub below : variable < 64
  pub only : l ≡ unit variable value

pub unit-of : (l : Lits) → Held l → is_one l ≡ true → Unit l
unfolding lits_of
unit-of l held one =
    let w = one-lits l held one in
    let z = w.0 in
    let bit = bit-literal z w.1 ∙ sym (single-pow (size z - 1) (place-below z w.1)) in
    record {
      variable = size z - 1;
      value = is_positive z;
      below = place-below z w.1;
      only = w.2
          ∙ lits-ext (lits_of z) (unit (size z - 1) (is_positive z))
          (ap (λ (m : ℕ). cond (is_positive z) m 0) bit) (ap (λ (m : ℕ). cond (is_positive z) 0 m) bit);
    }

pub variables-unit : (v : ℕ) (t : Bool) → v < 64 → variables_of (unit v t) ≡ 2 ^ v
unfolding variables_of
variables-unit v true below = or_zero_r (single v) ∙ single-pow v below
variables-unit v false below = or_zero_l (single v) ∙ single-pow v below

unit-held : (v : ℕ) (t : Bool) (x : ℕ) → v < 64 → holds (unit v t) x ≡ true → has x v ≡ t
unit-held v true x below h = so (λ f. clash h (ap (λ (b : Bool). holds (unit v (not b)) x) (sym f) ∙ holds-missed x v below))
unit-held v false x below h = not_so (λ f. clash h (ap (λ (b : Bool). holds (unit v (not b)) x) (sym f) ∙ holds-missed x v below))

-- the variable of a unit, and its value
pub unit-at : (u : ℕ) (t : Bool) (v : ℕ) → u < 64 → has (variables_of (unit u t)) v ≡ true → (v ≡ u) × (has (unit u t).positive v ≡ t)
unfolding variables_of
unit-at u true v below h =
    let here : has (single u) v ≡ true = simp (has-or, has-zero, or-false) at h in
    (eqb-true v u (sym (has-pow u v) ∙ ap (λ (m : ℕ). has m v) (sym (single-pow u below)) ∙ here), here)
unit-at u false v below h =
    let here : has (single u) v ≡ true = simp (has-or, has-zero) at h in
    (eqb-true v u (sym (has-pow u v) ∙ ap (λ (m : ℕ). has m v) (sym (single-pow u below)) ∙ here), has-zero v)

-- a reading that satisfies one literal gives its variable that value
pub one-made : (l : Lits) (x : ℕ) → Held l → is_one l ≡ true → holds l x ≡ true → (v : ℕ) → has (variables_of l) v ≡ true → has x v ≡ has l.positive v
one-made l x held one h v t =
    let u = unit-of l held one in
    let at = unit-at u.variable u.value v u.below (ap (λ (k : Lits). has (variables_of k) v) (sym u.only) ∙ t) in
    ap (has x) at.0
    ∙ unit-held u.variable u.value x u.below (ap (λ (k : Lits). holds k x) (sym u.only) ∙ h)
    ∙ sym (ap (λ (k : Lits). has k.positive v) u.only ∙ at.1)

-- ---- a literal that is left is made true

module _ (q : Part) (l : Lits) where
  pub made-decided : (v : ℕ) → has (made_true (remnant q l) q).decided v ≡ (has q.decided v || has (variables_of (remnant q l)) v)
  unfolding made_true
  made-decided v = has-or q.decided (variables_of (remnant q l)) v

  pub made-truths : (v : ℕ) → has (made_true (remnant q l) q).truths v ≡ (has q.truths v || has (remnant q l).positive v)
  unfolding made_true
  made-truths v = has-or q.truths (remnant q l).positive v

  pub made-nested : Nested q → Nested (made_true (remnant q l) q)
  made-nested nested =
      within_of (made_true (remnant q l) q).truths (made_true (remnant q l) q).decided (λ v t.
      made-decided v
      ∙ go (has q.decided v) (has (variables_of (remnant q l)) v) (has q.truths v) (has (remnant q l).positive v)
      (true-decided q 0 nested v) (in-positive (remnant q l) v) (sym (made-truths v) ∙ t))
    where
      go : (d m t a : Bool) → (t ≡ true → d ≡ true) → (a ≡ true → m ≡ true) → (t || a) ≡ true → (d || m) ≡ true
      go true m t a n k e = refl
      go false m true a n k e = absurd (clash (n refl) refl)
      go false m false a n k e = k e

  pub made-grows : Grows q (made_true (remnant q l) q)
  made-grows =
      record {
        decided = λ v t. made-decided v ∙ rw t;
        truths = λ v t.
            let out : has (remnant q l).positive v ≡ false = not_so (λ h. clash t (left-undecided q l v (in-positive (remnant q l) v h))) in
            made-truths v ∙ rw out (or-false (has q.truths v));
      }

  -- what agreed still does, where the reading makes the literal true or the mask has not its variable
  pub made-agrees : (m x : ℕ) → Nested q → Agrees q m x
      → ((v : ℕ) → has m v ≡ true → has (variables_of (remnant q l)) v ≡ true → has x v ≡ has (remnant q l).positive v)
      → Agrees (made_true (remnant q l) q) m x
  made-agrees m x nested h made v t d =
      go (has q.decided v) (has q.truths v) (has (variables_of (remnant q l)) v) (has (remnant q l).positive v)
      (h v t) (true-decided q 0 nested v) (made v t) (in-positive (remnant q l) v) (left-undecided q l v) (sym (made-decided v) ∙ d)
      ∙ sym (made-truths v)
    where
      go : (d b m a : Bool) → (d ≡ true → has x v ≡ b) → (b ≡ true → d ≡ true) → (m ≡ true → has x v ≡ a) → (a ≡ true → m ≡ true)
          → (m ≡ true → d ≡ false) → (d || m) ≡ true → has x v ≡ (b || a)
      go true b true a k n f i u e = absurd (clash refl (u refl))
      go true b false true k n f i u e = absurd (clash (i refl) refl)
      go true true false false k n f i u e = k refl
      go true false false false k n f i u e = k refl
      go false true m a k n f i u e = absurd (clash (n refl) refl)
      go false false m a k n f i u e = f e
