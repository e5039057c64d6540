-- Partial readings and the readings that agree with them on some variables. A row whose literals stand on such variables is satisfied by the
-- reading exactly where the partial reading satisfies it, or where the reading satisfies what is left of it: each literal stands on a decided
-- variable or is left.
use Prim.Native.Nat.{ℕ}
use mathlib.Core.Path.{◌≡◌, refl, sym, ap, ◌∙◌}
use mathlib.Core.Bool.{Bool, true, false, not, ◌&&◌, ◌||◌, and-true, or-true}
use lib.Bits.{bit_and, bit_or, and_comm}
use Rattle.masks.specs.Masks.{has, without, none}
use Rattle.masks.proofs.Choice.{clash}
use Rattle.masks.proofs.Bits.{has-ext, has-and, has-or, has-without}
use Rattle.masks.proofs.Sets.{within, and-within, none_or}
use Rattle.literals.specs.declared.Lits.{Lits}
use Rattle.literals.specs.Lits.{variables_of}
use Rattle.rules.specs.declared.Part.{Part}
use Rattle.rules.specs.Table.{holds}
use Rattle.rules.specs.Desk.{satisfied, remnant}
use Rattle.walk_laws.specs.Sound.{Extends}

-- what is true is decided
abbrev pub Nested : Part → Type 0
Nested q = without q.truths q.decided ≡ 0

-- of the variables in a mask, those that are decided have the value that they have in the reading
abbrev pub Agrees : Part → ℕ → ℕ → Type 0
Agrees q m x = (v : ℕ) → has m v ≡ true → has q.decided v ≡ true → has x v ≡ has q.truths v

pub extends-agrees : (q : Part) (m x : ℕ) → Extends q x → Agrees q m x
extends-agrees q m x e v a b = sym (has-and x q.decided v ∙ rw b (and-true (has x v))) ∙ ap (λ (k : ℕ). has k v) e

pub extends-nested : (q : Part) (x : ℕ) → Extends q x → Nested q
extends-nested q x e = ap (λ (m : ℕ). without m q.decided) (sym e ∙ and_comm x q.decided) ∙ and-within q.decided x

pub agrees-less : (q : Part) (m k x : ℕ) → ((v : ℕ) → has k v ≡ true → has m v ≡ true) → Agrees q m x → Agrees q k x
agrees-less q m k x h a v t = a v (h v t)

-- ---- literals of a row: on decided variables, and left

module _ (q : Part) (x : ℕ) (nested : Nested q) where
  pub true-decided : (v : ℕ) → has q.truths v ≡ true → has q.decided v ≡ true
  true-decided = within q.truths q.decided nested

  pub positive-agreed : (a : ℕ) → Agrees q a x → bit_and a x ≡ bit_or (bit_and a q.truths) (bit_and (without a q.decided) x)
  positive-agreed a h =
      has-ext (λ v. simp (has-and, has-or, has-without) (go (has a v) (has q.decided v) (has q.truths v) (has x v) (h v) (true-decided v)))
    where
      go : (a d t x : Bool) → (a ≡ true → d ≡ true → x ≡ t) → (t ≡ true → d ≡ true) → (a && x) ≡ (a && t || a && not d && x)
      go true true true x k n = k refl refl
      go true true false x k n = k refl refl
      go true false true x k n = absurd (clash (n refl) refl)
      go true false false x k n = refl
      go false d t x k n = refl

  negative-agreed : (a : ℕ) → Agrees q a x → without a x ≡ bit_or (bit_and a (without q.decided q.truths)) (without (without a q.decided) x)
  negative-agreed a h =
      has-ext (λ v. simp (has-and, has-or, has-without) (go (has a v) (has q.decided v) (has q.truths v) (has x v) (h v)))
    where
      go : (a d t x : Bool) → (a ≡ true → d ≡ true → x ≡ t) → (a && not x) ≡ (a && (d && not t) || a && not d && not x)
      go true true true x k = ap not (k refl refl)
      go true true false x k = ap not (k refl refl)
      go true false t x k = refl
      go false d t x k = refl

-- two disjunctions that fail, part by part
pub neither : (a b c d : Bool) → (not (a && b) || not (c && d)) ≡ (not a || not c || (not b || not d))
neither true true true true = refl
neither true true true false = refl
neither true true false true = refl
neither true true false false = refl
neither true false true d = refl
neither true false false d = refl
neither false b c d = refl

-- the variables of literals
pub in-positive : (l : Lits) (v : ℕ) → has l.positive v ≡ true → has (variables_of l) v ≡ true
unfolding variables_of
in-positive l v t = has-or l.positive l.negative v ∙ rw t

pub in-negative : (l : Lits) (v : ℕ) → has l.negative v ≡ true → has (variables_of l) v ≡ true
unfolding variables_of
in-negative l v t = has-or l.positive l.negative v ∙ rw t (or-true (has l.positive v))

-- A row is satisfied where it is already, or where what is left of it is.
pub holds-agreed : (q : Part) (l : Lits) (x : ℕ) → Nested q → Agrees q (variables_of l) x → holds l x ≡ (satisfied q l || holds (remnant q l) x)
unfolding holds satisfied remnant
holds-agreed q l x nested h =
    rw (
      positive-agreed q x nested l.positive (agrees-less q (variables_of l) l.positive x (in-positive l) h),
      negative-agreed q x nested l.negative (agrees-less q (variables_of l) l.negative x (in-negative l) h),
    )
    (simp none_or (neither (none (bit_and l.positive q.truths)) (none (bit_and (without l.positive q.decided) x))
    (none (bit_and l.negative (without q.decided q.truths))) (none (without (without l.negative q.decided) x))))
