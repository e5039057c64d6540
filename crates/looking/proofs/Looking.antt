-- A row that is looked at. Its unit decides a variable more, so that there are never more entries than decided variables, and there is room for it.
use Prim.Native.Nat.{ℕ, ◌+◌, ◌^◌, ◌<◌}
use mathlib.Core.Path.{◌≡◌, refl, sym, ap, ◌∙◌}
use mathlib.Core.Bool.{Bool, true, false, not, ◌&&◌, or-false}
use mathlib.Core.Logic.{⊎_elim}
use mathlib.Core.List.{List}
use native.Mathlib.Nat.{pos_of_ne-zero}
use native.Mathlib.Omega.{arith}
use borrow.Author.Tests.{eqb-true, eq-eqb, ne_eqb, not-false}
use lib.Bits.{bit_and, bit_or, or_zero_l, and_zero_r}
use lib.Dec.{eqb}
use lib.ListN.{get_or, set, length-set}
use lib.Seq.{get_or-set_same, get_or-set_other}
use Rattle.masks.specs.Masks.{count, without, none}
use Rattle.masks.proofs.Choice.{and_left, and_right, both, clash, not_so, same_test, eq-or-ne}
use Rattle.masks.proofs.Counts.{count-le, count-or, count-split, count-empty, count-pos}
use Rattle.masks.proofs.Sets.{or-empty, apart_of, without-zero, without-self, without-lt, without-apart, and-lt-left}
use Rattle.literals.specs.declared.Lits.{Lits}
use Rattle.literals.specs.Lits.{variables_of, is_empty, is_one}
use Rattle.literals.proofs.TwoMasks.{empty-masks, masks-empty}
use Rattle.rules.specs.declared.Part.{Part}
use Rattle.rules.specs.Desk.{satisfied, remnant}
use Rattle.rules.specs.Groups.{Hunt, made_true, conflict_at, forced_at}
use Rattle.units.proofs.Ones.{one_left, left_one}
use Rattle.group_laws.proofs.Parts.{left-undecided}
use Rattle.group_laws.proofs.Trails.{trail-stored}
use Rattle.looking.specs.declared.Trail.{Trail}
use Rattle.looking.specs.Looks.{is_found, hunt_of, conflicting, looked_at, Roomy, sided}

-- ---- whether there is a conflict

module _ (t : Trail) where
  pub not_found : t.found ≡ 0 → is_found t ≡ false
  not_found e = rw e

  pub is_found_lem : (t.found ≡ 0 → ⊥) → is_found t ≡ true
  is_found_lem h = rw (ne_eqb t.found 0 h)

  pub unfound : is_found t ≡ false → t.found ≡ 0
  unfound e = eqb-true t.found 0 (not-false (eqb t.found 0) e)

-- ---- one literal

pub unit-by-ones : (l : Lits) → l.positive < 2 ^ 64
    → (eqb (count (bit_or l.positive l.negative)) 1 && eqb (bit_and l.positive l.negative) 0) ≡ is_one l
unit-by-ones l h =
    let a = l.positive in
    let b = l.negative in
    let one : Bool = eqb (count (bit_or a b)) 1 in
    let apart : Bool = eqb (bit_and a b) 0 in
    same_test
    (λ t. one_left a b (eqb-true (count (bit_or a b)) 1 (and_left one apart t)) (eqb-true (bit_and a b) 0 (and_right one apart t)))
    (λ t. let u = left_one a b h t in both (eq-eqb (count (bit_or a b)) 1 u.0) (eq-eqb (bit_and a b) 0 u.1))

-- two ways to be none
module _ (l : Lits) (low : l.positive < 2 ^ 64) where
  pub ones_none : (count (bit_or l.positive l.negative) ≡ 1 → ⊥) → is_one l ≡ false
  ones_none h = not_so (λ t. h (left_one l.positive l.negative low t).0)

  pub twice-none : (bit_and l.positive l.negative ≡ 0 → ⊥) → is_one l ≡ false
  twice-none h = not_so (λ t. h (left_one l.positive l.negative low t).1)

-- ---- the literal against an entry

-- one mask tells
pub held-positive : (m : ℕ) (l : Lits) → not (eqb (bit_and l.positive m) 0) ≡ satisfied (sided m true) l
unfolding satisfied none
held-positive m l = rw (without-self, and_zero_r) (sym (or-false _))

pub held-negative : (m : ℕ) (l : Lits) → not (eqb (bit_and l.negative m) 0) ≡ satisfied (sided m false) l
unfolding satisfied none
held-negative m l = rw (and_zero_r, without-zero)

-- the entry's variable is false, or true, where it is not against it
pub against-none : (m truths : ℕ) → without m truths ≡ 0 → sided m false ≡ record { decided = m; truths = without m truths }
against-none m truths z = λ j. record { decided = m; truths = sym z j }

pub against-one : (m truths : ℕ) → m < 2 ^ 64 → count m ≡ 1 → (without m truths ≡ 0 → ⊥)
    → sided m true ≡ record { decided = m; truths = without m truths }
against-one m truths low one some =
    let ones : 0 < count (without m truths) = count-pos (without-lt 64 truths low) (pos_of_ne-zero some) in
    let all : without m truths ≡ m = without-apart m truths (count-empty (and-lt-left 64 truths low) (omega (arith, count-split m truths))) in
    λ j. record { decided = m; truths = sym all j }

-- ---- it is made true

module _ (l : Lits) (q : Part) (low : l.positive < 2 ^ 64) (one : is_one l ≡ true) (fresh : bit_and q.decided (variables_of l) ≡ 0) where
  pub one_more : count (made_true l q).decided ≡ count q.decided + 1
  unfolding made_true variables_of
  one_more = omega (arith, count-or q.decided (variables_of l) fresh, (left_one l.positive l.negative low one).0)

  pub room-left : count q.decided < 64
  room-left = omega (arith, one_more, count-le (made_true l q).decided)

-- the unit's mask and its row, stored behind the last
module _ (t : Trail) (ms rs : List ℕ) (i : ℕ) (l : Lits) (roomy : Roomy t ms rs) (within : t.entries < 64) (q : Part) (made : q ≡ made_true l t.q) where
  abbrev more : Trail
  more = record { q = q; entries = t.entries + 1; found = t.found; conflict = t.conflict }

  pub forced-stored : hunt_of more (set ms t.entries (bit_or l.positive l.negative)) (set rs t.entries i) ≡ forced_at i l (hunt_of t ms rs)
  unfolding forced_at variables_of
  forced-stored =
      λ k.
      record {
        q = made k;
        trail = trail-stored ms rs t.entries (bit_or l.positive l.negative) i (omega (arith, roomy.lent.masks)) (omega (arith, roomy.lent.rows)) k;
        found = is_found t;
        conflict = t.conflict;
      }

  single_more : count (bit_or l.positive l.negative) ≡ 1 → (k : ℕ) → k < t.entries + 1
      → count (get_or (set ms t.entries (bit_or l.positive l.negative)) k 0) ≡ 1
  single_more one k less =
      let m = bit_or l.positive l.negative in
      ⊎_elim
      (λ (e : k ≡ t.entries). rw (e, get_or-set_same ms t.entries m 0 (omega (arith, roomy.lent.masks))) one)
      (λ ne. rw (get_or-set_other ms t.entries k m 0 ne) (roomy.single k (omega arith)))
      (eq-or-ne k t.entries)

  pub forced-roomy : count (bit_or l.positive l.negative) ≡ 1 → count (made_true l t.q).decided ≡ count t.q.decided + 1
      → Roomy more (set ms t.entries (bit_or l.positive l.negative)) (set rs t.entries i)
  forced-roomy one grown =
      record {
        short = omega (arith, grown, roomy.short, ap (λ (p : Part). count p.decided) made);
        lent = record { masks = simp length-set roomy.lent.masks; rows = simp length-set roomy.lent.rows };
        single = single_more one;
      }

-- ---- a row under q, one way at a time

module _ (i : ℕ) (row : Lits) (h : Hunt) where
  abbrev rest : Lits
  rest = remnant h.q row

  pub look-satisfied : satisfied h.q row ≡ true → h ≡ looked_at i row h
  unfolding looked_at
  look-satisfied s = rw s

  module _ (unsatisfied : satisfied h.q row ≡ false) where
    pub look-conflict : bit_or rest.positive rest.negative ≡ 0 → conflict_at i h ≡ looked_at i row h
    unfolding looked_at
    look-conflict z =
        let m = or-empty rest.positive rest.negative z in
        rw (unsatisfied, masks-empty rest m.0 m.1)

    module _ (some : bit_or rest.positive rest.negative ≡ 0 → ⊥) where
      some_left : is_empty rest ≡ false
      some_left = not_so (λ t. some (let m = empty-masks rest t in rw (m.0, m.1) (or_zero_l 0)))

      forced : is_one rest ≡ true → forced_at i rest h ≡ looked_at i row h
      unfolding looked_at
      forced one = rw (unsatisfied, some_left, one)

      pub look-forced : (l : Lits) → l ≡ rest → is_one l ≡ true → (k : Hunt) → k ≡ forced_at i l h → k ≡ looked_at i row h
      look-forced l e one k forces = forces ∙ ap (λ (m : Lits). forced_at i m h) e ∙ forced (sym (ap is_one e) ∙ one)

      pub look-idle : is_one rest ≡ false → h ≡ looked_at i row h
      unfolding looked_at
      look-idle more = rw (unsatisfied, some_left, more)

-- what is left of a row is undecided
pub left-fresh : (q : Part) (row : Lits) → bit_and q.decided (variables_of (remnant q row)) ≡ 0
left-fresh q row = apart_of q.decided (variables_of (remnant q row)) (λ v t. not_so (λ u. clash t (left-undecided q row v u)))

-- the conflict keeps the trail
pub conflict-kept : (i : ℕ) (t : Trail) (ms rs : List ℕ) → hunt_of (conflicting i t) ms rs ≡ conflict_at i (hunt_of t ms rs)
unfolding conflicting conflict_at
conflict-kept i t ms rs = refl

pub conflict-roomy : (i : ℕ) (t : Trail) (ms rs : List ℕ) → Roomy t ms rs → Roomy (conflicting i t) ms rs
unfolding conflicting
conflict-roomy i t ms rs roomy = record { short = roomy.short; lent = roomy.lent; single = roomy.single }
