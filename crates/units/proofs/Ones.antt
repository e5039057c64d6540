-- Ones in a remnant tell whether nothing is left of a row, or one literal, and so what the row adds to lost and to the sums of units.
-- Of two masks that have one place together, and none in common, one is empty and the other has that place.
use Prim.Native.Nat.{ℕ, ◌+◌, ◌^◌, ◌≤◌, ◌<◌}
use mathlib.Core.Path.{◌≡◌, refl, sym, ap, ◌∙◌}
use mathlib.Core.Bool.{Bool, true, false, cond, not, ◌&&◌, ◌||◌, or-true}
use mathlib.Core.List.{List}
use mathlib.Core.Logic.{⊎_elim}
use native.Mathlib.Nat.{pos_of_ne-zero}
use native.Mathlib.Omega.{arith}
use borrow.Author.Tests.{eqb-true, eq-eqb}
use lib.Bits.{bit_and, bit_or, bit_xor, and_zero_l, or_comm, or_zero_l, or_zero_r}
use lib.Dec.{eqb}
use Rattle.masks.specs.Masks.{count, without, none}
use Rattle.masks.proofs.Choice.{cases, not_so, clash, cond_same}
use Rattle.masks.proofs.Counts.{count-zero, count-pos, count-empty, count-or-and, count-mono}
use Rattle.masks.proofs.Sets.{or-empty, and-or-without, without-lt, and-lt-left, and-within, within-union, within-trans}
use Rattle.literals.specs.declared.Lits.{Lits}
use Rattle.literals.specs.Lits.{is_empty, is_one, same_lits}
use Rattle.literals.proofs.TwoMasks.{Held, lits-ext, empty-masks, masks-empty}
use Rattle.rules.specs.declared.Row.{Row}
use Rattle.rules.specs.declared.Part.{Part}
use Rattle.rules.specs.Desk.{satisfied, remnant}
use Rattle.rules.specs.Bound.{weight_where}
use Rattle.desk_laws.specs.Charged.{charged_row}
use Rattle.desk_laws.proofs.Readings.{one-alone}
use Rattle.units.specs.Adds.{sum_words, unit_at, place_of, weight_under, place_adds, row_adds, Roomy, Grown}
use Rattle.units.proofs.Ways.{some_of, twice_of, some_left, positive-left, negative-left, untrue-test}
use Rattle.units.proofs.Places.{unit_adds, unit-adds, place-within, same-one, no-unit, none-grown, grown-as}

-- ---- a row under a partial reading

by_tests : (satisfied passes twice : Bool) (w : ℕ) → (passes ≡ true → twice ≡ false)
    → cond (not satisfied && passes) w 0 ≡ cond passes (cond (satisfied || twice) 0 w) 0
by_tests true true twice w h = refl
by_tests false true twice w h = rw (h refl)
by_tests true false twice w h = refl
by_tests false false twice w h = refl

-- the weight of a row where it is not satisfied and these variables, left both ways, are none
abbrev weight_but : Part → Row → ℕ → ℕ
weight_but p row twice = cond (satisfied p row.lits || not (eqb twice 0)) 0 row.weight

by-none : (true-up true-down twice : Bool) (w : ℕ) → cond (true-up && true-down && twice) w 0 ≡ cond (not true-up || not true-down || not twice) 0 w
by-none true true true w = refl
by-none true true false w = refl
by-none true false twice w = refl
by-none false true twice w = refl
by-none false false twice w = refl

under-most : (all : Bool) (w : ℕ) → cond all w 0 ≤ w
under-most true w = omega arith
under-most false w = omega arith

pub under-le : (p : Part) (row : Row) (negative : ℕ) → weight_under p row negative ≤ row.weight
under-le p row negative =
    let l = row.lits in
    under-most (eqb (bit_or (bit_and (bit_xor l.positive l.negative) p.truths) negative) l.negative) row.weight

-- ---- what two masks hold

and-in-or : (a b : ℕ) → without (bit_and a b) (bit_or a b) ≡ 0
and-in-or a b = within-trans (bit_and a b) a (bit_or a b) (and-within a b) (within-union a b)

module _ (a b : ℕ) where
  abbrev pub these : Lits
  these = record { positive = a; negative = b }

  some-ones : (count (bit_or a b) ≡ 0 → ⊥) → is_empty these ≡ false
  some-ones h = not_so (λ t. h (let m = empty-masks these t in rw (m.0, m.1, or_zero_l 0) count-zero))

  pub one_left : count (bit_or a b) ≡ 1 → bit_and a b ≡ 0 → is_one these ≡ true
  unfolding is_one
  one_left one apart = eq-eqb (count a + count b) 1 (omega (arith, count-or-and a b, ap count apart, count-zero))

  pub left_one : a < 2 ^ 64 → is_one these ≡ true → (count (bit_or a b) ≡ 1) × (bit_and a b ≡ 0)
  unfolding is_one
  left_one ha t =
      let one = eqb-true (count a + count b) 1 t in
      let fewer = count-mono (bit_and a b) (bit_or a b) (and-in-or a b) in
      let none : count (bit_and a b) ≡ 0 = omega (arith, count-or-and a b) in
      (omega (arith, count-or-and a b), count-empty (and-lt-left 64 b ha) none)

-- ---- what a row adds, by what is left of it. Nothing but its literals is asked, and a charge leaves those.

-- the variables that are left of a row one way, and how many ones are counted there
pub record Left (p : Part) (row : Row) (some ones : ℕ) : Type 0 where
  pub is : some ≡ some_of row.lits.positive row.lits.negative p.decided
  pub held : Held row.lits
  pub within : some < 2 ^ 64
  pub counted : ones ≡ count some

pub left-charged : {p : Part} {row : Row} {some ones : ℕ} (charge : ℕ) → Left p row some ones → Left p (charged_row charge row) some ones
left-charged charge left = record { is = left.is; held = left.held; within = left.within; counted = left.counted }

module _ {p : Part} {row : Row} {some ones : ℕ} (left : Left p row some ones) where
  abbrev up : ℕ
  up = row.lits.positive

  abbrev down : ℕ
  down = row.lits.negative

  abbrev rest : Lits
  rest = record { positive = without up p.decided; negative = without down p.decided }

  abbrev twice : ℕ
  twice = bit_and rest.positive rest.negative

  abbrev negative : ℕ
  negative = bit_and some down

  -- the literals on those variables
  abbrev lone : Lits
  lone = record { positive = bit_xor some negative; negative = negative }

  rest-held : Held rest
  rest-held =
      record {
        positives = without-lt 64 p.decided left.held.positives;
        negatives = without-lt 64 p.decided left.held.negatives;
      }

  lone-held : Held lone
  unfolding without
  lone-held =
      record {
        positives = without-lt 64 down left.within;
        negatives = and-lt-left 64 down left.within;
      }

  weighs : weight_under p row negative ≡ weight_but p row twice
  unfolding satisfied none
  weighs =
      ap (λ (m : ℕ). weight_under p row (bit_and m down)) left.is
      ∙ ap (λ (b : Bool). cond b row.weight 0) (untrue-test up down p.decided p.truths)
      ∙ by-none (eqb (bit_and up p.truths) 0) (eqb (bit_and down (without p.decided p.truths)) 0) (eqb twice 0) row.weight

  where-left : (test : Lits → Bool) → (test rest ≡ true → twice ≡ 0) → weight_where test p row ≡ cond (test rest) (weight_but p row twice) 0
  unfolding weight_where remnant
  where-left test apart =
      by_tests (satisfied p row.lits) (test rest) (not (eqb twice 0)) row.weight (λ t. rw (eq-eqb twice 0 (apart t)))

  -- at the place of each literal
  where-unit : (k : ℕ) → k < sum_words → row_adds p row k ≡ unit_adds rest (weight_but p row twice) k
  where-unit k h =
      where-left (same_lits (unit_at k))
      (λ t. (left_one rest.positive rest.negative rest-held.positives (same-one k h rest t)).1)

  with_none : (m : ℕ) → twice ≡ 0 → m ≡ bit_or m twice
  with_none m e = sym (or_zero_r m) ∙ ap (bit_or m) (sym e)

  -- where no variable is left both ways, these are the row's remnant
  all_left : twice ≡ 0 → some ≡ bit_or rest.positive rest.negative
  all_left e = left.is ∙ with_none (some_of up down p.decided) e ∙ some_left up down p.decided

  all-lone : twice ≡ 0 → lone ≡ rest
  all-lone e =
      let these : ℕ = some_of up down p.decided in
      lits-ext lone rest
      (ap (λ (m : ℕ). bit_xor m (bit_and m down)) left.is ∙ with_none (bit_xor these (bit_and these down)) e ∙ positive-left up down p.decided)
      (ap (λ (m : ℕ). bit_and m down) left.is ∙ with_none (bit_and these down) e ∙ negative-left up down p.decided)

  -- and where one is, the row has no weight
  no-weight : eqb twice 0 ≡ false → weight_but p row twice ≡ 0
  no-weight t =
      let is : Bool = satisfied p row.lits in
      ap (λ (b : Bool). cond b 0 row.weight) (ap (λ (x : Bool). is || not x) t ∙ or-true is)

  empty-some : is_empty rest ≡ true → some ≡ 0
  empty-some t =
      let m = empty-masks rest t in
      left.is ∙ (or-empty (some_of up down p.decided) twice (some_left up down p.decided ∙ rw (m.0, m.1) (or_zero_l 0))).0

  pub none-lost : (ones ≡ 0 → ⊥) → weight_where is_empty p row ≡ 0
  none-lost any =
      let e : is_empty rest ≡ false = not_so (λ t. any (omega (arith, left.counted, ap count (empty-some t), count-zero))) in
      where-left is_empty (λ t. absurd (clash t e)) ∙ rw e

  none-gathered : (sums : List ℕ) → (ones ≡ 1 → ⊥) → Grown (row_adds p row) sums sums
  none-gathered sums other =
      let e : is_one rest ≡ false =
      not_so
      (λ t.
      let o = left_one rest.positive rest.negative rest-held.positives t in
      other (left.counted ∙ ap count (all_left o.1) ∙ o.0)) in
      none-grown (row_adds p row) sums (λ k h. where-unit k h ∙ no-unit rest (weight_but p row twice) e k h)

  pub more-gather : (sums : List ℕ) → 1 < ones → Grown (row_adds p row) sums sums
  more-gather sums more = none-gathered sums (λ z. omega arith)

  -- nothing is left one way: nothing at all, or a variable both ways
  all-lost : some ≡ 0 → cond (is_empty rest) (weight_but p row twice) 0 ≡ weight_but p row twice
  all-lost none =
      ⊎_elim
      (λ t. let m = or-empty rest.positive rest.negative (sym (all_left (eqb-true twice 0 t)) ∙ none) in rw (masks-empty rest m.0 m.1))
      (λ t. rw (no-weight t) (cond_same (is_empty rest) 0))
      (cases (eqb twice 0))

  pub empty-gather : (sums : List ℕ) → some ≡ 0 → Grown (row_adds p row) sums sums
  empty-gather sums none = none-gathered sums (λ e. omega (arith, left.counted, ap count none, count-zero))

  pub empty-lost : (w : ℕ) → w ≡ weight_under p row 0 → some ≡ 0 → w ≡ weight_where is_empty p row
  empty-lost w weigh none =
      let no-negative : negative ≡ 0 = rw none (and_zero_l down) in
      let apart : is_empty rest ≡ true → twice ≡ 0 = λ t. rw (empty-masks rest t).0 (and_zero_l rest.negative) in
      weigh ∙ ap (weight_under p row) (sym no-negative) ∙ weighs ∙ sym (where-left is_empty apart ∙ all-lost none)

  pub one_of : (some ≡ 0 → ⊥) → ones ≤ 1 → ones ≡ 1
  one_of any most = omega (arith, left.counted, count-pos left.within (pos_of_ne-zero any))

  pub place-there : ones ≡ 1 → place_of lone < sum_words
  unfolding without
  place-there one =
      let all : bit_or lone.positive lone.negative ≡ some = or_comm lone.positive negative ∙ and-or-without some down in
      place-within lone lone-held (pos_of_ne-zero (λ z. omega (arith, left.counted, ap count (sym all ∙ z), count-zero)))

  module _ (w : ℕ) (weigh : w ≡ weight_under p row negative) where
    pub roomy-under : {sums : List ℕ} → Roomy row.weight sums → Roomy w sums
    roomy-under roomy = record { words = roomy.words; fits = λ k h. omega (arith, roomy.fits k h, under-le p row negative) }

    -- one place is left
    there : ones ≡ 1 → (k : ℕ) → k < sum_words → place_adds (place_of lone) w k ≡ row_adds p row k
    there one k h =
        ⊎_elim
        (λ t.
        let e = eqb-true twice 0 t in
        let ones = ap count (sym (all_left e)) ∙ sym left.counted ∙ one in
        let alone = one-alone rest rest-held (one_left rest.positive rest.negative ones e) in
        ap (λ (l : Lits). place_adds (place_of l) w k) (all-lone e)
        ∙ unit-adds rest alone w k h
        ∙ ap (λ (x : ℕ). unit_adds rest x k) (weigh ∙ weighs)
        ∙ sym (where-unit k h))
        (λ t.
        let none : w ≡ 0 = weigh ∙ weighs ∙ no-weight t in
        let two : is_one rest ≡ false =
        not_so (λ o. clash (eq-eqb twice 0 (left_one rest.positive rest.negative rest-held.positives o).1) t) in
        rw none (cond_same (eqb k (place_of lone)) 0) ∙ sym (where-unit k h ∙ no-unit rest (weight_but p row twice) two k h))
        (cases (eqb twice 0))

    pub one-gathers : (before after : List ℕ) → ones ≡ 1 → Grown (place_adds (place_of lone) w) before after → Grown (row_adds p row) before after
    one-gathers before after one grown = grown-as (place_adds (place_of lone) w) (row_adds p row) before after (there one) grown
