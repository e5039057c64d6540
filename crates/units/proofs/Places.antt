-- Where the sums of units stand: a literal is the one at its place, and each place is that of its literal, so that a weight added at a literal's
-- place is added to that literal's sum and to no other.
use Prim.Native.Nat.{ℕ, ◌+◌, ◌-◌, ◌^◌, ◌≤◌, ◌<◌}
use mathlib.Core.Path.{◌≡◌, refl, sym, ap, subst, ◌∙◌}
use mathlib.Core.Bool.{true, false, cond}
use mathlib.Core.List.{List}
use mathlib.Core.Logic.{⊎_elim}
use native.Mathlib.Nat.{add-zero}
use native.Mathlib.Omega.{arith}
use borrow.Author.Tests.{eqb-true, eq-eqb, ne_eqb, lt-ltb, le-ltb}
use lib.Bits.{bit_or, or_zero_l, or_zero_r, or_lt}
use lib.Count.{count_trailing_zeros}
use lib.Dec.{eqb}
use lib.ListN.{length, get_or, set, length-set}
use lib.Pow.{pow_pos}
use Rattle.masks.specs.Masks.{count, single}
use Rattle.masks.proofs.Choice.{cases, lt-or-le, not_so, clash, same_test, cond-elim}
use Rattle.masks.proofs.Counts.{count-zero, count-pow, trailing-pow, trailing_lt}
use Rattle.masks.proofs.Sets.{single-pow}
use Rattle.masks.proofs.Words.{get_d_set}
use Rattle.literals.specs.declared.Lits.{Lits}
use Rattle.literals.specs.Literal.{most_variables}
use Rattle.literals.specs.Lits.{is_one, same_lits}
use Rattle.literals.proofs.TwoMasks.{Held, same-eq, eq-same}
use Rattle.desk_laws.proofs.Readings.{Alone}
use Rattle.units.specs.Adds.{positive_unit, negative_unit, sum_words, unit_at, place_of, place_adds, Grown}

-- ---- places and literals

pub positive-at : (v : ℕ) → v < most_variables → unit_at v ≡ positive_unit v
unfolding unit_at
positive-at v h = rw (lt-ltb v most_variables h)

pub negative-at : (v : ℕ) → v < most_variables → unit_at (most_variables + v) ≡ negative_unit v
unfolding unit_at
negative-at v h =
    let back : most_variables + v - most_variables ≡ v = omega arith in
    rw (le-ltb (most_variables + v) most_variables (omega arith), back)

module _ (v : ℕ) (h : v < most_variables) where
  place-positive : place_of (record { positive = 2 ^ v; negative = 0 }) ≡ v
  unfolding place_of
  place-positive = ap (count_trailing_zeros 64) (or_zero_r (2 ^ v)) ∙ trailing-pow 64 v h

  place-negative : place_of (record { positive = 0; negative = 2 ^ v }) ≡ most_variables + v
  unfolding place_of
  place-negative =
      rw (ne_eqb (2 ^ v) 0 (λ e. omega (arith, pow_pos v)))
      (ap (λ (k : ℕ). most_variables + k) (ap (count_trailing_zeros 64) (or_zero_l (2 ^ v)) ∙ trailing-pow 64 v h))

-- what holds of each variable's two literals holds at each place
by_sign : (P : ℕ → Lits → Type 0)
    → ((v : ℕ) → v < most_variables → P v (record { positive = 2 ^ v; negative = 0 }))
    → ((v : ℕ) → v < most_variables → P (most_variables + v) (record { positive = 0; negative = 2 ^ v }))
    → (k : ℕ) → k < sum_words → P k (unit_at k)
by_sign P up down k h =
    ⊎_elim
    (λ (low : k < most_variables). rw (positive-at k low, single-pow k low) (up k low))
    (λ (high : most_variables ≤ k).
    let v : ℕ = k - most_variables in
    let below : v < most_variables = omega arith in
    let e : most_variables + v ≡ k = omega arith in
    subst (λ (j : ℕ). P j (unit_at j)) e (rw (negative-at v below, single-pow v below) (down v below)))
    (lt-or-le k most_variables)

unit-one : (k : ℕ) → k < sum_words → is_one (unit_at k) ≡ true
unfolding is_one
unit-one =
    by_sign (λ k l. eqb (count l.positive + count l.negative) 1 ≡ true)
    (λ v h. eq-eqb (count (2 ^ v) + count 0) 1 (omega (arith, count-pow v h, count-zero)))
    (λ v h. eq-eqb (count 0 + count (2 ^ v)) 1 (omega (arith, count-pow v h, count-zero)))

unit-place : (k : ℕ) → k < sum_words → place_of (unit_at k) ≡ k
unit-place = by_sign (λ k l. place_of l ≡ k) place-positive place-negative

-- ---- a literal alone

-- what a weight adds at each place, where this is left of its row
abbrev pub unit_adds : Lits → ℕ → ℕ → ℕ
unit_adds rest w k = cond (same_lits (unit_at k) rest) w 0

module _ (l : Lits) (one : Alone l) where
  unit-there : unit_at (place_of l) ≡ l
  unit-there = there one
    where
      there : Alone l → unit_at (place_of l) ≡ l
      there (Alone.up v h e) = rw (e, place-positive v h, positive-at v h, single-pow v h)
      there (Alone.down v h e) = rw (e, place-negative v h, negative-at v h, single-pow v h)

  -- it is the literal of its own place alone
  same_place : (k : ℕ) → k < sum_words → same_lits (unit_at k) l ≡ eqb k (place_of l)
  same_place k h =
      same_test
      (λ t. eq-eqb k (place_of l) (sym (unit-place k h) ∙ ap place_of (same-eq (unit_at k) l t)))
      (λ t. eq-same (unit_at k) l (ap unit_at (eqb-true k (place_of l) t) ∙ unit-there))

  -- a weight added at its place is added to its sum, and to no other
  pub unit-adds : (w k : ℕ) → k < sum_words → place_adds (place_of l) w k ≡ unit_adds l w k
  unit-adds w k h = rw (same_place k h)

-- ---- a weight added at a place

pub place-within : (l : Lits) → Held l → 0 < bit_or l.positive l.negative → place_of l < sum_words
unfolding place_of
place-within l held some =
    let v = count_trailing_zeros 64 (bit_or l.positive l.negative) in
    let below : v < 64 = trailing_lt 64 (or_lt 64 l.positive l.negative held.positives held.negatives) some in
    cond-elim (λ (k : ℕ). k < sum_words) (eqb l.negative 0) v (most_variables + v) (λ t. omega arith) (λ t. omega arith)

pub added-at : (at w : ℕ) (sums : List ℕ) → length sums ≡ sum_words → at < sum_words → Grown (place_adds at w) sums (set sums at (get_or sums at 0 + w))
added-at at w sums e within =
    record {
      words = simp length-set;
      each = λ k h. rw (get_d_set sums at k (get_or sums at 0 + w) 0 (omega arith)) (there k);
    }
  where
    there : (k : ℕ) → cond (eqb k at) (get_or sums at 0 + w) (get_or sums k 0) ≡ get_or sums k 0 + cond (eqb k at) w 0
    there k =
        ⊎_elim
        (λ t. rw t (ap (λ (i : ℕ). get_or sums i 0 + w) (sym (eqb-true k at t))))
        (λ t. rw t (sym (add-zero (get_or sums k 0))))
        (cases (eqb k at))

-- ---- no unit, nothing added

pub same-one : (k : ℕ) → k < sum_words → (l : Lits) → same_lits (unit_at k) l ≡ true → is_one l ≡ true
same-one k h l t = ap is_one (sym (same-eq (unit_at k) l t)) ∙ unit-one k h

pub no-unit : (l : Lits) (w : ℕ) → is_one l ≡ false → (k : ℕ) → k < sum_words → unit_adds l w k ≡ 0
no-unit l w e k h =
    let other : same_lits (unit_at k) l ≡ false = not_so (λ t. clash (same-one k h l t) e) in
    rw other

pub none-grown : (adds : ℕ → ℕ) (sums : List ℕ) → ((k : ℕ) → k < sum_words → adds k ≡ 0) → Grown adds sums sums
none-grown adds sums none = record { words = refl; each = λ k h. omega (arith, none k h) }

pub grown-as : (f g : ℕ → ℕ) (before after : List ℕ) → ((k : ℕ) → k < sum_words → f k ≡ g k) → Grown f before after → Grown g before after
grown-as f g before after e grown = record { words = grown.words; each = λ k h. grown.each k h ∙ ap (λ (x : ℕ). get_or before k 0 + x) (e k h) }
