-- A well-formed desk as a record of plain facts, (a) to (e), and back.
-- The definition is a conjunction of tests; each test is a fact, and `omega` reads the facts.
-- A set of literals is sound for a count of variables where 5 does not refuse it.
use Prim.Native.Nat.{ℕ, suc, ◌+◌, ◌≤◌, ◌<◌, ◌^◌}
use mathlib.Core.Path.{◌≡◌}
use mathlib.Core.List.{List}
use mathlib.Core.Bool.{Bool, true, false, not, ◌&&◌, ◌||◌, and-eq-true_iff}
use native.Mathlib.Nat.{lt_of_lt_of_le}
use native.Mathlib.Omega.{arith}
use borrow.Author.Tests.{leb-true, le-leb, not-true, not-false}
use lib.ListN.{length}
use lib.Bits.{bit_and}
use lib.Dec.{leb}
use lib.Pow.{pow_mono}
use Rattle.masks.specs.Masks.{none, without, below}
use Rattle.masks.proofs.Choice.{and_left, and_right, both, or-none}
use Rattle.masks.proofs.Bits.{below-lt, lt-below}
use Rattle.masks.proofs.Sets.{none-zero, zero-none}
use Rattle.masks.proofs.Sums.{every-at, every_true}
use Rattle.literals.specs.declared.Lits.{Lits}
use Rattle.literals.specs.Literal.{most_variables}
use Rattle.literals.proofs.TwoMasks.{Held}
use Rattle.rules.specs.Table.{row_words, most_rows, most_weight, bad_lits, bad_mark}
use Rattle.rules.specs.Desk.{head_words, most_capacity, most_steps, variables, in_use, capacity, standing, decided, truths, loaded, row_place, desk_words}
use Rattle.rules.specs.Desk.{row_on, weight_on, reaches, in_limits, rows_sound, weight_fits, masks_nest, well_formed}

-- no variable both ways, none above the count
pub record Sound (n : ℕ) (l : Lits) : Type 0 where
  pub once : bit_and l.positive l.negative ≡ 0
  pub positives : l.positive < 2 ^ n
  pub negatives : l.negative < 2 ^ n

pub record Formed (d : List ℕ) : Type 0 where
  pub roomy : capacity d ≤ most_capacity
  pub reaching : desk_words (capacity d) ≤ length d
  pub named : variables d ≤ most_variables
  pub loads : loaded d ≤ most_rows
  pub kept : loaded d ≤ in_use d
  pub fitting : in_use d ≤ capacity d
  pub steps : standing d ≤ most_steps
  pub sound : (i : ℕ) → i < in_use d → Sound (variables d) (row_on d i).lits
  pub marked : (i : ℕ) → i < in_use d → bad_mark (row_on d i) ≡ false
  pub light : weight_on d ≤ most_weight
  pub nested : without (truths d) (decided d) ≡ 0
  pub within : decided d < 2 ^ variables d

-- ---- literals

pub sound-of : (n : ℕ) (l : Lits) → bad_lits n l ≡ false → Sound n l
unfolding bad_lits
sound-of n l e =
    let meet : Bool = none (bit_and l.positive l.negative) in
    let low : Bool = below l.positive n && below l.negative n in
    let parts = or-none (not meet) (not low) e in
    let lows = not-false low parts.1 in
    record {
      once = zero-none (bit_and l.positive l.negative) (not-false meet parts.0);
      positives = below-lt l.positive n (and_left (below l.positive n) (below l.negative n) lows);
      negatives = below-lt l.negative n (and_right (below l.positive n) (below l.negative n) lows);
    }

-- masks of 64 bits hold it
pub sound-held : {n : ℕ} {l : Lits} → n ≤ 64 → Sound n l → Held l
sound-held h s = record { positives = lt_of_lt_of_le s.positives (pow_mono h); negatives = lt_of_lt_of_le s.negatives (pow_mono h) }

pub of-sound : {n : ℕ} {l : Lits} → Sound n l → bad_lits n l ≡ false
unfolding bad_lits
of-sound {n} {l} s = rw (none-zero s.once, lt-below n s.positives, lt-below n s.negatives)

-- ---- desks

row-sound : (d : List ℕ) → rows_sound d ≡ true → (i : ℕ) → i < in_use d → (bad_lits (variables d) (row_on d i).lits || bad_mark (row_on d i)) ≡ false
unfolding rows_sound
row-sound d e i h =
    not-true (bad_lits (variables d) (row_on d i).lits || bad_mark (row_on d i))
    (every-at (in_use d) (λ j. not (bad_lits (variables d) (row_on d j).lits || bad_mark (row_on d j))) e i h)

pub formed : (d : List ℕ) → well_formed d ≡ true → Formed d
unfolding well_formed reaches in_limits rows_sound weight_fits masks_nest
formed d e =
    let a = (and-eq-true_iff (reaches d) (in_limits d && (rows_sound d && (weight_fits d && masks_nest d)))).0 e in
    let b = (and-eq-true_iff (in_limits d) (rows_sound d && (weight_fits d && masks_nest d))).0 a.1 in
    let c = (and-eq-true_iff (rows_sound d) (weight_fits d && masks_nest d)).0 b.1 in
    let s = (and-eq-true_iff (weight_fits d) (masks_nest d)).0 c.1 in
    let r = (and-eq-true_iff (leb (capacity d) most_capacity) (leb (desk_words (capacity d)) (length d))).0 a.0 in
    let l1 =
    (and-eq-true_iff (leb (variables d) most_variables)
    (leb (loaded d) most_rows && (leb (loaded d) (in_use d) && (leb (in_use d) (capacity d) && leb (standing d) most_steps)))).0 b.0 in
    let l2 = (and-eq-true_iff (leb (loaded d) most_rows) (leb (loaded d) (in_use d) && (leb (in_use d) (capacity d) && leb (standing d) most_steps))).0 l1.1 in
    let l3 = (and-eq-true_iff (leb (loaded d) (in_use d)) (leb (in_use d) (capacity d) && leb (standing d) most_steps)).0 l2.1 in
    let l4 = (and-eq-true_iff (leb (in_use d) (capacity d)) (leb (standing d) most_steps)).0 l3.1 in
    let m = (and-eq-true_iff (none (without (truths d) (decided d))) (below (decided d) (variables d))).0 s.1 in
    record {
      roomy = leb-true (capacity d) most_capacity r.0;
      reaching = leb-true (desk_words (capacity d)) (length d) r.1;
      named = leb-true (variables d) most_variables l1.0;
      loads = leb-true (loaded d) most_rows l2.0;
      kept = leb-true (loaded d) (in_use d) l3.0;
      fitting = leb-true (in_use d) (capacity d) l4.0;
      steps = leb-true (standing d) most_steps l4.1;
      sound = λ i h.
          sound-of (variables d) (row_on d i).lits (or-none (bad_lits (variables d) (row_on d i).lits) (bad_mark (row_on d i)) (row-sound d c.0 i h)).0;
      marked = λ i h. (or-none (bad_lits (variables d) (row_on d i).lits) (bad_mark (row_on d i)) (row-sound d c.0 i h)).1;
      light = leb-true (weight_on d) most_weight s.0;
      nested = zero-none (without (truths d) (decided d)) m.0;
      within = below-lt (decided d) (variables d) m.1;
    }

pub well : {d : List ℕ} → Formed d → well_formed d ≡ true
unfolding well_formed reaches in_limits rows_sound weight_fits masks_nest
well {d} f =
    both (both (le-leb (capacity d) most_capacity f.roomy) (le-leb (desk_words (capacity d)) (length d) f.reaching))
    (both (both (le-leb (variables d) most_variables f.named)
    (both (le-leb (loaded d) most_rows f.loads)
    (both (le-leb (loaded d) (in_use d) f.kept)
    (both (le-leb (in_use d) (capacity d) f.fitting) (le-leb (standing d) most_steps f.steps)))))
    (both (every_true (in_use d) (λ i h. rw (of-sound (f.sound i h), f.marked i h)))
    (both (le-leb (weight_on d) most_weight f.light)
    (both (none-zero f.nested) (lt-below (variables d) f.within)))))

-- the head is lent
pub head-inside : {d : List ℕ} → Formed d → head_words ≤ length d
unfolding desk_words row_place
head-inside f = omega (arith, f.reaching)

-- the words of the rows below the capacity are lent
pub rows_inside : {d : List ℕ} → Formed d → (i : ℕ) → i ≤ capacity d → row_place i ≤ length d
unfolding desk_words row_place
rows_inside f i h = omega (arith, f.reaching)

pub place_mono : {a b : ℕ} → a ≤ b → row_place a ≤ row_place b
unfolding row_place
place_mono h = omega arith

-- a row's words, and the next row behind them; no row begins within the head
pub place-next : (i : ℕ) → row_place (suc i) ≡ row_place i + row_words
unfolding row_place
place-next i = omega arith

pub head-before : (i : ℕ) → head_words ≤ row_place i
unfolding row_place
head-before i = omega arith
