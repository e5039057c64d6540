-- Well formed, branch by branch: which of (a) to (e) decides, and what (a) and (b) say in numbers.
use Prim.Native.Nat.{ℕ, ◌+◌, ◌*◌, ◌≤◌}
use mathlib.Core.Path.{◌≡◌}
use mathlib.Core.List.{List}
use mathlib.Core.Bool.{true, false}
use lib.ListN.{length}
use lib.Dec.{leb, ltb}
use borrow.Author.Tests.{leb-true, ltb-true, ltb-false, lt-leb, le-leb}
use Rattle.masks.proofs.Choice.{and_left, and_right}
use Rattle.literals.specs.Literal.{most_variables}
use Rattle.rules.specs.Table.{row_words, most_rows, most_weight}
use Rattle.rules.specs.Desk.{head_words, variables, in_use, capacity, standing, loaded, most_capacity, most_steps, entry_words, row_place, desk_words}
use Rattle.rules.specs.Desk.{weight_on, reaches, in_limits, rows_sound, weight_fits, masks_nest, well_formed}

-- (a) and (b) in numbers
pub record Counted (d : List ℕ) : Type 0 where
  pub capacity_fits : capacity d ≤ most_capacity
  pub reach : head_words + row_words * capacity d + most_steps * entry_words ≤ length d
  pub variables_fit : variables d ≤ most_variables
  pub loaded_fits : loaded d ≤ most_rows
  pub loaded_in_use : loaded d ≤ in_use d
  pub in_use_fits : in_use d ≤ capacity d
  pub standing_fits : standing d ≤ most_steps

pub counted : (d : List ℕ) → reaches d ≡ true → in_limits d ≡ true → Counted d
unfolding reaches in_limits desk_words row_place
counted d a b =
    let b1 = and_right (leb (variables d) most_variables) _ b in
    let b2 = and_right (leb (loaded d) most_rows) _ b1 in
    let b3 = and_right (leb (loaded d) (in_use d)) _ b2 in
    record {
      capacity_fits = leb-true _ _ (and_left (leb (capacity d) most_capacity) _ a);
      reach = leb-true (head_words + row_words * capacity d + most_steps * entry_words) (length d) (and_right (leb (capacity d) most_capacity) _ a);
      variables_fit = leb-true _ _ (and_left (leb (variables d) most_variables) _ b);
      loaded_fits = leb-true _ _ (and_left (leb (loaded d) most_rows) _ b1);
      loaded_in_use = leb-true _ _ (and_left (leb (loaded d) (in_use d)) _ b2);
      in_use_fits = leb-true _ _ (and_left (leb (in_use d) (capacity d)) _ b3);
      standing_fits = leb-true _ _ (and_right (leb (in_use d) (capacity d)) _ b3);
    }

-- (d), from the sum that is held to its limit as it grows
pub fits_not : (d : List ℕ) → ltb most_weight (weight_on d) ≡ true → weight_fits d ≡ false
unfolding weight_fits
fits_not d over = lt-leb (weight_on d) most_weight (ltb-true _ _ over)

pub fits-so : (d : List ℕ) → ltb most_weight (weight_on d) ≡ false → weight_fits d ≡ true
unfolding weight_fits
fits-so d within = le-leb (weight_on d) most_weight (ltb-false _ _ within)

module _ (d : List ℕ) where
  pub not_a : reaches d ≡ false → well_formed d ≡ false
  unfolding well_formed
  not_a a = rw a

  pub not-b : reaches d ≡ true → in_limits d ≡ false → well_formed d ≡ false
  unfolding well_formed
  not-b a b = rw (a, b)

  pub not-c : reaches d ≡ true → in_limits d ≡ true → rows_sound d ≡ false → well_formed d ≡ false
  unfolding well_formed
  not-c a b c = rw (a, b, c)

  pub not-d : reaches d ≡ true → in_limits d ≡ true → rows_sound d ≡ true → weight_fits d ≡ false → well_formed d ≡ false
  unfolding well_formed
  not-d a b c w = rw (a, b, c, w)

  pub then-e : reaches d ≡ true → in_limits d ≡ true → rows_sound d ≡ true → weight_fits d ≡ true → well_formed d ≡ masks_nest d
  unfolding well_formed
  then-e a b c w = rw (a, b, c, w)
