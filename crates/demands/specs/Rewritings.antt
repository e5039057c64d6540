-- Demand 2 of a rewriting: the step table of document 01 and the paragraph above it, of the desk before and after, word by word.
use Rattle.std.specs.Prelude.{Ok, Err}
use Rattle.std.specs.Prelude.{ℕ, suc, ◌+◌, ◌-◌, ◌*◌, ◌≤◌, ◌<◌, ◌≡◌, List, [], ◌∷◌, ◌++◌, true, not, leb, length, get_or, take, drop, replicate}
use Rattle.literals.specs.declared.Lits.{Lits}
use Rattle.literals.specs.Lits.{no_lits}
use Rattle.rules.specs.declared.Refusal.TheVariants.{BadDesk, TooManySteps, BadNaming, BadFit, DeskFull}
use Rattle.rules.specs.Refusals.{Judged, ◌when◌, as_in, first_due}
use Rattle.rules.specs.Table.{marked_row, with_weight}
use Rattle.rules.specs.Desk.{in_use, capacity, standing, conceded, most_steps, row_place, entry_place, row_on, well_formed}
use Rattle.rules.specs.Steps.{well_named, stored, empties}
use Rattle.step_laws.specs.StepTable.{FitsALine}

-- "14: a named row spent or satisfied, or the remnants don't fit"; "Rewritings refuse hard rows with 14"; "15: the new rows don't fit the desk", in the
-- words of the step table
pub data Fitting (d : List ℕ) (kind : ℕ) (named : List ℕ) : Judged → Type 0 where
  fourteen : ((gives : List Lits) → FitsALine d kind named gives → ⊥) → Fitting d kind named (Err BadFit)
  fifteen : (gives : List Lits) → FitsALine d kind named gives → capacity d < in_use d + length (stored gives) → Fitting d kind named (Err DeskFull)
  neither : (gives : List Lits) → FitsALine d kind named gives → in_use d + length (stored gives) ≤ capacity d → Fitting d kind named (Ok tt)

-- "Rewriting: 10, 11, 13, 14, 15."
pub record Judging (d : List ℕ) (kind : ℕ) (named : List ℕ) (why : Judged) : Type 0 where
  pub rest : Judged
  pub order : why ≡ first_due (BadDesk when not (well_formed d) ∷ TooManySteps when leb most_steps (standing d) ∷ BadNaming when not (well_named d kind named)
      ∷ as_in rest ∷ [])
  pub in_words : well_formed d ≡ true → well_named d kind named ≡ true → Fitting d kind named rest

-- The words that a rewriting may change: rows in use, steps standing and conceded; the named rows; the new rows behind those in use; its entry.
pub data Changes (d named : List ℕ) (added p : ℕ) : Type 0 where
  rows_in_use : p ≡ 1 → Changes d named added p
  steps_standing : p ≡ 3 → Changes d named added p
  conceded_sum : p ≡ 4 → Changes d named added p
  named_row : (i : ℕ) → i < length named → row_place (get_or named i 0) ≤ p → p < row_place (suc (get_or named i 0)) → Changes d named added p
  new_row : row_place (in_use d) ≤ p → p < row_place (in_use d + added) → Changes d named added p
  its_entry : entry_place d (standing d) ≤ p → p < entry_place d (standing d) + 16 → Changes d named added p

-- "A rewriting does just what its published rule says."
pub record Rewritten (d : List ℕ) (kind : ℕ) (named after : List ℕ) : Type 0 where
  -- "w is the smallest weight among the named rows"
  pub w : ℕ
  pub is_smallest : (i : ℕ) → i < length named → w ≤ (row_on d (get_or named i 0)).weight
  pub is_of_one : (i : ℕ) × (i < length named) × (w ≡ (row_on d (get_or named i 0)).weight)
  -- "rows named, in this order, as remnants", and "gives, in this order": a line of the table, and no other
  pub gives : List Lits
  pub fits : FitsALine d kind named gives
  pub fits_only : (other : List Lits) → FitsALine d kind named other → other ≡ gives
  -- "Each named row loses w", and nothing else
  pub loses : (i : ℕ) → i < length named
      → row_on after (get_or named i 0) ≡ with_weight (row_on d (get_or named i 0)) ((row_on d (get_or named i 0)).weight - w)
  -- "new rows have weight w and hold only the literals shown", "New rows take the next row numbers"; "new rows are soft"
  pub news : (j : ℕ) → j < length (stored gives) → row_on after (in_use d + j) ≡ marked_row (get_or (stored gives) j no_lits) w 0
  pub in_use_after : in_use after ≡ in_use d + length (stored gives)
  -- "an empty one is not stored, but adds w to conceded"
  pub conceded_after : conceded after ≡ conceded d + w * empties gives
  -- the step stands, and its entry is: "kind, weight w, count of rows named, up to 12 row numbers, 0 in those not needed, and last the first new row
  -- (the rows in use before the step)"
  pub standing_after : standing after ≡ standing d + 1
  pub entry : take 16 (drop (entry_place d (standing d)) after) ≡ kind ∷ w ∷ length named ∷ (named ++ (replicate (12 - length named) 0 ++ (in_use d ∷ [])))
  -- every other word is as found, past the desk too, and there are no more and no fewer
  pub rest : (p : ℕ) → (Changes d named (length (stored gives)) p → ⊥) → get_or after p 0 ≡ get_or d p 0
  pub long : length after ≡ length d
