-- The sums of units that the bound gathers.
use Rattle.std.specs.Prelude.{ℕ, ◌+◌, ◌<◌, min, List, ◌≡◌, cond, length, get_or}
use Rattle.masks.specs.Masks.{has}
use Rattle.masks.specs.Sums.{sum}
use Rattle.literals.specs.Literal.{most_variables}
use Rattle.rules.specs.declared.Part.{Part}
use Rattle.rules.specs.Desk.{row_on}
use Rattle.units.specs.Adds.{sum_words, row_adds}

-- each of the sums is that of the first n rows
pub record Gathered (d : List ℕ) (p : Part) (n : ℕ) (sums : List ℕ) : Type 0 where
  pub words : length sums ≡ sum_words
  pub each : (k : ℕ) → k < sum_words → get_or sums k 0 ≡ sum n (λ i. row_adds p (row_on d i) k)

-- what a variable adds to the foreseen part
abbrev pub smaller_at : ℕ → ℕ → List ℕ → ℕ
smaller_at decided v sums = cond (has decided v) 0 (min (get_or sums v 0) (get_or sums (most_variables + v) 0))
