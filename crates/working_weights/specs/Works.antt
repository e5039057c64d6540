-- The working weights as code keeps them, row by row in words, and the two shares of a row's weight.
use Rattle.std.specs.Prelude.{ℕ, ◌<◌, List, ◌≡◌, cond, not, length, get_or}
use Rattle.literals.specs.Lits.{is_empty}
use Rattle.rules.specs.declared.Part.{Part}
use Rattle.rules.specs.declared.Row.{Row}
use Rattle.rules.specs.Desk.{satisfied}
use Rattle.rules.specs.Bound.{weight_where}
use Rattle.rules.specs.Groups.{working_weight}
use Rattle.desk_laws.specs.Charged.{charged_row}
use Rattle.working_weights.specs.declared.Shares.{Shares}

-- a row's weight where the row is unsatisfied
unfoldable pub unsatisfied_weight : Part → Row → ℕ
unsatisfied_weight p row = cond (satisfied p row.lits) 0 row.weight

-- what is lost has a charge where the row is hard
unfoldable pub shares_of : Part → ℕ → Row → Shares
shares_of p charge row = record { lost = weight_where is_empty p (charged_row charge row); working = weight_where (λ l. not (is_empty l)) p row }

-- the first n words are the working weights of the first n rows; there are as many words as before
pub record Works (d : List ℕ) (p : Part) (n : ℕ) (before words : List ℕ) : Type 0 where
  pub kept : length words ≡ length before
  pub each : (i : ℕ) → i < n → get_or words i 0 ≡ working_weight d p i
