-- Document 02, C-16, as code counts it: a hard row weighs 0, and a pass over the rows adds a charge to its weight. Of a dead node at least one charge is
-- lost, of any other just what document 01 says.
use Rattle.std.specs.Prelude.{ℕ, ◌+◌, List, cond}
use Rattle.masks.specs.Sums.{sum}
use Rattle.literals.specs.Lits.{is_empty}
use Rattle.rules.specs.declared.Part.{Part}
use Rattle.rules.specs.declared.Row.{Row}
use Rattle.rules.specs.Table.{most_weight, with_weight, is_hard}
use Rattle.rules.specs.Desk.{row_on}
use Rattle.rules.specs.Bound.{weight_where}

-- a charge that is more than any weight
abbrev pub dead_charge : ℕ
dead_charge = most_weight + 1

abbrev pub charged_row : ℕ → Row → Row
charged_row charge row = with_weight row (row.weight + cond (is_hard row) charge 0)

-- what is lost of the first n rows, with the charges
abbrev pub lost_charged : ℕ → List ℕ → Part → ℕ → ℕ
lost_charged charge d p n = sum n (λ i. weight_where is_empty p (charged_row charge (row_on d i)))
