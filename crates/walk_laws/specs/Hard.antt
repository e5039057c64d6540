-- Document 02, C-16: what a reading comes to for a walk. One that breaks a hard row comes to more than any best.
use Rattle.std.specs.Prelude.{ℕ, ◌+◌, List, cond}
use Rattle.rules.specs.Table.{most_weight}
use Rattle.rules.specs.Desk.{desk_weighs, hard_hold_on}

unfoldable pub comes_to : List ℕ → ℕ → ℕ
comes_to d reading = cond (hard_hold_on d reading) (desk_weighs d reading) (most_weight + 1)
