-- The words that a walk works in: none by document 01's bound, a working weight for each row in use by groups.
use Rattle.std.specs.Prelude.{ℕ, List}
use Rattle.rules.specs.declared.Choice.{Choice}
use Rattle.rules.specs.Desk.{in_use}

abbrev pub work_by : Choice → List ℕ → ℕ
work_by Choice.Units d = 0
work_by Choice.Groups d = in_use d
