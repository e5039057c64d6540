-- `rows_why` meets its contract: the rows passed were fine, and the first that is not answers for all.
use Rattle.std.specs.Prelude.{Ok}
use mathlib.Core.Path.{◌≡◌}
use Rattle.rules.specs.Table.{rows_why}
use Rattle.tables.proofs.judge.rows_why.Given as goal

abbrev pub invariant-loop-i : goal.invariant-loop-i
invariant-loop-i l = rows_why l.variables l.table l.i ≡ Ok tt
