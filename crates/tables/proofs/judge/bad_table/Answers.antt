-- `bad_table` meets its contract: the code is the definition.
use mathlib.Core.Path.{refl}
use Rattle.rules.specs.Table.{bad_table, row_count}
use Rattle.tables.proofs.judge.bad_table.Goals as goal

pub returns : goal.returns
unfolding bad_table row_count
returns c = refl
