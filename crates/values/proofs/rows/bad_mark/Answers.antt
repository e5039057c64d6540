-- `bad_mark` meets its contract: the code is the definition, with `is_hard` as it ensures.
use Rattle.rules.specs.Table.{bad_mark}
use Rattle.values.proofs.rows.bad_mark.Goals as goal

pub returns : goal.returns
unfolding bad_mark
returns c = rw c.is_hard.ensures
