-- `bad_weight` meets its contract: the code is the definition, with `bad_mark` and `is_hard` as they ensure.
use Rattle.rules.specs.Table.{bad_weight}
use Rattle.values.proofs.rows.bad_weight.Goals as goal

pub returns : goal.returns
unfolding bad_weight
returns c = rw (c.bad_mark.ensures, c.is_hard.ensures)
