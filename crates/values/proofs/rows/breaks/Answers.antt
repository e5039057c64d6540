-- `breaks` meets its contract: the code is the definition, with `is_hard` and `holds` as they ensure.
use Rattle.rules.specs.Table.{breaks}
use Rattle.values.proofs.rows.breaks.Goals as goal

pub returns : goal.returns
unfolding breaks
returns c = rw (c.is_hard.ensures, c.holds.ensures)
