-- `bad_lits` meets its contract: the code is the definition, with `below` as it ensures.
use Rattle.masks.specs.Masks.{none}
use Rattle.rules.specs.Table.{bad_lits}
use Rattle.values.proofs.rows.bad_lits.Goals as goal

pub returns : goal.returns
unfolding bad_lits none
returns c = rw (c.below.ensures, c.below-2.ensures)
