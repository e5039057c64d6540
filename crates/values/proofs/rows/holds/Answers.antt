-- `holds` meets its contract: the code is the definition, with `without` as it ensures.
use Rattle.masks.specs.Masks.{none}
use Rattle.rules.specs.Table.{holds}
use Rattle.values.proofs.rows.holds.Goals as goal

pub returns : goal.returns
unfolding holds none
returns c = rw c.without.ensures
