-- `satisfied` meets its contract: the code is the definition, with `without` as it ensures.
use Rattle.masks.specs.Masks.{none}
use Rattle.rules.specs.Desk.{satisfied}
use Rattle.values.proofs.parts.satisfied.Goals as goal

pub returns : goal.returns
unfolding satisfied none
returns c = rw c.without.ensures
