-- `remnant` meets its contract: each mask is what `without` ensures.
use Rattle.rules.specs.Desk.{remnant}
use Rattle.values.proofs.parts.remnant.Goals as goal

pub returns : goal.returns
unfolding remnant
returns c = rw (c.without-positive.ensures, c.without-negative.ensures)
