-- `at_start` meets its contract: one more than all weights, which fit.
use Rattle.rules.specs.Walk.{at_start}
use Rattle.walk.proofs.states.at_start.Goals as goal

pub returns : goal.returns
unfolding at_start
returns c = rw c.weight_on-weight.ensures
