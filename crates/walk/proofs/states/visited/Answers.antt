-- `visited` meets its contract: the count that follows fits, as is required.
use mathlib.Core.Path.{refl}
use Rattle.rules.specs.Walk.{visited}
use Rattle.walk.proofs.states.visited.Goals as goal

pub returns : goal.returns
unfolding visited
returns c = refl
