-- `halted` meets its contract: it is the definition's record.
use mathlib.Core.Path.{refl}
use Rattle.rules.specs.Walk.{halted}
use Rattle.walk.proofs.states.halted.Goals as goal

pub returns : goal.returns
unfolding halted
returns c = refl
