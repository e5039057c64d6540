-- `kept_at` meets its contract: it is the definition's record.
use mathlib.Core.Path.{refl}
use Rattle.rules.specs.Walk.{kept_at}
use Rattle.walk.proofs.states.kept_at.Goals as goal

pub returns : goal.returns
unfolding kept_at
returns c = refl
