-- `conflict_at` meets its contract: the code is the definition.
use mathlib.Core.Path.{refl}
use Rattle.looking.specs.Looks.{conflicting}
use Rattle.looking.proofs.inner.conflict_at.Goals as goal

pub returns : goal.returns
unfolding conflicting
returns c = refl
