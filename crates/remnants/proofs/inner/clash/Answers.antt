-- `clash` meets its contract: the code is the definition.
use mathlib.Core.Path.{refl}
use Rattle.rules.specs.Rewrite.{clash}
use Rattle.remnants.proofs.inner.clash.Goals as goal

pub returns : goal.returns
unfolding clash
returns c = refl
