-- `Lits::together` meets its contract: the code is the definition.
use mathlib.Core.Path.{refl}
use Rattle.literals.specs.Lits.{together}
use Rattle.literals.proofs.Lits.together.Goals as goal

pub returns : goal.returns
unfolding together
returns c = refl
