-- `Lits::variables` meets its contract: the code is the definition.
use mathlib.Core.Path.{refl}
use Rattle.literals.specs.Lits.{variables_of}
use Rattle.literals.proofs.Lits.variables.Goals as goal

pub returns : goal.returns
unfolding variables_of
returns c = refl
