-- `Lits::negated` meets its contract: the code is the definition.
use mathlib.Core.Path.{refl}
use Rattle.literals.specs.Lits.{negated_lits}
use Rattle.literals.proofs.Lits.negated.Goals as goal

pub returns : goal.returns
unfolding negated_lits
returns c = refl
