-- `Lits::none` meets its contract: the code is the definition.
use mathlib.Core.Path.{refl}
use Rattle.literals.specs.Lits.{no_lits}
use Rattle.literals.proofs.Lits.none.Goals as goal

pub returns : goal.returns
unfolding no_lits
returns c = refl
