-- `Lits::is_empty` meets its contract: the code is the definition.
use mathlib.Core.Path.{refl}
use Rattle.literals.specs.Lits.{is_empty}
use Rattle.literals.proofs.Lits.is_empty.Goals as goal

pub returns : goal.returns
unfolding is_empty
returns c = refl
