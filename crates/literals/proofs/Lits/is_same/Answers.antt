-- `Lits::is_same` meets its contract: what is derived compares both masks.
use Rattle.literals.specs.Lits.{same_lits}
use Rattle.literals.proofs.Lits.is_same.Goals as goal

pub returns : goal.returns
unfolding same_lits
returns c = c.eq.ensures
