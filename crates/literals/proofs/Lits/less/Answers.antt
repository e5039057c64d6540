-- `Lits::less` meets its contract: each mask is what `without` ensures.
use Rattle.literals.specs.Lits.{less}
use Rattle.literals.proofs.Lits.less.Goals as goal

pub returns : goal.returns
unfolding less
returns c = rw (c.without-positive.ensures, c.without-negative.ensures)
