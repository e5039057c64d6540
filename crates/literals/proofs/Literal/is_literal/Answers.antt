-- `Literal::is_literal` meets its contract: it tests the size as the definition does.
use Rattle.literals.specs.Literal.{is_literal}
use Rattle.literals.proofs.Literal.is_literal.Goals as goal

pub returns : goal.returns
unfolding is_literal
returns c = rw c.size-n.ensures
