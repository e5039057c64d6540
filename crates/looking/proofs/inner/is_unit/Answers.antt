-- `is_unit` meets its contract: one place together and none in common is one literal.
use borrow.Author.Rules.{rules}
use Rattle.looking.proofs.Looking.{unit-by-ones}
use Rattle.looking.proofs.inner.is_unit.Goals as goal

pub returns : goal.returns
returns c = rw c.count.ensures (unit-by-ones c.args.l (search rules))
