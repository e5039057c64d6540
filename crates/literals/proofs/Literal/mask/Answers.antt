-- `Literal::mask` meets its contract: it goes by the size as the definition does.
use borrow.Author.Tests.{eq-eqb, ne_eqb}
use Rattle.literals.specs.Literal.{bit_of}
use Rattle.literals.proofs.Literal.mask.Goals as goal

pub returns-then-n-eq0 : goal.returns-then-n-eq0
unfolding bit_of
returns-then-n-eq0 c = rw (← c.size-n.ensures) (rw (eq-eqb c.size-n.result 0 c.if-n-eq0.true))

pub returns-else-n-eq0 : goal.returns-else-n-eq0
unfolding bit_of
returns-else-n-eq0 c = rw (← c.size-n.ensures) (rw (ne_eqb c.size-n.result 0 c.if-n-eq0.false) c.single.ensures)
