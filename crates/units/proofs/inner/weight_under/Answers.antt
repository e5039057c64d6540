-- `weight_under` meets its contract: whether the two masks are the same chooses.
use borrow.Author.Tests.{eq-eqb, ne_eqb}
use Rattle.units.proofs.inner.weight_under.Goals as goal

pub returns-then-untrue-l : goal.returns-then-untrue-l
returns-then-untrue-l c = rw (eq-eqb _ _ c.if-untrue-l.true)

pub returns-else-untrue-l : goal.returns-else-untrue-l
returns-else-untrue-l c = rw (ne_eqb _ _ c.if-untrue-l.false)
