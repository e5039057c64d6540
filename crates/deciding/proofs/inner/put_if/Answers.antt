-- `put_if` meets its contract: the test chooses.
use Rattle.deciding.proofs.inner.put_if.Goals as goal

pub returns-then-on : goal.returns-then-on
returns-then-on c = rw c.if-on.true

pub returns-else-on : goal.returns-else-on
returns-else-on c = rw c.if-on.false
