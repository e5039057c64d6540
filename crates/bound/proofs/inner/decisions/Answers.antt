-- `decisions` meets its contract: the two masks are words of the head.
use Rattle.rules.specs.Desk.{decisions}
use Rattle.bound.proofs.inner.decisions.Goals as goal

pub returns : goal.returns
unfolding decisions
returns c = rw (c.word-decided.ensures, c.word-truths.ensures)
