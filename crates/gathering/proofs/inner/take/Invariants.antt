-- `take` meets its contract: after k turns the cost is taken from the first k rows.
use Rattle.gathering.specs.Gathered.{Taken}
use Rattle.gathering.proofs.inner.take.Given as goal

abbrev pub invariant-loop-row : goal.invariant-loop-row
invariant-loop-row l = Taken l.cost l.row-index l.group l.initial.weights l.weights
