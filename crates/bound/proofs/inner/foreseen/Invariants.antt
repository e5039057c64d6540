-- `foreseen` meets its contract: after v turns the sum is that of the first v variables.
use mathlib.Core.Path.{◌≡◌}
use Rattle.masks.specs.Sums.{sum}
use Rattle.bound.proofs.Fits.{adds_at}
use Rattle.bound.proofs.inner.foreseen.Given as goal

abbrev pub invariant-loop-v : goal.invariant-loop-v
invariant-loop-v l = l.sum ≡ sum l.v (adds_at l.desk.words.now l.p)
