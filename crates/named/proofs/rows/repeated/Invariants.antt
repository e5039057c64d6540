-- `repeated` meets its contract: no row passed is the same as one before it, and the first that is decides.
use mathlib.Core.Path.{◌≡◌}
use mathlib.Core.Bool.{true}
use Rattle.masks.specs.Sums.{every}
use Rattle.named.proofs.Pairs.{row, fresh}
use Rattle.named.proofs.rows.repeated.Given as goal

abbrev pub invariant-loop-j : goal.invariant-loop-j
invariant-loop-j l = every l.j (λ b. every b (fresh (row l.named) b)) ≡ true
