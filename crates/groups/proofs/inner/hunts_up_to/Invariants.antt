-- `hunts_up_to` meets its contract: after some turns the sum is that of as many hunts.
use mathlib.Core.Path.{◌≡◌}
use lib.ListN.{length}
use Rattle.groups.proofs.Counting.{Counted}
use Rattle.groups.proofs.inner.hunts_up_to.Given as goal

abbrev pub invariant-loop : goal.invariant-loop
invariant-loop l =
    (length l.weights ≡ length l.initial.weights) × (length l.masks ≡ length l.initial.masks) × (length l.rows ≡ length l.initial.rows) × (length l.group ≡ length l.initial.group)
    × Counted l.desk l.p l.start l.counter l.sum l.weights
