use Prim.Native.Nat.{ℕ, ◌<◌}
use mathlib.Core.Path.{◌≡◌}
use native.Mathlib.Omega.{arith}
use lib.ListN.{length, get_or, take}
use lib.Seq.{length-take-le, get_or-take}
use Rattle.gathering.proofs.Taking.{taken_none, taken_next}
use Rattle.gathering.proofs.inner.take.Goals as goal

pub loop-row-init : goal.loop-row-init
loop-row-init c = taken_none _ _ _

pub loop-row-preserved : goal.loop-row-preserved
loop-row-preserved c =
    let k : ℕ = c.loop-row.row-index in
    let n : k < c.args.size = omega (arith, length-take-le c.args.size c.args.group.now c.requires.stored) in
    let e : get_or (take c.args.size c.args.group.now) k 0 ≡ get_or c.args.group.now k 0 = get_or-take c.args.size c.args.group.now k 0 n in
    let within : get_or c.args.group.now k 0 < length c.loop-row.weights = omega (arith, c.requires.each k n, c.loop-row.invariant.words) in
    rw e (taken_next _ _ _ k c.loop-row.weights c.loop-row.invariant within _ (rw e at c.saturating_sub.ensures))
