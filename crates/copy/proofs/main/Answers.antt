-- `main` is safe: what it lends lies within what it has.
use native.Mathlib.Omega.{arith}
use lib.ListN.{length-take}
use Rattle.copy.proofs.Copies.{copied}
use Rattle.copy.proofs.main.Goals as goal

pub slice_bounds-output-end : goal.slice_bounds-output-end
slice_bounds-output-end c = omega (arith, (copied _ _ _ _ (c.again-m.ensures.length, c.again-m.ensures.bytes)).within)

pub slice_bounds-write_all-end : goal.slice_bounds-write_all-end
slice_bounds-write_all-end c = simp length-take (omega (arith, (copied _ _ _ _ (c.again-m.ensures.length, c.again-m.ensures.bytes)).within))
