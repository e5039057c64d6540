-- `masks::lowest` meets its contract: the code is the definition, and the answer is at most 64.
use native.Mathlib.Omega.{arith}
use lib.Count.{trailing_le}
use Rattle.masks.proofs.lowest.Goals as goal

pub overflow_cast-result : goal.overflow_cast-result
overflow_cast-result c = omega (arith, trailing_le 64 c.args.m)
