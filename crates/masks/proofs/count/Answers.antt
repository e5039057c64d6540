-- `masks::count` meets its contract: the machine's count of ones is the sum of the bits, and at most 64.
use borrow.Author.Rules.{rules}
use mathlib.Core.Path.{sym}
use native.Mathlib.Omega.{arith}
use lib.Count.{ones-le}
use Rattle.masks.proofs.Counts.{count_ones}
use Rattle.masks.proofs.count.Goals as goal

pub overflow_cast-result : goal.overflow_cast-result
overflow_cast-result c = omega (arith, ones-le 64 c.args.m (search rules))

pub returns : goal.returns
returns c = sym (count_ones (search rules))
