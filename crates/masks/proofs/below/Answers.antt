-- `masks::below` meets its contract: a mask shifted by n is empty where it has nothing from n on, and a word is below 2 ^ 64.
use Prim.Native.Nat.{◌^◌}
use mathlib.Core.Path.{sym}
use native.Mathlib.Nat.{lt_of_lt_of_le}
use lib.Pow.{pow_mono}
use borrow.Author.Rules.{rules}
use Rattle.masks.proofs.Bits.{below-shr, lt-below}
use Rattle.masks.proofs.below.Goals as goal

pub returns-then-n-lt64 : goal.returns-then-n-lt64
returns-then-n-lt64 c = sym (below-shr c.args.m c.args.n)

pub returns-else-n-lt64 : goal.returns-else-n-lt64
returns-else-n-lt64 c = sym (lt-below c.args.n (lt_of_lt_of_le {m = 2 ^ 64} (search rules) (pow_mono c.if-n-lt64.false)))
