-- `masks::single` meets its contract: below 64 the shift loses nothing.
use Prim.Native.Nat.{◌^◌}
use borrow.Author.Tests.{lt-ltb, le-ltb}
use native.Mathlib.Nat.{one-mul, mod-eq_of_lt}
use lib.Pow.{pow-lt}
use Rattle.masks.specs.Masks.{single}
use Rattle.masks.proofs.single.Goals as goal

pub returns-then-v-lt64 : goal.returns-then-v-lt64
unfolding single
returns-then-v-lt64 c = rw (lt-ltb c.args.v 64 c.if-v-lt64.true) (rw (one-mul (2 ^ c.args.v)) (mod-eq_of_lt (pow-lt c.if-v-lt64.true)))

pub returns-else-v-lt64 : goal.returns-else-v-lt64
unfolding single
returns-else-v-lt64 c = rw (le-ltb c.args.v 64 c.if-v-lt64.false)
