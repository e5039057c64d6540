-- `place` meets its contract: by the mask that the literal is in.
use native.Mathlib.Omega.{arith}
use borrow.Author.Tests.{eq-eqb, ne_eqb}
use lib.Bits.{bit_or}
use lib.Count.{trailing_le}
use Rattle.units.specs.Adds.{place_of}
use Rattle.units.proofs.inner.place.Goals as goal

pub overflow_add-result : goal.overflow_add-result
overflow_add-result c = omega (arith, c.lowest-v.ensures, trailing_le 64 (bit_or c.args.one.positive c.args.one.negative))

pub returns-then-one-eq0 : goal.returns-then-one-eq0
unfolding place_of
returns-then-one-eq0 c = rw (eq-eqb c.args.one.negative 0 c.if-one-eq0.true) c.lowest-v.ensures

pub returns-else-one-eq0 : goal.returns-else-one-eq0
unfolding place_of
returns-else-one-eq0 c = rw (ne_eqb c.args.one.negative 0 c.if-one-eq0.false) (omega (arith, c.lowest-v.ensures))
