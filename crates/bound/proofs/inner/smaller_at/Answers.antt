-- `smaller_at` meets its contract: a decided variable adds nothing, and of another the smaller sum is taken.
use borrow.Author.Tests.{eq-eqb, ne_eqb}
use Rattle.masks.specs.Masks.{has, bit}
use Rattle.bound.proofs.inner.smaller_at.Goals as goal

pub returns-then-decided-v-eq1 : goal.returns-then-decided-v-eq1
unfolding has bit
returns-then-decided-v-eq1 c = rw (eq-eqb _ _ c.if-decided-v-eq1.true)

pub returns : goal.returns
unfolding has bit
returns c = rw (ne_eqb _ _ c.if-decided-v-eq1.false) c.min.ensures
