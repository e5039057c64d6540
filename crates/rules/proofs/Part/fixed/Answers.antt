-- `Part::fixed` meets its contract: the bit is what `single` ensures, and the value chooses as the definition does.
use Rattle.rules.specs.Walk.{fixed}
use Rattle.rules.proofs.Part.fixed.Goals as goal

pub returns-then-value : goal.returns-then-value
unfolding fixed
returns-then-value c = rw (c.if-value.true, c.single-bit.ensures)

pub returns-else-value : goal.returns-else-value
unfolding fixed
returns-else-value c = rw (c.if-value.false, c.single-bit.ensures)
