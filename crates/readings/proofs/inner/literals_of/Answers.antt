-- `literals_of` meets its contract: what the calls give, put together.
use Rattle.readings.proofs.inner.literals_of.Goals as goal

pub returns : goal.returns
returns c = rw (c.without-negative.ensures, c.first_of-all.ensures)
