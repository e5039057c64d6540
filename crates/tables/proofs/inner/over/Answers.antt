-- `over` meets its contract: the rows of a desk begin behind its head.
use Rattle.rules.specs.Desk.{row_on, row_place}
use Rattle.tables.proofs.inner.over.Goals as goal

pub returns : goal.returns
unfolding row_on row_place
returns c = c.sum_over.ensures
