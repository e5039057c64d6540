-- `zero_rows` meets its contract: the rows of a desk begin behind its head.
use Rattle.rules.specs.Desk.{row_place}
use Rattle.words.proofs.inner.zero_rows.Goals as goal

pub returns : goal.returns
unfolding row_place
returns c = c.zero.ensures
