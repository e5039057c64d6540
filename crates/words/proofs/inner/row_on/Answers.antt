-- `row_on` meets its contract: row i begins at its place.
use Rattle.rules.specs.Desk.{row_on, row_place}
use Rattle.words.proofs.inner.row_on.Goals as goal

pub returns : goal.returns
unfolding row_on row_place
returns c = c.row_in.ensures
