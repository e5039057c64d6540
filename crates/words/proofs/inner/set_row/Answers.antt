-- `set_row` meets its contract: row i begins at its place.
use Rattle.rules.specs.Desk.{set_row, row_place}
use Rattle.words.proofs.inner.set_row.Goals as goal

pub returns : goal.returns
unfolding set_row row_place
returns c = c.set_row_in.ensures
