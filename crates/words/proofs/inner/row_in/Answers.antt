-- `row_in` meets its contract: the words are the row's.
use Rattle.rules.specs.Table.{row_in}
use Rattle.words.proofs.inner.row_in.Goals as goal

pub returns : goal.returns
unfolding row_in
returns c = c.marked.ensures
