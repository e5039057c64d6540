-- `withdraw` meets its contract: the entry is zeroed where it lies, then the count goes down.
use Rattle.rules.specs.Desk.{entry_place, row_place}
use Rattle.rules.specs.TakeBack.{last_place, withdrawn}
use Rattle.words.proofs.inner.withdraw.Goals as goal

pub returns : goal.returns
unfolding withdrawn last_place entry_place row_place
returns c = rw c.zero.ensures
