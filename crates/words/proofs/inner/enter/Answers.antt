-- `enter` meets its contract: the entry is stored behind those that stand, then the count goes up.
use Rattle.rules.specs.Desk.{entry_place, row_place}
use Rattle.rules.specs.Decide.{entered}
use Rattle.words.proofs.inner.enter.Goals as goal

pub returns : goal.returns
unfolding entered entry_place row_place
returns c = rw c.store.ensures
