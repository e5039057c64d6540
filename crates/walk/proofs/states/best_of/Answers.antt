-- `best_of` meets its contract: whether a reading is kept chooses.
use Rattle.walk.proofs.states.best_of.Goals as goal

pub returns-then-kept : goal.returns-then-kept
returns-then-kept c = rw c.if-kept.true
