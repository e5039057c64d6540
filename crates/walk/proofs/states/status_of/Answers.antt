-- `status_of` meets its contract: whether the walk was stopped, and then whether a reading is kept, choose.
use Rattle.walk.proofs.states.status_of.Goals as goal

pub returns-then-stopped : goal.returns-then-stopped
returns-then-stopped c = rw c.if-stopped.true

pub returns-then-kept : goal.returns-then-kept
returns-then-kept c = rw (c.if-stopped.false, c.if-kept.true)

pub returns-else-kept : goal.returns-else-kept
returns-else-kept c = rw (c.if-stopped.false, c.if-kept.false)
