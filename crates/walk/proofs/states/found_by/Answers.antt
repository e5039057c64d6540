-- `found_by` meets its contract: each part is what its function ensures.
use Rattle.walk.proofs.states.found_by.Goals as goal

pub returns : goal.returns
returns c = rw (c.status_of-status.ensures, c.best_of-best.ensures)
