-- `put_status` meets its contract: a line for each case.
use Rattle.answer_lines.proofs.Written.{status-done, status-stopped, status-impossible}
use Rattle.answer_lines.proofs.inner.put_status.Goals as goal

pub returns-in-Done : goal.returns-in-Done
returns-in-Done c = rw (status-done _ c.in-Done.is) c.put_key.ensures

pub returns-in-Stopped : goal.returns-in-Stopped
returns-in-Stopped c = rw (status-stopped _ c.in-Stopped.is) c.put_key-in-Stopped.ensures

pub returns-in-Impossible : goal.returns-in-Impossible
returns-in-Impossible c = rw (status-impossible _ c.in-Impossible.is) c.put_key-in-Impossible.ensures
