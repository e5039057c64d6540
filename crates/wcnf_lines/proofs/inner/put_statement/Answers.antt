-- `put_statement` meets its contract: a line for each case.
use Rattle.wcnf_lines.proofs.Written.{statement-done, statement-stopped, statement-impossible}
use Rattle.wcnf_lines.proofs.inner.put_statement.Goals as goal

pub returns-in-Done : goal.returns-in-Done
returns-in-Done c = rw (statement-done _ c.in-Done.is) c.put_key.ensures

pub returns-in-Stopped : goal.returns-in-Stopped
returns-in-Stopped c = rw (statement-stopped _ c.in-Stopped.is) c.put_key-in-Stopped.ensures

pub returns-in-Impossible : goal.returns-in-Impossible
returns-in-Impossible c = rw (statement-impossible _ c.in-Impossible.is) c.put_key-in-Impossible.ensures
