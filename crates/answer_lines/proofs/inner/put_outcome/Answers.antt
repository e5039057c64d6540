-- `put_outcome` meets its contract: the lines of the case.
use Rattle.answer_lines.proofs.inner.put_outcome.Goals as goal

pub put_found-requires : goal.put_found-requires
put_found-requires c = c.requires _ c.in-Ok.is

pub returns-in-Err : goal.returns-in-Err
returns-in-Err c = rw c.in-Err.is c.put_refusal.ensures

pub returns-in-Ok : goal.returns-in-Ok
returns-in-Ok c = rw c.in-Ok.is c.put_found.ensures
