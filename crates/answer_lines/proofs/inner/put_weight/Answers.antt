-- `put_weight` meets its contract: `none`, or the number.
use Rattle.answer_lines.proofs.Written.{weight-none, weight-some}
use Rattle.answer_lines.proofs.inner.put_weight.Goals as goal

pub returns-in-None : goal.returns-in-None
returns-in-None c = rw (weight-none _ c.in-None.is) c.put_key.ensures

pub returns-in-Some : goal.returns-in-Some
returns-in-Some c = rw (weight-some _ _ _ c.in-Some.is) c.put_number_line.ensures
