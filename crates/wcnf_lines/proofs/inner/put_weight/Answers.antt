-- `put_weight` meets its contract: nothing, or the line.
use Rattle.wcnf_lines.proofs.Written.{weight-some}
use Rattle.wcnf_lines.proofs.inner.put_weight.Goals as goal

pub returns-in-Some : goal.returns-in-Some
returns-in-Some c = rw (weight-some _ _ _ c.in-Some.is) c.put_number_line.ensures
