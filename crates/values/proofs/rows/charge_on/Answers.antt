-- `charge_on` meets its contract: `is_hard` chooses, as it ensures.
use mathlib.Core.Path.{sym, ◌∙◌}
use Rattle.values.proofs.rows.charge_on.Goals as goal

pub returns-then-is_hard : goal.returns-then-is_hard
returns-then-is_hard c = rw (sym c.is_hard.ensures ∙ c.if-is_hard.true)

pub returns-else-is_hard : goal.returns-else-is_hard
returns-else-is_hard c = rw (sym c.is_hard.ensures ∙ c.if-is_hard.false)
