-- `given_up` meets its contract: `holds` chooses, as it ensures.
use mathlib.Core.Path.{sym, ◌∙◌}
use Rattle.rules.specs.Table.{given_up}
use Rattle.values.proofs.rows.given_up.Goals as goal

pub returns-then-holds : goal.returns-then-holds
unfolding given_up
returns-then-holds c = rw (sym c.holds.ensures ∙ c.if-holds.true)

pub returns-else-holds : goal.returns-else-holds
unfolding given_up
returns-else-holds c = rw (sym c.holds.ensures ∙ c.if-holds.false)
