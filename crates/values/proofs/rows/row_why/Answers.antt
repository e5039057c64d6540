-- `row_why` meets its contract: each return has the tests that led there.
use mathlib.Core.Path.{sym, ◌∙◌}
use Rattle.rules.specs.Table.{row_why}
use Rattle.values.proofs.rows.row_why.Goals as goal

pub returns-then-bad_lits : goal.returns-then-bad_lits
unfolding row_why
returns-then-bad_lits c = rw (sym c.bad_lits.ensures ∙ c.if-bad_lits.true)

pub returns-then-bad_weight : goal.returns-then-bad_weight
unfolding row_why
returns-then-bad_weight c = rw (sym c.bad_lits.ensures ∙ c.if-bad_lits.false, sym c.bad_weight.ensures ∙ c.if-bad_weight.true)

pub returns : goal.returns
unfolding row_why
returns c = rw (sym c.bad_lits.ensures ∙ c.if-bad_lits.false, sym c.bad_weight.ensures ∙ c.if-bad_weight.false)
