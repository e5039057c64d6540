-- `rows_and_sum` meets its contract: each return has what led there.
use mathlib.Core.Path.{sym, ◌∙◌}
use Rattle.masks.proofs.Choice.{handed-on}
use Rattle.rules.specs.Table.{row_count}
use Rattle.tables.specs.Judge.{rows_and_sum_why}
use Rattle.tables.proofs.Rows.{sum-from-first}
use Rattle.tables.proofs.judge.rows_and_sum.Goals as goal

pub returns-then-sum_over : goal.returns-then-sum_over
unfolding rows_and_sum_why row_count
returns-then-sum_over c =
    let over = sym (sum-from-first c.args.table.now) ∙ sym c.sum_over.ensures ∙ c.if-sum_over.true in
    rw (← c.rows_why.ensures, c.in_ok-rows_why.was, over)

pub returns : goal.returns
unfolding rows_and_sum_why row_count
returns c =
    let over = sym (sum-from-first c.args.table.now) ∙ sym c.sum_over.ensures ∙ c.if-sum_over.false in
    rw (← c.rows_why.ensures, c.in_ok-rows_why.was, over)

pub returns-in_err-rows_why : goal.returns-in_err-rows_why
unfolding rows_and_sum_why row_count
returns-in_err-rows_why c =
    rw (handed-on c.from_residual.result c.in_err-rows_why.field-0.0 c.from_residual.ensures.1, ← c.rows_why.ensures, c.in_err-rows_why.was)
