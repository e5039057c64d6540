-- `table_why` meets its contract: each return has what led there.
use mathlib.Core.Path.{sym, ◌∙◌}
use borrow.Author.Tests.{lt-ltb, le-ltb}
use Rattle.literals.specs.Literal.{most_variables}
use Rattle.rules.specs.Table.{table_why}
use Rattle.tables.specs.Judge.{rows_and_sum_why}
use Rattle.tables.proofs.judge.table_why.Goals as goal

pub returns-then-variables-gt-MOST : goal.returns-then-variables-gt-MOST
unfolding table_why
returns-then-variables-gt-MOST c = rw (lt-ltb most_variables c.args.variables c.if-variables-gt-MOST.true)

pub returns-then-bad_table : goal.returns-then-bad_table
unfolding table_why
returns-then-bad_table c = rw (le-ltb most_variables c.args.variables c.if-variables-gt-MOST.false, sym c.bad_table.ensures ∙ c.if-bad_table.true)

pub returns : goal.returns
unfolding table_why rows_and_sum_why
returns c =
    rw (le-ltb most_variables c.args.variables c.if-variables-gt-MOST.false, sym c.bad_table.ensures ∙ c.if-bad_table.false)
    c.rows_and_sum.ensures
