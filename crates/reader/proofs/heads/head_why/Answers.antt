-- `head_why` meets its contract: each return has the tests that led there.
use mathlib.Core.Path.{sym, ◌∙◌}
use Rattle.text_laws.proofs.Reading.{over-variables, over-budget, over-rows, over-room, to-rest}
use Rattle.reader.proofs.heads.head_why.Goals as goal

pub returns-then-variables-gt-MOST : goal.returns-then-variables-gt-MOST
returns-then-variables-gt-MOST c =
    sym
    (over-variables c.args.most c.args.s.now c.args.room c.args.variables c.args.budget c.args.rows c.args.from
    c.if-variables-gt-MOST.true)

pub returns-then-budget-gt-MOST_BUDGET : goal.returns-then-budget-gt-MOST_BUDGET
returns-then-budget-gt-MOST_BUDGET c =
    sym
    (over-budget c.args.most c.args.s.now c.args.room c.args.variables c.args.budget c.args.rows c.args.from
    c.if-variables-gt-MOST.false c.if-budget-gt-MOST_BUDGET.true)

pub returns-then-count-most : goal.returns-then-count-most
returns-then-count-most c =
    sym
    (over-rows c.args.most c.args.s.now c.args.room c.args.variables c.args.budget c.args.rows c.args.from
    c.if-variables-gt-MOST.false c.if-budget-gt-MOST_BUDGET.false c.if-count-most.true)

pub returns-then-room-count : goal.returns-then-room-count
returns-then-room-count c =
    sym
    (over-room c.args.most c.args.s.now c.args.room c.args.variables c.args.budget c.args.rows c.args.from
    c.if-variables-gt-MOST.false c.if-budget-gt-MOST_BUDGET.false c.if-count-most.false c.if-room-count.true)

pub returns : goal.returns
returns c =
    c.rest_why.ensures
    ∙ sym
    (to-rest c.args.most c.args.s.now c.args.room c.args.variables c.args.budget c.args.rows c.args.from
    c.if-variables-gt-MOST.false c.if-budget-gt-MOST_BUDGET.false c.if-count-most.false c.if-room-count.false)
