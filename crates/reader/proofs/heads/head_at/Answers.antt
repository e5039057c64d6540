-- `head_at` meets its contract: three lines of a key and a number, each where the one before it ends.
use mathlib.Core.Path.{sym, ◌∙◌}
use Rattle.text_laws.proofs.Matched.{matched}
use Rattle.text_laws.proofs.Branches.{head-no-vars, head-no-budget, head-no-rows, head-is}
use Rattle.reader.proofs.Exits.{no_line}
use Rattle.reader.proofs.heads.head_at.Goals as goal

pub returns-in_err-variables : goal.returns-in_err-variables
returns-in_err-variables c =
    let none = c.in_err-variables.ensures in
    no_line _ c.from_residual.ensures.1 none.value none.ok_part ∙ sym (head-no-vars c.args.s.now (matched c.number_line.ensures none.ok_part))

pub returns-in_err-budget : goal.returns-in_err-budget
returns-in_err-budget c =
    let none = c.in_err-budget.ensures in
    no_line _ c.from_residual-in_err-budget.ensures.1 none.value none.ok_part
    ∙ sym
    (head-no-budget c.args.s.now _ _
    (matched c.number_line.ensures c.in_ok-variables.ensures.ok_part)
    (matched c.number_line-2.ensures none.ok_part))

pub returns-in_err-rows : goal.returns-in_err-rows
returns-in_err-rows c =
    let none = c.in_err-rows.ensures in
    no_line _ c.from_residual-in_err-rows.ensures.1 none.value none.ok_part
    ∙ sym
    (head-no-rows c.args.s.now _ _ _ _
    (matched c.number_line.ensures c.in_ok-variables.ensures.ok_part)
    (matched c.number_line-2.ensures c.in_ok-budget.ensures.ok_part)
    (matched c.number_line-3.ensures none.ok_part))

pub returns : goal.returns
returns c =
    sym
    (head-is c.args.s.now _ _ _ _ _ _
    (matched c.number_line.ensures c.in_ok-variables.ensures.ok_part)
    (matched c.number_line-2.ensures c.in_ok-budget.ensures.ok_part)
    (matched c.number_line-3.ensures c.in_ok-rows.ensures.ok_part))
