-- `row_at` meets its contract: the line of the weight, that of the mark, then that of the literals.
use Rattle.std.specs.Prelude.{Ok}
use mathlib.Core.Path.{sym, ap, ◌∙◌}
use Rattle.rules.specs.declared.Row.{Row}
use Rattle.text_laws.proofs.Matched.{matched}
use Rattle.text_laws.proofs.Branches.{row-no-weight, row-no-mark, row-no-lits, row_is}
use Rattle.reader.proofs.Exits.{no_line}
use Rattle.reader.proofs.rows.row_at.Goals as goal

pub returns-in_err-weight : goal.returns-in_err-weight
returns-in_err-weight c =
    let none = c.in_err-weight.ensures in
    no_line _ c.from_residual.ensures.1 none.value none.ok_part
    ∙ sym (row-no-weight c.args.s.now c.args.at c.args.line (matched c.number_line.ensures none.ok_part))

pub returns-in_err-mark : goal.returns-in_err-mark
returns-in_err-mark c =
    let none = c.in_err-mark.ensures in
    no_line _ c.from_residual-in_err-mark.ensures.1 none.value none.ok_part
    ∙ sym
    (row-no-mark c.args.s.now c.args.at c.args.line _ _
    (matched c.number_line.ensures c.in_ok-weight.ensures.ok_part)
    (matched c.mark_line.ensures none.ok_part))

pub returns-in_err-lits : goal.returns-in_err-lits
returns-in_err-lits c =
    let none = c.in_err-lits.ensures in
    no_line _ c.from_residual-in_err-lits.ensures.1 none.value none.ok_part
    ∙ sym
    (row-no-lits c.args.s.now c.args.at c.args.line _ _ _ _
    (matched c.number_line.ensures c.in_ok-weight.ensures.ok_part)
    (matched c.mark_line.ensures c.in_ok-mark.ensures.ok_part)
    (matched c.lits_line.ensures none.ok_part))

pub returns : goal.returns
returns c =
    ap (λ (row : Row). Ok (row, c.in_ok-lits.next)) c.marked.ensures
    ∙ sym
    (row_is c.args.s.now c.args.at c.args.line _ _ _ _
    (matched c.number_line.ensures c.in_ok-weight.ensures.ok_part)
    (matched c.mark_line.ensures c.in_ok-mark.ensures.ok_part) _ _
    (matched c.lits_line.ensures c.in_ok-lits.ensures.ok_part))
