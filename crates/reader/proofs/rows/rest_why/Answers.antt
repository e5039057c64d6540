-- `rest_why` meets its contract: a row that breaks the form, an end that is the text's, or one that is not.
use mathlib.Core.Path.{sym, ap, ◌∙◌}
use Rattle.std.specs.Prelude.{Err}
use Rattle.rules.specs.Reader.{first_row_line, rows_at}
use Rattle.text_laws.proofs.Matched.{matched}
use Rattle.masks.proofs.Choice.{handed-on}
use Rattle.reader.proofs.Exits.{text-fine, text-broken}
use Rattle.reader.proofs.Ends.{rest-broken, rest_ended, rest-surplus}
use Rattle.reader.proofs.rows.rest_why.Goals as goal

pub returns-in_err-at : goal.returns-in_err-at
returns-in_err-at c =
    let broken = text-broken _ c.in_err-at.ensures.cases in
    let end = matched c.rows_end.ensures broken.1 in
    handed-on _ _ c.from_residual.ensures.1 ∙ ap Err broken.2
    ∙ sym (rest-broken c.args.s.now c.args.rows (rows_at c.args.rows c.args.s.now c.args.from first_row_line) _ end)

pub returns-then-at-s : goal.returns-then-at-s
returns-then-at-s c =
    let end = matched c.rows_end.ensures (text-fine _ c.in_ok-at.ensures.cases) in
    sym (rest_ended c.args.s.now c.args.rows (rows_at c.args.rows c.args.s.now c.args.from first_row_line) _ end c.if-at-s.true)

pub returns : goal.returns
returns c =
    let end = matched c.rows_end.ensures (text-fine _ c.in_ok-at.ensures.cases) in
    sym (rest-surplus c.args.s.now c.args.rows (rows_at c.args.rows c.args.s.now c.args.from first_row_line) _ end c.if-at-s.false)
