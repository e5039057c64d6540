-- `mark_line` meets its contract: a line of its key and a number, which is 0 or 1.
use mathlib.Core.Path.{sym, ◌∙◌}
use native.Mathlib.Omega.{arith}
use Rattle.text_laws.proofs.Matched.{matched}
use Rattle.text_laws.proofs.Branches.{mark-no-line, mark-over, mark-is}
use Rattle.reader.proofs.rows.mark_line.Goals as goal

pub returns-in_err-mark : goal.returns-in_err-mark
returns-in_err-mark c = c.from_residual.ensures ∙ sym (mark-no-line c.args.s.now c.args.at (matched c.number_line.ensures c.in_err-mark.was))

pub returns-then-mark-gt-HARD : goal.returns-then-mark-gt-HARD
returns-then-mark-gt-HARD c = sym (mark-over c.args.s.now c.args.at _ _ (matched c.number_line.ensures c.in_ok-mark.was) (omega arith))

pub returns : goal.returns
returns c = sym (mark-is c.args.s.now c.args.at _ _ (matched c.number_line.ensures c.in_ok-mark.was) (omega arith))
