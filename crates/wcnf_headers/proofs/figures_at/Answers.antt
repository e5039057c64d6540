-- `figures_at` meets its contract: three numbers with gaps in front, then the end of the line.
use mathlib.Core.Path.{sym}
use native.Mathlib.Omega.{arith}
use borrow.Author.Rules.{rules}
use Rattle.text_laws.proofs.Matched.{matched, unmatched}
use Rattle.text_laws.proofs.Stands.{inside}
use Rattle.wcnf_headers.proofs.Heading.{no-variables, no-clauses, no_top, no_end, figures-are}
use Rattle.wcnf_headers.proofs.figures_at.Goals as goal

pub returns-in_err-variables : goal.returns-in_err-variables
returns-in_err-variables c =
    rw (no-variables c.args.s.now c.args.from c.args.line (matched c.parted_at.ensures c.in_err-variables.ensures.ok_part)) (search rules)

pub returns-in_err-clauses : goal.returns-in_err-clauses
returns-in_err-clauses c =
    let one = matched c.parted_at.ensures c.in_ok-variables.ensures.ok_part in
    let two = matched c.parted_at-2.ensures c.in_err-clauses.ensures.ok_part in
    rw (no-clauses c.args.s.now c.args.from c.args.line _ _ one two) (search rules)

pub returns-in_err-top : goal.returns-in_err-top
returns-in_err-top c =
    let one = matched c.parted_at.ensures c.in_ok-variables.ensures.ok_part in
    let two = matched c.parted_at-2.ensures c.in_ok-clauses.ensures.ok_part in
    let three = matched c.parted_at-3.ensures c.in_err-top.ensures.ok_part in
    rw (no_top c.args.s.now c.args.from c.args.line _ _ one _ _ two three) (search rules)

pub returns-then-byte_at-ne10 : goal.returns-then-byte_at-ne10
returns-then-byte_at-ne10 c =
    let one = matched c.parted_at.ensures c.in_ok-variables.ensures.ok_part in
    let two = matched c.parted_at-2.ensures c.in_ok-clauses.ensures.ok_part in
    let three = matched c.parted_at-3.ensures c.in_ok-top.ensures.ok_part in
    sym (no_end c.args.s.now c.args.from c.args.line _ _ one _ _ two _ _ three (unmatched c.byte_at.ensures c.if-byte_at-ne10.true))

pub overflow_add-result : goal.overflow_add-result
overflow_add-result c = omega (arith, c, inside c.args.s.now c.in_ok-top.next (omega (arith, c.byte_at.ensures, c.if-byte_at-ne10.false)))

pub returns : goal.returns
returns c =
    let one = matched c.parted_at.ensures c.in_ok-variables.ensures.ok_part in
    let two = matched c.parted_at-2.ensures c.in_ok-clauses.ensures.ok_part in
    let three = matched c.parted_at-3.ensures c.in_ok-top.ensures.ok_part in
    sym (figures-are c.args.s.now c.args.from c.args.line _ _ one _ _ two _ _ three (matched c.byte_at.ensures c.if-byte_at-ne10.false))
