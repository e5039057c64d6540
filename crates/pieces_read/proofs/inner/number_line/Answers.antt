-- `number_line` meets its contract: a key, a number, an end of line. A key that stands there ends within the text, since its last byte is no 0.
use mathlib.Core.Path.{sym, ◌∙◌}
use native.Mathlib.Omega.{arith}
use borrow.Author.Tests.{not-true, not-false}
use Rattle.text_laws.specs.Keys.{equal_sign}
use Rattle.text_laws.proofs.Matched.{matched, unmatched}
use Rattle.text_laws.proofs.Stands.{inside, ends_with}
use Rattle.text_laws.proofs.Branches.{line-no-key, line-no-number, line-is, line-unended}
use Rattle.pieces_read.proofs.inner.number_line.Goals as goal

pub returns-then-not-stands : goal.returns-then-not-stands
returns-then-not-stands c = sym (line-no-key c.args.s.now c.args.at c.args.key.now (matched c.stands.ensures (not-true _ c.if-not-stands.true-raw)))

pub overflow_add-from : goal.overflow_add-from
overflow_add-from c =
    let key = matched c.stands.ensures (not-false _ c.if-not-stands.false-raw) in
    omega (arith, ends_with c.args.s.now c.args.at c.args.key.now equal_sign (omega arith) c.requires key)

pub returns-in_err-value : goal.returns-in_err-value
returns-in_err-value c =
    let key = matched c.stands.ensures (not-false _ c.if-not-stands.false-raw) in
    let number = matched c.number_at.ensures c.in_err-value.was in
    c.from_residual.ensures ∙ sym (line-no-number c.args.s.now c.args.at c.args.key.now key number)

pub overflow_add-result : goal.overflow_add-result
overflow_add-result c = omega (arith, inside c.args.s.now c.in_ok-value.next (omega (arith, c.byte_at-b.ensures, c.if-b-eq10.true)))

pub returns-then-b-eq10 : goal.returns-then-b-eq10
returns-then-b-eq10 c =
    let key = matched c.stands.ensures (not-false _ c.if-not-stands.false-raw) in
    let number = matched c.number_at.ensures c.in_ok-value.was in
    sym (line-is c.args.s.now c.args.at c.args.key.now _ _ key number (matched c.byte_at-b.ensures c.if-b-eq10.true))

pub returns-else-b-eq10 : goal.returns-else-b-eq10
returns-else-b-eq10 c =
    let key = matched c.stands.ensures (not-false _ c.if-not-stands.false-raw) in
    let number = matched c.number_at.ensures c.in_ok-value.was in
    sym (line-unended c.args.s.now c.args.at c.args.key.now _ _ key number (unmatched c.byte_at-b.ensures c.if-b-eq10.false))
