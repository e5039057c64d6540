-- `signed_at` meets its contract: without a minus the number, with one its opposite, which is not 0.
use mathlib.Core.Path.{sym, ◌∙◌}
use native.Mathlib.Omega.{arith}
use Rattle.text_laws.proofs.Matched.{matched, unmatched}
use Rattle.text_laws.proofs.Stands.{inside}
use Rattle.wcnf_pieces.proofs.Members.{plain-broken, plain-is, minus-broken, minus-zero, minus_is}
use Rattle.wcnf_pieces.proofs.clauses.signed_at.Goals as goal

pub returns-in_err-size : goal.returns-in_err-size
returns-in_err-size c =
    let plain = unmatched c.byte_at.ensures c.if-byte_at-ne45.true in
    c.from_residual.ensures ∙ sym (plain-broken c.args.s.now c.args.at plain (matched c.number_at.ensures c.in_err-size.was))

pub returns-then-byte_at-ne45 : goal.returns-then-byte_at-ne45
returns-then-byte_at-ne45 c =
    let plain = unmatched c.byte_at.ensures c.if-byte_at-ne45.true in
    let number = matched c.number_at.ensures c.in_ok-size.was in
    sym (plain-is c.args.s.now c.args.at _ _ plain number)

pub overflow_add-at : goal.overflow_add-at
overflow_add-at c = omega (arith, inside c.args.s.now c.args.at (omega (arith, c.byte_at.ensures, c.if-byte_at-ne45.false)))

pub returns-in_err-size-2 : goal.returns-in_err-size-2
returns-in_err-size-2 c =
    let minus = matched c.byte_at.ensures c.if-byte_at-ne45.false in
    c.from_residual-in_err-size-2.ensures ∙ sym (minus-broken c.args.s.now c.args.at minus (matched c.number_at-2.ensures c.in_err-size-2.was))

pub returns-then-size-eq0 : goal.returns-then-size-eq0
returns-then-size-eq0 c =
    let minus = matched c.byte_at.ensures c.if-byte_at-ne45.false in
    let number = matched c.number_at-2.ensures c.in_ok-size-2.was in
    sym (minus-zero c.args.s.now c.args.at _ _ minus number c.if-size-eq0.true)

pub returns : goal.returns
returns c =
    let minus = matched c.byte_at.ensures c.if-byte_at-ne45.false in
    let number = matched c.number_at-2.ensures c.in_ok-size-2.was in
    sym (minus_is c.args.s.now c.args.at _ _ minus number c.if-size-eq0.false)
