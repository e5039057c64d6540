-- `number_at` meets its contract: the digits were counted, and the first of several is no 0. The place behind them lies within the text.
use mathlib.Core.Path.{sym}
use native.Mathlib.Omega.{arith}
use Rattle.text_laws.proofs.Numbers.{number-found}
use Rattle.text_laws.proofs.Branches.{numeral-most, number_is, number-broken}
use Rattle.pieces_read.proofs.numbers.number_at.Goals as goal

pub value_of-value-requires : goal.value_of-value-requires
value_of-value-requires c = (numeral-most c.digit_run-n.result c.byte_at-first.result c.if-n-first.true, omega (arith, c.digit_run-n.ensures))

pub overflow_add-result : goal.overflow_add-result
overflow_add-result c =
    let number = number_is c.args.s.now c.args.at c.digit_run-n.result c.byte_at-first.result c.digit_run-n.ensures c.byte_at-first.ensures c.if-n-first.true in
    let inside = (number-found c.args.s.now c.args.at _ _ number).inside in
    omega (arith, inside)

pub returns-then-n-first : goal.returns-then-n-first
returns-then-n-first c =
    rw c.value_of-value.ensures
    (sym (number_is c.args.s.now c.args.at c.digit_run-n.result c.byte_at-first.result c.digit_run-n.ensures c.byte_at-first.ensures c.if-n-first.true))

pub returns-else-n-first : goal.returns-else-n-first
returns-else-n-first c =
    sym
    (number-broken c.args.s.now c.args.at c.digit_run-n.result c.byte_at-first.result c.digit_run-n.ensures c.byte_at-first.ensures c.if-n-first.false)
