use Prim.Native.Nat.{suc, ◌+◌, ◌-◌}
use mathlib.Core.Path.{◌≡◌, sym, ap, ◌∙◌}
use mathlib.Core.Bool.{true, false}
use borrow.Author.Tests.{not-true, not-false}
use native.Mathlib.Nat.{add-zero, zero-add}
use lib.ListN.{get_or}
use native.Mathlib.Omega.{arith}
use Rattle.rules.specs.Reader.{digit_run, is_digit}
use Rattle.rules.specs.Text.{most_digits}
use Rattle.text_laws.proofs.Numbers.{run_more, run-no, run_none}
use Rattle.pieces_read.proofs.numbers.digit_run.Goals as goal

pub loop-n-init : goal.loop-n-init
loop-n-init c = zero-add _ ∙ rw add-zero

pub returns-then-not-is_digit : goal.returns-then-not-is_digit
returns-then-not-is_digit c =
    let test : is_digit (get_or c.args.s.now (c.args.at + c.loop-n.n) 0) ≡ false =
    ap is_digit (sym c.byte_past-b.ensures) ∙ sym c.is_digit.ensures ∙ not-true _ c.if-not-is_digit.true-raw in
    omega (arith, c.loop-n.invariant, run-no c.args.s.now (c.args.at + c.loop-n.n) (suc most_digits - c.loop-n.n) test)

pub loop-n-preserved : goal.loop-n-preserved
loop-n-preserved c =
    let test : is_digit (get_or c.args.s.now (c.args.at + c.loop-n.n) 0) ≡ true =
    ap is_digit (sym c.byte_past-b.ensures) ∙ sym c.is_digit.ensures ∙ not-false _ c.if-not-is_digit.false-raw in
    run_more c.args.s.now c.args.at (suc most_digits) c.loop-n.n (omega arith) test ∙ c.loop-n.invariant

pub returns : goal.returns
returns c =
    let at = c.args.at + c.loop-n.n in
    let all : suc most_digits - c.loop-n.n ≡ 0 = omega arith in
    let none : digit_run c.args.s.now at (suc most_digits - c.loop-n.n) ≡ 0 = ap (digit_run c.args.s.now at) all ∙ run_none c.args.s.now at in
    omega (arith, c.loop-n.invariant)
