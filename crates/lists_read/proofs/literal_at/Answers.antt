-- `literal_at` meets its contract: without a minus, or the opposite of what stands behind one.
use Prim.Native.Nat.{◌+◌}
use mathlib.Core.Path.{sym, ap, ◌∙◌}
use native.Mathlib.Omega.{arith}
use Rattle.rules.specs.Reader.{number_at}
use Rattle.text_laws.proofs.Matched.{matched, unmatched}
use Rattle.text_laws.proofs.Stands.{inside}
use Rattle.text_laws.proofs.Branches.{with-minus, without-minus}
use Rattle.lists_read.specs.Literals.{literal_read}
use Rattle.lists_read.proofs.Signs.{turned, turned-broken}
use Rattle.lists_read.proofs.literal_at.Goals as goal

pub returns-then-byte_at-ne45 : goal.returns-then-byte_at-ne45
returns-then-byte_at-ne45 c =
    let no_minus = unmatched c.byte_at.ensures c.if-byte_at-ne45.true in
    c.variable_at.ensures ∙ sym (ap literal_read (without-minus c.args.s.now c.args.at c.args.last no_minus))

pub overflow_add-at : goal.overflow_add-at
overflow_add-at c = omega (arith, inside c.args.s.now c.args.at (omega (arith, c.byte_at.ensures, c.if-byte_at-ne45.false)))

pub returns-in_err-literal : goal.returns-in_err-literal
returns-in_err-literal c =
    let minus = matched c.byte_at.ensures c.if-byte_at-ne45.false in
    c.from_residual.ensures
    ∙ turned-broken c.args.last (number_at c.args.s.now (c.args.at + 1)) (matched c.variable_at-2.ensures c.in_err-literal.was)
    ∙ sym (ap literal_read (with-minus c.args.s.now c.args.at c.args.last minus))

pub returns : goal.returns
returns c =
    let minus = matched c.byte_at.ensures c.if-byte_at-ne45.false in
    turned c.args.last (number_at c.args.s.now (c.args.at + 1)) _ _ _ (matched c.variable_at-2.ensures c.in_ok-literal.was) c.negated.ensures
    ∙ sym (ap literal_read (with-minus c.args.s.now c.args.at c.args.last minus))
