-- `lits_of_signed` meets its contract: past the last variable and for 0 there is none, else the literal, or with a minus its opposite.
use mathlib.Core.Path.{sym, ap, ◌∙◌}
use mathlib.Core.Bool.{Bool}
use native.Mathlib.Omega.{arith}
use lib.IntN.{pos}
use mir.Syntax.{w64}
use mir.Val.{SFits}
use Rattle.literals.specs.Literal.{lits_of, offered}
use Rattle.literals.proofs.Signed.{back}
use Rattle.text_laws.proofs.Matched.{matched}
use Rattle.wcnf_pieces.specs.Clauses.{of_sign}
use Rattle.wcnf_pieces.proofs.Members.{past-literals, no-literal, plain-literal, turned-literal}
use Rattle.wcnf_pieces.proofs.clauses.lits_of_signed.Goals as goal

pub returns-then-size-gt-MOST : goal.returns-then-size-gt-MOST
returns-then-size-gt-MOST c = c.none.ensures ∙ sym (past-literals c.args.negative c.args.size c.if-size-gt-MOST.true)

pub overflow_cast-size : goal.overflow_cast-size
overflow_cast-size c =
    let small : SFits w64 (pos c.args.size) = record { sfits = omega (arith, c.if-size-gt-MOST.false) } in
    small

pub returns-in_default : goal.returns-in_default
returns-in_default c =
    let small : SFits w64 (pos c.args.size) = record { sfits = omega (arith, c.if-size-gt-MOST.false) } in
    let refused = matched (c.new.ensures ∙ ap offered (back _ small)) c.in_default.is in
    c.none-in_default.ensures ∙ sym (no-literal c.args.negative c.args.size refused)

pub returns-then-negative : goal.returns-then-negative
returns-then-negative c =
    let small : SFits w64 (pos c.args.size) = record { sfits = omega (arith, c.if-size-gt-MOST.false) } in
    let fine = matched (c.new.ensures ∙ ap offered (back _ small)) c.in-Some.is in
    turned-literal c.args.size _ fine _ c.negated.ensures _ c.lits.ensures
    ∙ ap (λ (b : Bool). lits_of (of_sign b c.args.size)) (sym c.if-negative.true)

pub returns : goal.returns
returns c =
    let small : SFits w64 (pos c.args.size) = record { sfits = omega (arith, c.if-size-gt-MOST.false) } in
    let fine = matched (c.new.ensures ∙ ap offered (back _ small)) c.in-Some.is in
    plain-literal c.args.size _ fine _ c.lits-2.ensures
    ∙ ap (λ (b : Bool). lits_of (of_sign b c.args.size)) (sym c.if-negative.false)
