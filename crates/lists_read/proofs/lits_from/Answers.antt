use Prim.Native.Nat.{ℕ, suc, ◌+◌, ◌-◌, ◌≤◌}
use mathlib.Core.Path.{◌≡◌, ap, ◌∙◌}
use mathlib.Core.Logic.{inl, inr}
use native.Mathlib.Omega.{arith}
use Rattle.literals.specs.Literal.{most_variables}
use Rattle.rules.specs.Reader.{lits_from}
use Rattle.text_laws.proofs.Matched.{matched, unmatched}
use Rattle.text_laws.proofs.Stands.{inside}
use Rattle.text_laws.proofs.Branches.{Parted, lits-none, lits-end, lits-unparted}
use Rattle.lists_read.proofs.Signs.{lits-stuck, lits-grown}
use Rattle.lists_read.proofs.lits_from.Goals as goal
use Rattle.lists_read.proofs.lits_from.Goals.{then-last-ne0+else-b-ne32, else-last-ne0}

-- a turn that is left
one_turn : (i : ℕ) → i ≤ most_variables → suc most_variables - i ≡ suc (suc most_variables - (i + 1))
one_turn i h = omega arith

pub loop-turn-init : goal.loop-turn-init
loop-turn-init c = ap (lits_from (suc most_variables) c.args.s.now c.args.from 0) c.none-lits.ensures

pub overflow_add-result : goal.overflow_add-result
overflow_add-result c = omega (arith, inside c.args.s.now c.loop-turn.at (omega (arith, c.byte_at-b.ensures, c.if-b-eq10.true)))

pub returns-then-b-eq10 : goal.returns-then-b-eq10
returns-then-b-eq10 c =
    let byte = matched c.byte_at-b.ensures c.if-b-eq10.true in
    matched (lits-end _ _ c.loop-turn.at c.loop-turn.last c.loop-turn.lits byte) (rw (one_turn c.loop-turn._turn (omega arith)) at c.loop-turn.invariant)

pub returns-then-b-ne32 : goal.returns-then-b-ne32
returns-then-b-ne32 c =
    let no_end = unmatched c.byte_at-b.ensures c.if-b-eq10.false in
    let no_space = unmatched c.byte_at-b.ensures c.if-b-ne32.true in
    matched (lits-unparted _ _ c.loop-turn.at c.loop-turn.last c.loop-turn.lits no_end c.if-last-ne0.true no_space)
    (rw (one_turn c.loop-turn._turn (omega arith)) at c.loop-turn.invariant)

pub overflow_add-at : goal.overflow_add-at
overflow_add-at c = omega (arith, inside c.args.s.now c.loop-turn.at (omega (arith, c.byte_at-b.ensures, c.if-b-ne32.false)))

pub returns-in_err-literal : goal.returns-in_err-literal
returns-in_err-literal c =
    let parted : Parted c.args.s.now c.loop-turn.at c.loop-turn.last c.if-last-ne0.at =
    elim c.if-last-ne0.branch [
      | then-last-ne0+else-b-ne32 w ↦ inr (w.if-last-ne0.true, matched c.byte_at-b.ensures w.if-b-ne32.false, w.at-is)
      | else-last-ne0 w ↦ inl (w.if-last-ne0.false, w.at-is)
    ] in
    let no_end = unmatched c.byte_at-b.ensures c.if-b-eq10.false in
    let literal = matched c.literal_at.ensures c.in_err-literal.was in
    c.from_residual.ensures
    ∙ matched (lits-stuck _ _ c.loop-turn.at c.loop-turn.last c.loop-turn.lits _ no_end parted literal)
    (rw (one_turn c.loop-turn._turn (omega arith)) at c.loop-turn.invariant)

pub loop-turn-preserved : goal.loop-turn-preserved
loop-turn-preserved c =
    let parted : Parted c.args.s.now c.loop-turn.at c.loop-turn.last c.if-last-ne0.at =
    elim c.if-last-ne0.branch [
      | then-last-ne0+else-b-ne32 w ↦ inr (w.if-last-ne0.true, matched c.byte_at-b.ensures w.if-b-ne32.false, w.at-is)
      | else-last-ne0 w ↦ inl (w.if-last-ne0.false, w.at-is)
    ] in
    let no_end = unmatched c.byte_at-b.ensures c.if-b-eq10.false in
    let literal = matched c.literal_at.ensures c.in_ok-literal.was in
    let adds = lits-grown _ c.args.s.now c.loop-turn.at c.loop-turn.last c.loop-turn.lits c.if-last-ne0.at no_end parted in
    matched (adds _ _ _ _ _ literal c.lits.ensures c.together-lits.ensures c.size-last.ensures)
    (rw (one_turn c.loop-turn._turn (omega arith)) at c.loop-turn.invariant)

pub returns : goal.returns
returns c =
    let none : suc most_variables - c.loop-turn._turn ≡ 0 = omega arith in
    matched (lits-none 0 c.args.s.now c.loop-turn.at c.loop-turn.last c.loop-turn.lits) (rw none at c.loop-turn.invariant)
