use Rattle.std.specs.Prelude.{Ok}
use Prim.Native.Nat.{ℕ, ◌+◌}
use mathlib.Core.Path.{◌≡◌, sym, ◌∙◌, ap, subst}
use native.Mathlib.Omega.{arith}
use Rattle.masks.proofs.Choice.{handed-on}
use Rattle.rules.specs.Table.{row_of, row_why, rows_why}
use Rattle.tables.proofs.Rows.{rows_none, rows_next, rows-refused}
use Rattle.tables.proofs.judge.rows_why.Goals as goal

pub loop-i-init : goal.loop-i-init
loop-i-init c = rows_none _ _

pub returns-in_err-row_why : goal.returns-in_err-row_why
unfolding row_of
returns-in_err-row_why c =
    let gave : c.row_why.result ≡ rows_why c.args.variables c.args.table.now (c.loop-i.i + 1) =
    c.row_why.ensures ∙ ap (row_why c.args.variables c.loop-i.i) c.row_in.ensures
    ∙ sym (rows_next c.args.variables c.args.table.now c.loop-i.i c.loop-i.invariant)
    in
    handed-on c.from_residual.result c.in_err-row_why.field-0.0 c.from_residual.ensures.1
    ∙ sym (rows-refused c.args.variables c.args.table.now _ (c.loop-i.i + 1) c.args.n (omega arith) (sym gave ∙ c.in_err-row_why.was))

pub loop-i-preserved : goal.loop-i-preserved
unfolding row_of
loop-i-preserved c =
    let gave : c.row_why.result ≡ rows_why c.args.variables c.args.table.now (c.loop-i.i + 1) =
    c.row_why.ensures ∙ ap (row_why c.args.variables c.loop-i.i) c.row_in.ensures
    ∙ sym (rows_next c.args.variables c.args.table.now c.loop-i.i c.loop-i.invariant)
    in
    sym gave ∙ c.in_ok-row_why.was

pub returns : goal.returns
returns c =
    let e : c.loop-i.i ≡ c.args.n = omega arith in
    sym (subst (λ (k : ℕ). rows_why c.args.variables c.args.table.now k ≡ Ok tt) e c.loop-i.invariant)
