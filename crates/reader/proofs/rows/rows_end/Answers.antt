use mathlib.Core.Path.{◌∙◌}
use native.Mathlib.Nat.{sub-zero}
use native.Mathlib.Omega.{arith}
use Rattle.text_laws.proofs.Matched.{matched}
use Rattle.masks.proofs.Choice.{handed-on}
use Rattle.reader.proofs.Ends.{end-broken, end-next, end_none}
use Rattle.reader.proofs.rows.rows_end.Goals as goal

pub loop-i-init : goal.loop-i-init
loop-i-init c = rw sub-zero

pub returns-in_err-next : goal.returns-in_err-next
returns-in_err-next c =
    let row = matched c.row_at.ensures c.in_err-next.was in
    handed-on _ _ c.from_residual.ensures.1 ∙ matched (end-broken c.args.s.now c.args.rows c.loop-i.i c.loop-i.at _ (omega arith) row) c.loop-i.invariant

pub loop-i-preserved : goal.loop-i-preserved
loop-i-preserved c =
    let row = matched c.row_at.ensures c.in_ok-next.was in
    matched (end-next c.args.s.now c.args.rows c.loop-i.i c.loop-i.at _ _ (omega arith) row) c.loop-i.invariant

pub returns : goal.returns
returns c = matched (end_none c.args.s.now c.args.rows c.loop-i.i c.loop-i.at (omega arith)) c.loop-i.invariant
