use Prim.Native.Nat.{◌+◌, ◌-◌, ◌*◌, ◌<◌}
use mathlib.Core.Path.{sym, ap, ◌∙◌}
use native.Mathlib.Nat.{sub-zero}
use native.Mathlib.Omega.{arith}
use Rattle.rules.specs.Reader.{first_row_line, row_lines}
use Rattle.text_laws.specs.Ends.{unbroken}
use Rattle.text_laws.proofs.Matched.{matched}
use Rattle.text_laws.proofs.Branches.{row_line, unbroken-row, left_one, left-unbroken, left-stored, stored-end}
use Rattle.reader.proofs.rows.store_rows.Goals as goal

pub loop-i-init : goal.loop-i-init
loop-i-init c = (rw sub-zero c.requires.1, rw sub-zero)

pub returns-in_default : goal.returns-in_default
returns-in_default c =
    let line = first_row_line + row_lines * c.loop-i.i in
    let one = ap unbroken (sym (left_one c.args.s.now c.args.rows c.loop-i.i c.loop-i.at (omega arith))) ∙ c.loop-i.invariant.0 in
    let row = matched c.row_at.ensures c.in_default.is in
    absurd (unbroken-row c.args.s.now (c.args.rows - (c.loop-i.i + 1)) c.loop-i.at line first_row_line _ one row)

pub overflow_mul-i : goal.overflow_mul-i
overflow_mul-i c = omega (arith, c.loop-i.auto.table)

pub set_row_in-requires : goal.set_row_in-requires
set_row_in-requires c = omega (arith, c.loop-i.auto.table)

pub loop-i-preserved : goal.loop-i-preserved
loop-i-preserved c =
    let line = first_row_line + row_lines * c.loop-i.i in
    let read = row_line c.args.s.now c.loop-i.at first_row_line line c.in-Ok.row c.in-Ok.next (matched c.row_at.ensures c.in-Ok.is) in
    let left : c.loop-i.i < c.args.rows = omega arith in
    let words = left-stored c.args.s.now c.args.rows c.loop-i.i c.loop-i.at c.in-Ok.row c.in-Ok.next left read c.loop-i.table c.loop-i.invariant.0 in (
      left-unbroken c.args.s.now c.args.rows c.loop-i.i c.loop-i.at c.in-Ok.row c.in-Ok.next left read c.loop-i.invariant.0,
      rw c.set_row_in.ensures (words ∙ c.loop-i.invariant.1),
    )

pub returns : goal.returns
returns c = matched (stored-end c.args.s.now c.args.rows c.loop-i.i c.loop-i.at c.loop-i.table (omega arith)) c.loop-i.invariant.1
