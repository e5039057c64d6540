use mathlib.Core.Path.{◌≡◌}
use native.Mathlib.Omega.{arith}
use Rattle.rules.specs.Table.{row_of}
use Rattle.text_laws.proofs.Pieces.{rows_none, rows_step, rows-length}
use Rattle.pieces_written.proofs.Storing.{stored-none, stored-both}
use Rattle.writer.proofs.rows.put_rows.Goals as goal

pub loop-i-init : goal.loop-i-init
loop-i-init c = rw rows_none stored-none

pub overflow_mul-i : goal.overflow_mul-i
overflow_mul-i c = omega (arith, c.requires.1)

pub row_in-row-requires : goal.row_in-row-requires
row_in-row-requires c = omega (arith, c.requires.1)

pub put_row-next-requires : goal.put_row-next-requires
put_row-next-requires c = omega (arith, c.loop-i.invariant.place, rows-length c.args.table.now c.loop-i.i)

pub loop-i-preserved : goal.loop-i-preserved
unfolding row_of
loop-i-preserved c =
    let row : c.row_in-row.result ≡ row_of c.args.table.now c.loop-i.i = c.row_in-row.ensures in
    rw (rows_step c.args.table.now c.loop-i.i, ← row) (stored-both c.loop-i.invariant c.put_row-next.ensures)

pub returns : goal.returns
returns c =
    let all : c.loop-i.i ≡ c.args.m = omega arith in
    rw (← all) c.loop-i.invariant
