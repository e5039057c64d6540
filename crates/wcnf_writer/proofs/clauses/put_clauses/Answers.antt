use mathlib.Core.Path.{◌≡◌}
use native.Mathlib.Omega.{arith}
use Rattle.rules.specs.Table.{row_of}
use Rattle.pieces_written.proofs.Storing.{stored-none, stored-both, stored-kept}
use Rattle.wcnf_writer.proofs.Pieces.{clauses-none, clauses-step, clauses-length}
use Rattle.wcnf_writer.proofs.clauses.put_clauses.Goals as goal

pub loop-i-init : goal.loop-i-init
loop-i-init c = rw (clauses-none c.args.top) stored-none

pub overflow_mul-i : goal.overflow_mul-i
overflow_mul-i c = omega (arith, c.requires.1)

pub row_in-row-requires : goal.row_in-row-requires
row_in-row-requires c = omega (arith, c.requires.1)

pub put_clause-next-requires : goal.put_clause-next-requires
put_clause-next-requires c = omega (arith, c.loop-i.invariant.place, clauses-length c.args.top c.args.table.now c.loop-i.i)

pub loop-i-preserved : goal.loop-i-preserved
unfolding row_of
loop-i-preserved c =
    let row : c.row_in-row.result ≡ row_of c.args.table.now c.loop-i.i = c.row_in-row.ensures in
    rw (clauses-step c.args.top c.args.table.now c.loop-i.i, ← row) (stored-both c.loop-i.invariant c.put_clause-next.ensures)

pub shape_of-out : goal.shape_of-out
shape_of-out c = stored-kept c.loop-i.invariant

pub returns : goal.returns
returns c =
    let all : c.loop-i.i ≡ c.args.m = omega arith in
    rw (← all) c.loop-i.invariant
