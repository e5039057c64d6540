-- `put_row` meets its contract: the line of the weight, that of the mark, then that of the literals.
use native.Mathlib.Omega.{arith}
use Rattle.text_laws.specs.Keys.{weight_key, hard_key}
use Rattle.text_laws.proofs.Pieces.{line-length, row-text}
use Rattle.pieces_written.proofs.Storing.{stored-both}
use Rattle.writer.proofs.rows.put_row.Goals as goal

pub put_number_line-third-requires : goal.put_number_line-third-requires
put_number_line-third-requires c = omega (arith, c.put_number_line-second.ensures.place, line-length weight_key c.args.row.weight)

pub put_lits_line-requires : goal.put_lits_line-requires
put_lits_line-requires c =
    let weight = line-length weight_key c.args.row.weight in
    let mark = line-length hard_key c.args.row.mark in
    (omega (arith, c.put_number_line-third.ensures.place, c.put_number_line-second.ensures.place), omega arith)

pub returns : goal.returns
returns c =
    rw (row-text c.args.row)
    (stored-both c.put_number_line-second.ensures (stored-both c.put_number_line-third.ensures c.put_lits_line.ensures))
