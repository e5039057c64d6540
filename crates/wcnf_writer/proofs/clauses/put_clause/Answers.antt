-- `put_clause` meets its contract: the weight, or top, the literals and the closing 0, one behind the other.
use native.Mathlib.Omega.{arith}
use Rattle.literals.specs.Literal.{most_variables}
use Rattle.text_laws.proofs.Pieces.{number-length}
use Rattle.pieces_written.proofs.Storing.{stored-both}
use Rattle.spaced_written.proofs.Pieces.{spaced-length}
use Rattle.wcnf_writer.proofs.Pieces.{clause-is}
use Rattle.wcnf_writer.proofs.clauses.put_clause.Goals as goal

pub put_spaced_lits-end-requires : goal.put_spaced_lits-end-requires
put_spaced_lits-end-requires c = (omega (arith, c.put_number-from.ensures.place, number-length c.line_weight-weight.result), omega arith)

pub put_key-requires : goal.put_key-requires
put_key-requires c =
    let one = number-length c.line_weight-weight.result in
    let two = spaced-length most_variables c.args.row.lits in
    omega (arith, c.put_spaced_lits-end.ensures.place, c.put_number-from.ensures.place)

pub returns : goal.returns
returns c =
    rw (clause-is c.args.top c.args.row, ← c.line_weight-weight.ensures)
    (stored-both c.put_number-from.ensures (stored-both c.put_spaced_lits-end.ensures c.put_key.ensures))
