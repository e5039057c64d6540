-- `put_lits_line` meets its contract: the key, the literals and the end of line, one behind the other.
use native.Mathlib.Omega.{arith}
use Rattle.text_laws.proofs.Pieces.{lits-length}
use Rattle.pieces_written.proofs.Storing.{stored-both}
use Rattle.pieces_written.proofs.inner.put_lits_line.Goals as goal

pub put-requires : goal.put-requires
put-requires c = omega (arith, c.put_lits-end.ensures.place, c.put_key-from.ensures.place, lits-length c.args.n c.args.l)

pub returns : goal.returns
returns c = stored-both c.put_key-from.ensures (stored-both c.put_lits-end.ensures c.put.ensures)
