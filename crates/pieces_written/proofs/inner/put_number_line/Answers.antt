-- `put_number_line` meets its contract: the key, the number and the end of line, one behind the other.
use native.Mathlib.Omega.{arith}
use Rattle.text_laws.specs.Pieces.{line_text}
use Rattle.text_laws.proofs.Pieces.{number-length}
use Rattle.pieces_written.proofs.Storing.{stored-both}
use Rattle.pieces_written.proofs.inner.put_number_line.Goals as goal

pub put-requires : goal.put-requires
put-requires c = omega (arith, c.put_number-end.ensures.place, c.put_key-from.ensures.place, number-length c.args.n)

pub returns : goal.returns
unfolding line_text
returns c = stored-both c.put_key-from.ensures (stored-both c.put_number-end.ensures c.put.ensures)
