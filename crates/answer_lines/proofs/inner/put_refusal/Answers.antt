-- `put_refusal` meets its contract: the three lines, one behind the other.
use native.Mathlib.Omega.{arith}
use Rattle.text_laws.proofs.Pieces.{line-length}
use Rattle.pieces_written.proofs.Storing.{stored-both}
use Rattle.answer_lines.specs.Keys.{number_key}
use Rattle.answer_lines.proofs.Written.{refusal_is}
use Rattle.answer_lines.proofs.inner.put_refusal.Goals as goal

pub put_number_line-requires : goal.put_number_line-requires
put_number_line-requires c =
    omega (arith, c.put_number_line-third.ensures.place, c.put_key-second.ensures.place, line-length number_key c.numbered-told.result.0)

pub returns : goal.returns
returns c =
    rw (refusal_is c.args.why c.numbered-told.result c.numbered-told.ensures)
    (stored-both c.put_key-second.ensures (stored-both c.put_number_line-third.ensures c.put_number_line.ensures))
