-- `put_refusal` meets its contract: the comment with number and place, then the statement.
use native.Mathlib.Omega.{arith}
use Rattle.text_laws.proofs.Pieces.{number-length, line-length}
use Rattle.pieces_written.proofs.Storing.{stored-both}
use Rattle.wcnf_lines.specs.Keys.{place_key}
use Rattle.wcnf_lines.proofs.Written.{refusal_is}
use Rattle.wcnf_lines.proofs.inner.put_refusal.Goals as goal

pub put_number_line-second-requires : goal.put_number_line-second-requires
put_number_line-second-requires c = omega (arith, c.put_number-gap.ensures.place, c.put_key-number.ensures.place, number-length c.numbered-told.result.0)

pub put_key-requires : goal.put_key-requires
put_key-requires c =
    let one = number-length c.numbered-told.result.0 in
    let two = line-length place_key c.numbered-told.result.1 in
    omega (arith, c.put_number_line-second.ensures.place, c.put_number-gap.ensures.place, c.put_key-number.ensures.place)

pub returns : goal.returns
returns c =
    rw (refusal_is c.args.why c.numbered-told.result c.numbered-told.ensures)
    (stored-both c.put_key-number.ensures
    (stored-both c.put_number-gap.ensures (stored-both c.put_number_line-second.ensures c.put_key.ensures)))
