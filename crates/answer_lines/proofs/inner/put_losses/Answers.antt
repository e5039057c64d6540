-- `put_losses` meets its contract: the three lines, one behind the other.
use native.Mathlib.Omega.{arith}
use Rattle.text_laws.proofs.Pieces.{line-length}
use Rattle.pieces_written.proofs.Storing.{stored-both}
use Rattle.answer_lines.specs.Keys.{conceded_key, lost_key}
use Rattle.answer_lines.proofs.Written.{losses-is}
use Rattle.answer_lines.proofs.inner.put_losses.Goals as goal

pub put_number_line-third-requires : goal.put_number_line-third-requires
put_number_line-third-requires c = omega (arith, c.requires, c.put_number_line-second.ensures.place, line-length conceded_key c.args.losses.conceded)

pub put_number_line-requires : goal.put_number_line-requires
put_number_line-requires c =
    let conceded = line-length conceded_key c.args.losses.conceded in
    let lost = line-length lost_key c.args.losses.lost in
    omega (arith, c.requires, conceded, lost, c.put_number_line-second.ensures.place, c.put_number_line-third.ensures.place)

pub returns : goal.returns
returns c =
    rw (losses-is c.args.losses)
    (stored-both c.put_number_line-second.ensures (stored-both c.put_number_line-third.ensures c.put_number_line.ensures))
