-- `put_header` meets its contract: the key and the three figures, one behind the other.
use native.Mathlib.Omega.{arith}
use Rattle.text_laws.proofs.Pieces.{number-length}
use Rattle.pieces_written.proofs.Storing.{stored-both}
use Rattle.wcnf_writer.proofs.texts.FileText.put_header.Goals as goal

pub put-second-requires : goal.put-second-requires
put-second-requires c = omega (arith, c.put_number-gap.ensures.place, c.put_key-first.ensures.place, number-length c.args.self.now.variables)

pub put_number-third-requires : goal.put_number-third-requires
put_number-third-requires c =
    let one = number-length c.args.self.now.variables in
    omega (arith, c.put-second.ensures.place, c.put_number-gap.ensures.place, c.put_key-first.ensures.place)

pub put_number_line-requires : goal.put_number_line-requires
put_number_line-requires c =
    let one = number-length c.args.self.now.variables in
    let two = number-length c.args.clauses in
    omega (arith, c.put-second.ensures.place, c.put_number-gap.ensures.place, c.put_key-first.ensures.place)

pub returns : goal.returns
returns c =
    stored-both c.put_key-first.ensures
    (stored-both c.put_number-gap.ensures
    (stored-both c.put-second.ensures (stored-both c.put_number-third.ensures c.put_number_line.ensures)))
