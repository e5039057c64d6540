-- `put_head` meets its contract: three lines of a key and a number, one behind the other.
use native.Mathlib.Omega.{arith}
use Rattle.text_laws.specs.Keys.{vars_key, budget_key}
use Rattle.text_laws.proofs.Pieces.{line-length}
use Rattle.pieces_written.proofs.Storing.{stored-both}
use Rattle.writer.proofs.texts.TableText.put_head.Goals as goal

pub put_number_line-third-requires : goal.put_number_line-third-requires
put_number_line-third-requires c = omega (arith, c.put_number_line-second.ensures.place, line-length vars_key c.args.self.now.variables)

pub put_number_line-requires : goal.put_number_line-requires
put_number_line-requires c =
    let one = line-length vars_key c.args.self.now.variables in
    let two = line-length budget_key c.args.self.now.budget in
    omega (arith, c.put_number_line-third.ensures.place, c.put_number_line-second.ensures.place)

pub returns : goal.returns
returns c = stored-both c.put_number_line-second.ensures (stored-both c.put_number_line-third.ensures c.put_number_line.ensures)
