-- `put` meets its contract: the first three lines and the rows, one behind the other.
use native.Mathlib.Omega.{arith}
use Rattle.rules.specs.Table.{row_count}
use Rattle.text_laws.proofs.Pieces.{head-most, table-lines}
use Rattle.pieces_written.proofs.Storing.{stored-both}
use Rattle.writer.proofs.texts.TableTextText.put.Goals as goal

pub put_rows-requires : goal.put_rows-requires
unfolding row_count
put_rows-requires c =
    let few = head-most c.args.self.now.variables c.args.self.now.budget (row_count c.args.self.now.table.now) in
    (omega (arith, c.args.self.now.few, c.put_head-fourth.ensures.place), omega arith)

pub returns : goal.returns
unfolding row_count
returns c = rw (table-lines c.args.self.now.variables c.args.self.now.budget c.args.self.now.table.now) (stored-both c.put_head-fourth.ensures c.put_rows.ensures)
