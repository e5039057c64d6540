-- `put` meets its contract: the header and the clauses, one behind the other.
use native.Mathlib.Omega.{arith}
use Rattle.rules.specs.Table.{row_count}
use Rattle.pieces_written.proofs.Storing.{stored-both}
use Rattle.wcnf_writer.proofs.Pieces.{header-length, file-is}
use Rattle.wcnf_writer.proofs.texts.FileTextText.put.Goals as goal

pub put_clauses-requires : goal.put_clauses-requires
unfolding row_count
put_clauses-requires c =
    let few = header-length c.args.self.now.variables (row_count c.args.self.now.table.now) c.top-top.result in
    (omega (arith, c.args.self.now.few, c.put_header-second.ensures.place), omega arith)

pub returns : goal.returns
unfolding row_count
returns c = rw (file-is c.args.self.now.variables c.args.self.now.table.now, ← c.top-top.ensures) (stored-both c.put_header-second.ensures c.put_clauses.ensures)
