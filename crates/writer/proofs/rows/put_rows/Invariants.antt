-- `put_rows` meets its contract: the rows passed stand there.
use Rattle.rules.specs.Text.{rows_text}
use Rattle.pieces_written.specs.Stored.{Stored}
use Rattle.writer.proofs.rows.put_rows.Given as goal

abbrev pub invariant-loop-i : goal.invariant-loop-i
invariant-loop-i l = Stored l.initial.out l.at (rows_text l.table l.i) l.next l.out
