-- `rows_end` meets its contract: where the rows that are left end is where all of them do.
use mathlib.Core.Path.{◌≡◌}
use Rattle.rules.specs.Reader.{first_row_line, rows_at}
use Rattle.text_laws.proofs.Branches.{rows_left}
use Rattle.reader.specs.Ends.{end_of}
use Rattle.reader.proofs.rows.rows_end.Given as goal

abbrev pub invariant-loop-i : goal.invariant-loop-i
invariant-loop-i l = end_of (rows_left l.s l.rows l.i l.at) ≡ end_of (rows_at l.rows l.s l.from first_row_line)
