-- `store_rows` meets its contract: the words of the rows that are left, stored behind those that are, are all the words stored.
use Prim.Native.Nat.{◌*◌}
use mathlib.Core.Path.{◌≡◌}
use mathlib.Core.Bool.{true}
use lib.Seq.{sets}
use Rattle.rules.specs.Table.{row_words}
use Rattle.rules.specs.Reader.{first_row_line, rows_at, words_of}
use Rattle.text_laws.specs.Ends.{unbroken}
use Rattle.text_laws.proofs.Branches.{rows_left}
use Rattle.reader.proofs.rows.store_rows.Given as goal

abbrev pub invariant-loop-i : goal.invariant-loop-i
invariant-loop-i l =
    (unbroken (rows_left l.s l.rows l.i l.at) ≡ true)
    × (sets l.table (row_words * l.i) (words_of (rows_left l.s l.rows l.i l.at)) ≡ sets l.initial.table 0 (words_of (rows_at l.rows l.s l.from first_row_line)))
