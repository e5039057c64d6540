-- `store_rows` meets its contract: the words of the clauses that are left, stored behind those that are, are all the words stored.
use Prim.Native.Nat.{◌-◌, ◌*◌}
use mathlib.Core.Path.{◌≡◌}
use lib.ListN.{length}
use lib.Seq.{sets}
use Rattle.rules.specs.Table.{row_words}
use Rattle.rules.specs.WcnfReader.{clauses_words}
use Rattle.wcnf_reader.proofs.clauses.store_rows.Given as goal

abbrev pub invariant-loop-i : goal.invariant-loop-i
invariant-loop-i l =
    (length l.table ≡ length l.initial.table)
    × (sets l.table (row_words * l.i) (clauses_words (l.rows - l.i) l.top l.s l.at) ≡ sets l.initial.table 0 (clauses_words l.rows l.top l.s l.from))
