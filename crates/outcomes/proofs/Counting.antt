-- What a table comes to is of as many variables as the table, and has no reading where it says that none is possible.
use Rattle.std.specs.Prelude.{Ok, Err}
use Prim.Native.Nat.{ℕ, ◌≤◌}
use mathlib.Core.List.{List}
use lib.ListN.{replicate}
use Rattle.literals.specs.Literal.{most_variables}
use Rattle.rules.specs.declared.Choice.{Choice}
use Rattle.rules.specs.Refusals.{Judged}
use Rattle.rules.specs.declared.Losses.{Losses}
use Rattle.rules.specs.declared.Walked.{Walked}
use Rattle.rules.specs.Desk.{desk_words, load_why}
use Rattle.rules.specs.Walk.{walk_in, found_by}
use Rattle.rules.specs.Program.{program_desk, outcome_as, table_outcome}
use Rattle.readings.specs.Line.{Counted}
use Rattle.readings.proofs.Cases.{found_none}

pub table_counted : (n b m : ℕ) (table : List ℕ) → n ≤ most_variables → Counted (table_outcome n b m table)
table_counted n b m table few = by-load (load_why n table m (replicate (desk_words m) 0)) _ (walk_in (program_desk n m table) Choice.Units b)
  where
    by-load : (j : Judged) (root : Losses) (s : Walked) → Counted (outcome_as j (Ok (record { variables = n; root = root; found = found_by s })))
    by-load (Ok _) root s = (few, found_none s)
    by-load (Err r) root s = tt
