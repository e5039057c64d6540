-- The demands, each a named type. A comment quotes the sentence that a field stands for. The words are those of the definitions that the contracts of
-- the public functions cite (crates/rules/specs), and are proved in proofs/Demands.antt: demand-1, demand-2, demand-3.
use Rattle.std.specs.Prelude.{ℕ, ◌/◌, ◌%◌, ◌≤◌, ◌≡◌, List, ◌++◌, true, ◌↔◌, length, take, drop, ℤ, Ok, Err}
use Rattle.rules.specs.declared.Choice.{Choice}
use Rattle.rules.specs.declared.Status.{Status}
use Rattle.rules.specs.declared.Found.{Found}
use Rattle.rules.specs.declared.Refusal.{Refusal}
use Rattle.rules.specs.declared.Losses.{Losses}
use Rattle.rules.specs.Refusals.{Judged, number_of, place_of, Rule}
use Rattle.rules.specs.Table.{most_rows, row_count, weighs, table_why}
use Rattle.rules.specs.Desk.{standing, decided, truths, desk_words, well_formed, load_why, load_desk, decisions, desk_weighs, keeps}
use Rattle.rules.specs.Decide.{decide_why, decide_desk}
use Rattle.rules.specs.Rewrite.{rewrite_why, rewrite_desk}
use Rattle.rules.specs.TakeBack.{take_back_why, take_back_desk}
use Rattle.rules.specs.Bound.{total}
use Rattle.rules.specs.Choice.{losses_by, bounded}
use Rattle.rules.specs.Walk.{most_budget, found_by, walk_in, searched}
use Rattle.rules.specs.Text.{table_text, write_why, written, write_out}
use Rattle.rules.specs.Reader.{text_read, read_words, read_table, text_says}
use Rattle.rules.specs.Program.{answer_why, answer_out}
use Rattle.rules.specs.Wcnf.{wcnf_write_why, wcnf_out}
use Rattle.rules.specs.WcnfReader.{wcnf_table}
use Rattle.rules.specs.WcnfProgram.{wcnf_answer_why, wcnf_answer_out}
use Rattle.rules.specs.Calls.{Call, after_calls}
use Rattle.step_laws.specs.Standing.{standing_calls, AllFine, NeverTen, LoadsRefused, decided_by, true_by}
use Rattle.telling.specs.Told.{told, most_place, told_near, by_text_read}
use Rattle.demands.specs.Searches.{Finished, NoReading, Ended, CutWhere, Stopped, InOrder, StopRule}
use Rattle.demands.specs.Rewritings.{Rewritten, Judging}
use Rattle.demands.specs.HardRows.{HardKept}
use Rattle.demands.specs.Lines.{ByLines}
use Rattle.demands.specs.Competition.{reader_why, Competition}
use Rattle.demands.specs.Orders.{ExactlyWhen}

-- ---- demand 1; its first two sentences are said of the code, in crates/promises/specs/Promises.antt

-- a call that changes lent words or bytes leaves them as found where it is refused
abbrev pub Unchanged : Judged → List ℕ → List ℕ → Type 0
Unchanged why found after = (r : Refusal) → why ≡ Err r → after ≡ found

pub record Demand1 : Type 0 where
  -- "A refusal gives the number set in document 01": each call is judged by `first_due` of its order
  pub exactly : (order : List Rule) → ExactlyWhen order
  -- for C: 0 where the call is accepted, else the refusal's number in the low byte and its place above
  pub accepted : (j : Judged) → (told j ≡ 0) ↔ (j ≡ Ok tt)
  pub number : (r : Refusal) → told (Err r) % 256 ≡ number_of r
  pub place : (r : Refusal) → told (Err r) / 256 ≡ place_of r
  -- and of a competition file, which may have any number of lines, where there is room for the place
  pub near : (r : Refusal) → place_of r ≤ most_place → told_near (Err r) ≡ told (Err r)
  pub accepted-near : (j : Judged) → (told_near j ≡ 0) ↔ (j ≡ Ok tt)
  -- "and changes no lent word or byte."
  pub load : (n : ℕ) (table : List ℕ) (c : ℕ) (d : List ℕ) → Unchanged (load_why n table c d) d (load_desk n table c d)
  pub decide : (d : List ℕ) (literal : ℤ) → Unchanged (decide_why d literal) d (decide_desk d literal)
  pub rewrite : (d : List ℕ) (kind : ℕ) (named : List ℕ) → Unchanged (rewrite_why d kind named) d (rewrite_desk d kind named)
  pub take_back : (d : List ℕ) → Unchanged (take_back_why d) d (take_back_desk d)
  pub read : (text table : List ℕ) → Unchanged (by_text_read (text_read most_rows text (length table))) table (read_table most_rows text table)
  pub write : (n budget : ℕ) (table out : List ℕ) → Unchanged (write_why n budget table out) out (write_out n budget table out)
  pub answer : (input output : List ℕ) → Unchanged (answer_why input output) output (answer_out input output)
  pub read_wcnf : (text table : List ℕ) → Unchanged (reader_why most_rows text (length table)) table (wcnf_table most_rows text table)
  pub write_wcnf : (n : ℕ) (table out : List ℕ) → Unchanged (wcnf_write_why n table out) out (wcnf_out n table out)
  pub answer_wcnf : (input output : List ℕ) → Unchanged (wcnf_answer_why input output) output (wcnf_answer_out input output)

-- ---- demand 2

pub record Demand2 : Type 0 where
  -- "A finished search gives the smallest weight .., and of those the first, true before false."
  -- document 02, C-14: "Demand 2 holds under either [bound]; counts and stopped answers read from the one chosen."
  -- document 02, C-16: 'In demand 2 "all readings" becomes those that satisfy every hard row'
  pub finished : (d : List ℕ) (choice : Choice) (budget : ℕ) (f : Found) → searched d choice budget ≡ Ok f → f.status ≡ Status.Done
      → Finished d f
  -- document 02, C-16: "A finished search with no reading answers `status=impossible`, weight and reading none."
  pub no_reading : (d : List ℕ) (choice : Choice) (budget : ℕ) (f : Found) → searched d choice budget ≡ Ok f
      → f.status ≡ Status.Impossible → NoReading d f
  -- a search that is not stopped is finished: done where there is a reading to find, and impossible where there is none
  pub ended : (d : List ℕ) (choice : Choice) (budget : ℕ) (f : Found) → searched d choice budget ≡ Ok f
      → (f.status ≡ Status.Stopped → ⊥) → Ended d f
  -- document 02, C-16: "The walk cuts a node where an unsatisfied hard row has an empty remnant"
  pub cuts : (d : List ℕ) (choice : Choice) → well_formed d ≡ true → CutWhere d choice
  -- "A stopped one says so, with the best reading that document 01's walk met by that count."
  pub stopped : (d : List ℕ) (choice : Choice) (budget : ℕ) (f : Found) → searched d choice budget ≡ Ok f → f.status ≡ Status.Stopped
      → Stopped d choice budget f
  pub in_order : (d : List ℕ) → well_formed d ≡ true → InOrder d
  pub stop_rule : (d : List ℕ) (choice : Choice) (budget : ℕ) (f : Found) → searched d choice budget ≡ Ok f → StopRule d choice budget f
  -- "A rewriting does just what its published rule says."
  pub rewritten : (d : List ℕ) (kind : ℕ) (named : List ℕ) → rewrite_why d kind named ≡ Ok tt → Rewritten d kind named (rewrite_desk d kind named)
  -- and its table is complete: rows that fit a line are not refused with 14
  pub judging : (d : List ℕ) (kind : ℕ) (named : List ℕ) → Judging d kind named (rewrite_why d kind named)
  -- "Given room, an admissible table written out with its variable count and budget"
  pub writes : (n budget : ℕ) (table out : List ℕ) → table_why n table ≡ Ok tt → length (table_text n budget table) ≤ length out
      → (written n budget table out ≡ Ok (length (table_text n budget table)))
      × (write_out n budget table out ≡ table_text n budget table ++ drop (length (table_text n budget table)) out)
  -- "reads back as the same three"
  pub reads_back : (n budget : ℕ) (table lent : List ℕ) → table_why n table ≡ Ok tt → budget ≤ most_budget → length table ≤ length lent
      → (text_read most_rows (table_text n budget table) (length lent) ≡ Ok (text_says n budget (row_count table)))
      × (read_table most_rows (table_text n budget table) lent ≡ table ++ drop (length table) lent)
  -- "and no other text does."
  pub no_other : (text lent : List ℕ) (n budget m : ℕ) (table : List ℕ) → text_read most_rows text (length lent) ≡ Ok (text_says n budget m)
      → read_words text ≡ table → text ≡ table_text n budget table
  -- "The first line that breaks the form is the place": what the reader says of any text, by its lines
  pub by_lines : ByLines
  -- document 02, C-11
  pub competition : Competition

-- ---- demand 3

-- "After an accepted load, take any run of decisions, rewritings, takings back and refused calls": `start` is the load, `after` the desk then. A load
-- into the desk's words is a call of the run where it is refused.
pub record Kept (n : ℕ) (table : List ℕ) (c : ℕ) (d : List ℕ) (calls : List Call) (start after : List ℕ) : Type 0 where
  -- "Every full reading that keeps the standing decisions weighs on the desk exactly what it weighed in the table loaded."
  pub weights : (full : ℕ) → keeps after full ≡ true → desk_weighs after full ≡ weighs table full
  -- document 02, C-16: "in demand 3 the hard rows broken are also those broken in the load"; of every full reading
  pub hard_rows : HardKept table after
  -- "The desk equals, word for word, a fresh load with the same row capacity followed by the standing steps alone": whatever words are lent to that load
  pub replayed : (fresh : List ℕ) → load_why n table c fresh ≡ Ok tt
      → take (desk_words c) after ≡ take (desk_words c) (after_calls (load_desk n table c fresh) (standing_calls start calls))
  pub replays_fine : (fresh : List ℕ) → load_why n table c fresh ≡ Ok tt → AllFine (load_desk n table c fresh) (standing_calls start calls)
  pub standing_count : standing after ≡ length (standing_calls start calls)
  -- the decisions of the desk are those that stand
  pub decided_stand : decided after ≡ decided_by (standing_calls start calls)
  pub true_stand : truths after ≡ true_by (standing_calls start calls)
  -- "words past it are never touched"
  pub untouched : drop (desk_words c) after ≡ drop (desk_words c) d
  -- "The bound never exceeds the least weight of such a reading." Neither of the two does; so not of those that satisfy every hard row too, of which
  -- document 02, C-16, says it: "the bound's claim holds where such a reading exists".
  pub bounds : (choice : Choice) (full : ℕ) (l : Losses) → bounded after choice ≡ Ok l → keeps after full ≡ true → total l ≤ weighs table full
  -- no call of the run gave a 10, and neither do bound and search after it
  pub never_ten : NeverTen start calls
  pub bound_given : (choice : Choice) → bounded after choice ≡ Ok (losses_by choice after (decisions after))
  pub search_given : (choice : Choice) (budget : ℕ) → searched after choice budget ≡ Ok (found_by (walk_in after choice budget))

abbrev pub Demand3 : Type 0
Demand3 = (n : ℕ) (table : List ℕ) (c : ℕ) (d : List ℕ) → load_why n table c d ≡ Ok tt → (calls : List Call)
    → LoadsRefused (load_desk n table c d) calls → Kept n table c d calls (load_desk n table c d) (after_calls (load_desk n table c d) calls)
