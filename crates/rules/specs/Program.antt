-- Document 01, "The text" and "Refusal numbers": what the program answers, from input bytes to output bytes.
use Rattle.std.specs.Prelude.{ℕ, ◌-◌, ◌*◌, ◌^◌, List, ◌++◌, cond, length, replicate, ltb, Option, Some, None, Result, Ok, Err}
use Rattle.masks.specs.Masks.{without}
use Rattle.literals.specs.declared.Lits.{Lits}
use Rattle.rules.specs.declared.Choice.{Choice}
use Rattle.rules.specs.declared.Refusal.{Refusal}
use Rattle.rules.specs.declared.Refusal.TheVariants.{InputTooLong}
use Rattle.rules.specs.declared.Status.{Status}
use Rattle.rules.specs.declared.Best.{Best}
use Rattle.rules.specs.declared.Found.{Found}
use Rattle.rules.specs.declared.Losses.{Losses}
use Rattle.rules.specs.declared.Outcome.{Outcome}
use Rattle.rules.specs.declared.TextRead.{TextRead}
use Rattle.rules.specs.Refusals.{Judged, number_of, place_of}
use Rattle.rules.specs.Table.{row_words}
use Rattle.rules.specs.Desk.{desk_words, load_why, load_step, decisions}
use Rattle.rules.specs.Choice.{losses_by}
use Rattle.rules.specs.Walk.{walk_in, found_by}
use Rattle.rules.specs.Text.{bytes, number_text, line, lits_text, text_why, text_written, text_out}
use Rattle.rules.specs.Reader.{text_read, read_words}

-- 19: input over 65,536 bytes
abbrev pub most_input : ℕ
most_input = 65_536

-- Document 02, C-15: "The program still refuses over 512 rows with 2, where the reader would."
abbrev pub most_input_rows : ℕ
most_input_rows = 512

-- "A refusal writes three lines: status=refused, number=, place=."
unfoldable pub refusal_text : Refusal → List ℕ
refusal_text r = line "status=" (bytes "refused") ++ (line "number=" (number_text (number_of r)) ++ line "place=" (number_text (place_of r)))

abbrev pub status_text : Status → List ℕ
status_text Status.Done = bytes "done"
status_text Status.Stopped = bytes "stopped"
status_text Status.Impossible = bytes "impossible"

abbrev pub weight_text : Option Best → List ℕ
weight_text None = bytes "none"
weight_text (Some best) = number_text best.weight

-- "one literal for each variable"
abbrev pub literals_of : ℕ → ℕ → Lits
literals_of variables reading = record { positive = reading; negative = without (2 ^ variables - 1) reading }

-- "`reading=` holds one literal for each variable"
abbrev pub reading_text : ℕ → Option Best → List ℕ
reading_text variables None = bytes "none"
reading_text variables (Some best) = lits_text variables (literals_of variables best.reading)

-- Document 02, C-12: "new lines `conceded=`, `lost=`, `foreseen=` for the root"
unfoldable pub losses_text : Losses → List ℕ
losses_text l =
    line "conceded=" (number_text l.conceded) ++ (line "lost=" (number_text l.lost) ++ line "foreseen=" (number_text l.foreseen))

unfoldable pub found_text : ℕ → Losses → Found → List ℕ
found_text variables root f =
    line "status=" (status_text f.status)
    ++ (line "weight=" (weight_text f.best)
    ++ (line "nodes=" (number_text f.nodes)
    ++ (line "reading=" (reading_text variables f.best)
    ++ losses_text root)))

-- the lines of what an input came to
abbrev pub outcome_text : Result Outcome Refusal → List ℕ
outcome_text (Ok o) = found_text o.variables o.root o.found
outcome_text (Err r) = refusal_text r

-- the desk of the program: as many rows as the table has, and no more
unfoldable pub program_desk : ℕ → ℕ → List ℕ → List ℕ
program_desk variables m table = load_step variables table m (replicate (desk_words m) 0)

abbrev pub outcome_as : Judged → Result Outcome Refusal → Result Outcome Refusal
outcome_as (Ok _) o = o
outcome_as (Err r) o = Err r

-- what a table of m rows comes to, whatever text it was read from: the losses of that desk and its search, or load's refusal. Of the two bounds
-- "the program [chooses] the old one".
abbrev pub table_outcome : ℕ → ℕ → ℕ → List ℕ → Result Outcome Refusal
table_outcome variables budget m table =
    let d = program_desk variables m table in
    outcome_as (load_why variables table m (replicate (desk_words m) 0))
    (Ok (record { variables = variables; root = losses_by Choice.Units d (decisions d); found = found_by (walk_in d Choice.Units budget) }))

abbrev pub read_outcome : List ℕ → Result TextRead Refusal → Result Outcome Refusal
read_outcome table (Ok said) = table_outcome said.variables said.budget said.rows table
read_outcome table (Err r) = Err r

-- Program: 19, reader, load.
unfoldable pub outcome_of : List ℕ → Result Outcome Refusal
outcome_of input =
    cond (ltb most_input (length input)) (Err InputTooLong) (read_outcome (read_words input) (text_read most_input_rows input (row_words * most_input_rows)))

unfoldable pub answer : List ℕ → List ℕ
answer input = outcome_text (outcome_of input)

-- The answer into lent bytes, which can be refused with 4 alone.
abbrev pub answer_why : List ℕ → List ℕ → Judged
answer_why input output = text_why (Ok tt) (answer input) output

abbrev pub answered : List ℕ → List ℕ → Result ℕ Refusal
answered input output = text_written (Ok tt) (answer input) output

-- the lent bytes afterwards
abbrev pub answer_out : List ℕ → List ℕ → List ℕ
answer_out input output = text_out (Ok tt) (answer input) output
