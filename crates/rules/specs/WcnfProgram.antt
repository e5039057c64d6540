-- Document 02, C-11: what the program for competition files answers, from input bytes to output bytes, in the lines of such an answer: `c` a comment,
-- `o` a weight, `s` the statement, `v` the values.
use Rattle.std.specs.Prelude.{ℕ, ◌*◌, List, [], ◌++◌, cond, length, ltb, Option, Some, None, Result, Ok, Err}
use Rattle.rules.specs.declared.Refusal.{Refusal}
use Rattle.rules.specs.declared.Refusal.TheVariants.{InputTooLong}
use Rattle.rules.specs.declared.Status.{Status}
use Rattle.rules.specs.declared.Best.{Best}
use Rattle.rules.specs.declared.Found.{Found}
use Rattle.rules.specs.declared.Outcome.{Outcome}
use Rattle.rules.specs.declared.WcnfRead.{WcnfRead}
use Rattle.rules.specs.Refusals.{Judged, number_of, place_of}
use Rattle.rules.specs.Table.{row_words}
use Rattle.rules.specs.Walk.{most_budget}
use Rattle.rules.specs.Text.{bytes, number_text, line, text_why, text_written, text_out}
use Rattle.rules.specs.Wcnf.{spaced_lits}
use Rattle.rules.specs.WcnfReader.{wcnf_read, wcnf_words}
use Rattle.rules.specs.Program.{most_input, most_input_rows, literals_of, table_outcome}

-- the statement: nothing is stated of a search that was stopped, nor of a refusal
abbrev pub statement_text : Status → List ℕ
statement_text Status.Done = line "s " (bytes "OPTIMUM FOUND")
statement_text Status.Stopped = line "s " (bytes "UNKNOWN")
statement_text Status.Impossible = line "s " (bytes "UNSATISFIABLE")

-- a refusal: its number and its place in a comment
unfoldable pub wcnf_refusal_text : Refusal → List ℕ
wcnf_refusal_text r = line "c refused: number " (number_text (number_of r) ++ (bytes ", place " ++ number_text (place_of r))) ++ statement_text Status.Stopped

-- of the best reading, where there is one, its weight, and a literal for each variable
abbrev pub best_weight_text : Option Best → List ℕ
best_weight_text None = []
best_weight_text (Some best) = line "o " (number_text best.weight)

abbrev pub values_text : ℕ → Option Best → List ℕ
values_text variables None = []
values_text variables (Some best) = line "v" (spaced_lits 0 variables (literals_of variables best.reading))

unfoldable pub wcnf_found_text : ℕ → Found → List ℕ
wcnf_found_text variables f =
    line "c nodes " (number_text f.nodes)
    ++ (best_weight_text f.best
    ++ (statement_text f.status
    ++ values_text variables f.best))

-- the lines of what an input came to
abbrev pub wcnf_outcome_text : Result Outcome Refusal → List ℕ
wcnf_outcome_text (Ok o) = wcnf_found_text o.variables o.found
wcnf_outcome_text (Err r) = wcnf_refusal_text r

-- A competition file has no budget: the search gets the largest.
abbrev pub wcnf_read_outcome : List ℕ → Result WcnfRead Refusal → Result Outcome Refusal
wcnf_read_outcome table (Ok said) = table_outcome said.variables most_budget said.rows table
wcnf_read_outcome table (Err r) = Err r

-- Program: 19, reader, load.
unfoldable pub wcnf_outcome_of : List ℕ → Result Outcome Refusal
wcnf_outcome_of input =
    cond (ltb most_input (length input)) (Err InputTooLong)
    (wcnf_read_outcome (wcnf_words input) (wcnf_read most_input_rows input (row_words * most_input_rows)))

unfoldable pub wcnf_answer : List ℕ → List ℕ
wcnf_answer input = wcnf_outcome_text (wcnf_outcome_of input)

-- The answer into lent bytes, which can be refused with 4 alone.
abbrev pub wcnf_answer_why : List ℕ → List ℕ → Judged
wcnf_answer_why input output = text_why (Ok tt) (wcnf_answer input) output

abbrev pub wcnf_answered : List ℕ → List ℕ → Result ℕ Refusal
wcnf_answered input output = text_written (Ok tt) (wcnf_answer input) output

-- the lent bytes afterwards
abbrev pub wcnf_answer_out : List ℕ → List ℕ → List ℕ
wcnf_answer_out input output = text_out (Ok tt) (wcnf_answer input) output
