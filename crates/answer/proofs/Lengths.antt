-- No answer is longer than the lines of a search can be, so that a buffer of that size never refuses one.
use Rattle.std.specs.Prelude.{Result, Ok, Err}
use Prim.Native.Nat.{ℕ, ◌*◌, ◌≤◌}
use mathlib.Core.Path.{◌≡◌, refl, subst}
use mathlib.Core.Logic.{⊎_elim}
use mathlib.Core.List.{List}
use native.Mathlib.Omega.{arith}
use lib.ListN.{length}
use Rattle.masks.proofs.Choice.{lt-or-le}
use Rattle.rules.specs.declared.TextRead.{TextRead}
use Rattle.rules.specs.Table.{row_words}
use Rattle.rules.specs.Reader.{read_words, text_read}
use Rattle.rules.specs.Program.{most_input, most_input_rows, outcome_of, answer, answer_why}
use Rattle.text_laws.proofs.Found.{read-fine}
use Rattle.text_laws.proofs.LentBytes.{text-fine}
use Rattle.readings.specs.Line.{Counted}
use Rattle.outcomes.proofs.Counting.{table_counted}
use Rattle.answer_lines.specs.Lengths.{most_answer}
use Rattle.answer_lines.proofs.Lengths.{outcome-length}
use Rattle.answer.proofs.Answering.{too_long, not-read, read}
use Rattle.rules.specs.declared.Refusal.{Refusal}

-- what is searched was read, and so has few variables
pub outcome-counted : (input : List ℕ) → Counted (outcome_of input)
outcome-counted input =
    ⊎_elim
    (λ h. subst Counted (too_long input h) tt)
    (λ short. by-text short (text_read most_input_rows input (row_words * most_input_rows)) refl)
    (lt-or-le most_input (length input))
  where
    by-text : length input ≤ most_input → (t : Result TextRead Refusal) → text_read most_input_rows input (row_words * most_input_rows) ≡ t → Counted (outcome_of input)
    by-text short (Ok said) e =
        subst Counted (read input short (row_words * most_input_rows) said.variables said.budget said.rows (read_words input) refl e refl)
        (table_counted said.variables said.budget said.rows (read_words input) (read-fine most_input_rows input (row_words * most_input_rows) said.variables said.budget said.rows e).variables)
    by-text short (Err r) e = subst Counted (not-read input short (row_words * most_input_rows) r refl e) tt

pub answer-length : (input : List ℕ) → length (answer input) ≤ most_answer
unfolding answer
answer-length input = outcome-length (outcome_of input) (outcome-counted input)

-- so bytes enough for any answer get it
pub never-refused : (input output : List ℕ) → most_answer ≤ length output → answer_why input output ≡ Ok tt
never-refused input output enough = text-fine (Ok tt) (answer input) output refl (omega (arith, answer-length input, enough))
