-- What an input comes to, by case: too long, not read, read.
use Rattle.std.specs.Prelude.{Result, Ok, Err}
use Prim.Native.Nat.{ℕ, ◌*◌, ◌<◌, ◌≤◌}
use mathlib.Core.Path.{◌≡◌, ap}
use mathlib.Core.List.{List}
use borrow.Author.Tests.{lt-ltb, le-ltb}
use lib.ListN.{length}
use Rattle.rules.specs.declared.Refusal.{Refusal}
use Rattle.rules.specs.declared.Refusal.TheVariants.{InputTooLong}
use Rattle.rules.specs.declared.Outcome.{Outcome}
use Rattle.rules.specs.Table.{row_words}
use Rattle.rules.specs.WcnfReader.{wcnf_words, wcnf_read, file_says}
use Rattle.rules.specs.Walk.{most_budget}
use Rattle.rules.specs.Program.{most_input, most_input_rows, table_outcome}
use Rattle.rules.specs.WcnfProgram.{wcnf_outcome_text, wcnf_outcome_of, wcnf_answer}

pub too_long : (input : List ℕ) → most_input < length input → Err InputTooLong ≡ wcnf_outcome_of input
unfolding wcnf_outcome_of
too_long input h = rw (lt-ltb most_input (length input) h)

module _ (input : List ℕ) (short : length input ≤ most_input) where
  pub not-read : (room : ℕ) (r : Refusal) → room ≡ row_words * most_input_rows → wcnf_read most_input_rows input room ≡ Err r
      → Err r ≡ wcnf_outcome_of input
  unfolding wcnf_outcome_of
  not-read room r e h =
      let g : wcnf_read most_input_rows input (row_words * most_input_rows) ≡ Err r = rw e at h in
      rw (le-ltb most_input (length input) short, g)

  pub read : (room n m : ℕ) (words : List ℕ) → room ≡ row_words * most_input_rows
      → wcnf_read most_input_rows input room ≡ Ok (file_says n m) → words ≡ wcnf_words input
      → table_outcome n most_budget m words ≡ wcnf_outcome_of input
  unfolding wcnf_outcome_of
  read room n m words e h w =
      let g : wcnf_read most_input_rows input (row_words * most_input_rows) ≡ Ok (file_says n m) = rw e at h in
      rw (le-ltb most_input (length input) short, g, w)

pub lines_are : (input : List ℕ) (o : Result Outcome Refusal) → o ≡ wcnf_outcome_of input → wcnf_outcome_text o ≡ wcnf_answer input
unfolding wcnf_answer
lines_are input o e = ap wcnf_outcome_text e
