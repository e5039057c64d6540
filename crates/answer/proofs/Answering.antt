-- What an input comes to, by case: too long, not read, read.
use Rattle.std.specs.Prelude.{Result, Ok, Err}
use Prim.Native.Nat.{ℕ, ◌*◌, ◌<◌, ◌≤◌}
use mathlib.Core.Path.{◌≡◌, ap}
use mathlib.Core.List.{List}
use borrow.Author.Tests.{lt-ltb, le-ltb}
use lib.ListN.{length}
use Rattle.rules.specs.declared.Refusal.{Refusal}
use Rattle.rules.specs.declared.Refusal.TheVariants.{InputTooLong}
use Rattle.rules.specs.declared.Outcome.{Outcome}
use Rattle.rules.specs.Table.{row_words}
use Rattle.rules.specs.Reader.{read_words, text_read, text_says}
use Rattle.rules.specs.Program.{most_input, most_input_rows, table_outcome, outcome_text, outcome_of, answer}

pub too_long : (input : List ℕ) → most_input < length input → Err InputTooLong ≡ outcome_of input
unfolding outcome_of
too_long input h = rw (lt-ltb most_input (length input) h)

module _ (input : List ℕ) (short : length input ≤ most_input) where
  pub not-read : (room : ℕ) (r : Refusal) → room ≡ row_words * most_input_rows → text_read most_input_rows input room ≡ Err r
      → Err r ≡ outcome_of input
  unfolding outcome_of
  not-read room r e h =
      let g : text_read most_input_rows input (row_words * most_input_rows) ≡ Err r = rw e at h in
      rw (le-ltb most_input (length input) short, g)

  pub read : (room n b m : ℕ) (words : List ℕ) → room ≡ row_words * most_input_rows
      → text_read most_input_rows input room ≡ Ok (text_says n b m) → words ≡ read_words input
      → table_outcome n b m words ≡ outcome_of input
  unfolding outcome_of
  read room n b m words e h w =
      let g : text_read most_input_rows input (row_words * most_input_rows) ≡ Ok (text_says n b m) = rw e at h in
      rw (le-ltb most_input (length input) short, g, w)

pub lines_are : (input : List ℕ) (o : Result Outcome Refusal) → o ≡ outcome_of input → outcome_text o ≡ answer input
unfolding answer
lines_are input o e = ap outcome_text e
