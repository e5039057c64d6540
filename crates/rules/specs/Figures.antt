-- What the code's own values are held to: the figures of document 01, each from its home beside the kind of value that it limits, and the head of a desk.
use Rattle.std.specs.Prelude.{ℕ, ◌*◌, List}
use Rattle.literals.specs.Literal.{most_variables}
use Rattle.rules.specs.declared.Desk.{Desk}
use Rattle.rules.specs.declared.Figures.{Figures}
use Rattle.rules.specs.Table.{row_words, most_rows, most_weight}
use Rattle.rules.specs.Desk.{head_words, most_capacity, most_steps, entry_words}
use Rattle.rules.specs.Desk.{variables, in_use, capacity, standing, conceded, decided, truths, loaded}
use Rattle.rules.specs.Steps.{most_kind, most_named, longest}
use Rattle.rules.specs.Walk.{most_budget}
use Rattle.rules.specs.Text.{most_digits}
use Rattle.rules.specs.Program.{most_input, most_input_rows}

unfoldable pub figures : Figures
figures =
    record {
      variables = most_variables;
      row_words = row_words;
      rows = most_rows;
      weight = most_weight;
      head = head_words;
      capacity = most_capacity;
      steps = most_steps;
      entry_words = entry_words;
      entries_words = most_steps * entry_words;
      kind = most_kind;
      named = most_named;
      longest = longest;
      digits = most_digits;
      budget = most_budget;
      input = most_input;
      input_rows = most_input_rows;
    }

unfoldable pub head_of : List ℕ → Desk
head_of d =
    record {
      variables = variables d;
      in_use = in_use d;
      capacity = capacity d;
      standing = standing d;
      conceded = conceded d;
      decided = decided d;
      truths = truths d;
      loaded = loaded d;
    }
