-- What code asks of a desk that it reads once another has judged it: less than well formed, so that the front of a desk has it too.
use Rattle.std.specs.Prelude.{ℕ, ◌+◌, ◌*◌, ◌≤◌, List, length}
use Rattle.literals.specs.Literal.{most_variables}
use Rattle.rules.specs.Table.{row_words, most_weight}
use Rattle.rules.specs.Desk.{head_words, most_capacity, variables, in_use, weight_on}

-- The rows in use lie within the words and are no more than any desk has room for, no sum of their weights wraps, and each variable has a bit.
pub record Readable (d : List ℕ) : Type 0 where
  pub rows : head_words + row_words * in_use d ≤ length d
  pub few : in_use d ≤ most_capacity
  pub weights : weight_on d ≤ most_weight
  pub bits : variables d ≤ most_variables
