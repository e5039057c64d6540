-- What a hunt asks of a desk and of working weights in words.
use Rattle.std.specs.Prelude.{ℕ, ◌+◌, ◌*◌, ◌≤◌, List, length}
use Rattle.rules.specs.Table.{row_words}
use Rattle.rules.specs.Desk.{head_words, in_use}

-- the rows in use and their working weights lie within the words
pub record Lying (d words : List ℕ) : Type 0 where
  pub rows : head_words + row_words * in_use d ≤ length d
  pub weights : in_use d ≤ length words
