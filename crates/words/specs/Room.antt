-- What the functions of `inner` on entries ask of the lent words, in numbers.
use Rattle.std.specs.Prelude.{ℕ, ◌+◌, ◌*◌, ◌≤◌, ◌<◌, List, length}
use Rattle.rules.specs.Table.{row_words}
use Rattle.rules.specs.Desk.{head_words, capacity, standing, most_capacity, most_steps, entry_words}

-- the desk lies within the words, and has an entry left
pub record EntryLeft (d : List ℕ) : Type 0 where
  pub fits : capacity d ≤ most_capacity
  pub reach : head_words + row_words * capacity d + most_steps * entry_words ≤ length d
  pub left : standing d < most_steps

-- the desk lies within the words, and a step stands
pub record StepStands (d : List ℕ) : Type 0 where
  pub fits : capacity d ≤ most_capacity
  pub reach : head_words + row_words * capacity d + most_steps * entry_words ≤ length d
  pub some : 0 < standing d
  pub few : standing d ≤ most_steps
