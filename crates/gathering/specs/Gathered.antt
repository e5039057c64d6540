-- A group as code keeps it: its rows stand in words, in the order in which they joined.
use Rattle.std.specs.Prelude.{ℕ, ◌+◌, ◌*◌, ◌≤◌, ◌<◌, List, ◌≡◌, length, get_or}
use Rattle.literals.specs.Literal.{most_variables}
use Rattle.rules.specs.Table.{row_words}
use Rattle.rules.specs.Desk.{head_words, in_use}
use Rattle.rules.specs.Groups.{Group, taken}
use Rattle.group_laws.specs.Trails.{rows_of, weights_in}
use Rattle.looking.specs.declared.Trail.{Trail}
use Rattle.gathering.specs.declared.Joined.{Joined}

-- the group with these rows
abbrev pub group_in : Joined → List ℕ → Group
group_in g rs = record { needed = g.needed; cost = g.cost; rows = rows_of (λ k. get_or rs k 0) g.size }

-- a group has at most a row for each entry, and the conflict row
abbrev pub group_words : ℕ
group_words = most_variables + 1

-- row i and its working weight lie within the words, and one more row can be stored
pub record Due (d words : List ℕ) (i : ℕ) (g : Joined) (group : List ℕ) : Type 0 where
  pub row : head_words + row_words * (i + 1) ≤ length d
  pub weight : i < length words
  pub room : g.size < length group

-- The conflict, and each entry's row, are rows in use.
pub record Traced (d : List ℕ) (t : Trail) (rs : List ℕ) : Type 0 where
  pub conflict : t.conflict < in_use d
  pub entries : t.entries ≤ most_variables
  pub each : (k : ℕ) → k < t.entries → get_or rs k 0 < in_use d

-- the rows of a group have a working weight
pub record Standing (size : ℕ) (group words : List ℕ) : Type 0 where
  pub stored : size ≤ length group
  pub each : (k : ℕ) → k < size → get_or group k 0 < length words

-- the cost is taken from the first n rows
pub record Taken (cost n : ℕ) (group before after : List ℕ) : Type 0 where
  pub words : length after ≡ length before
  pub each : (i : ℕ) → get_or after i 0 ≡ taken cost (rows_of (λ k. get_or group k 0) n) (weights_in before) i
