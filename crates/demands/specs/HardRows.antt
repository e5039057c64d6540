-- Document 02, C-16, of demand 3: "the hard rows broken are also those broken in the load". A table was loaded, and `after` is the desk after a run.
use Rattle.std.specs.Prelude.{ℕ, ◌≤◌, ◌<◌, ◌≡◌, true, List}
use Rattle.rules.specs.Table.{row_of, row_count, is_hard, breaks, hard_hold}
use Rattle.rules.specs.Desk.{in_use, row_on, hard_hold_on}

pub record HardKept (table after : List ℕ) : Type 0 where
  -- the rows of the load are in use, and each hard one is the row that it was, word for word
  pub in_use_still : row_count table ≤ in_use after
  pub rows : (i : ℕ) → i < row_count table → is_hard (row_of table i) ≡ true → row_on after i ≡ row_of table i
  -- no other row is hard
  pub no_other : (i : ℕ) → i < in_use after → is_hard (row_on after i) ≡ true → (i < row_count table) × (is_hard (row_of table i) ≡ true)
  -- so that of every full reading, row by row, those broken on the desk are those broken in the load
  pub broken : (full i : ℕ) → i < row_count table → breaks (row_on after i) full ≡ breaks (row_of table i) full
  -- and every hard row holds on the desk exactly where every one holds in the load
  pub hold : (full : ℕ) → hard_hold_on after full ≡ hard_hold table full
