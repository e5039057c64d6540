-- Document 02, C-16: "Rewritings refuse hard rows with 14; new rows are soft." What no step does to hard rows.
use Rattle.std.specs.Prelude.{ℕ, ◌≤◌, ◌<◌, ◌≡◌, true, false, List}
use Rattle.rules.specs.Table.{is_hard}
use Rattle.rules.specs.Desk.{in_use, row_on}

-- the rows in use on d are in use on e, with their literals and marks, the hard ones with every word; those behind them are soft
pub record HardStay (d e : List ℕ) : Type 0 where
  pub more : in_use d ≤ in_use e
  pub lits : (i : ℕ) → i < in_use d → (row_on e i).lits ≡ (row_on d i).lits
  pub marks : (i : ℕ) → i < in_use d → (row_on e i).mark ≡ (row_on d i).mark
  pub whole : (i : ℕ) → i < in_use d → is_hard (row_on d i) ≡ true → row_on e i ≡ row_on d i
  pub soft : (i : ℕ) → in_use d ≤ i → i < in_use e → is_hard (row_on e i) ≡ false
