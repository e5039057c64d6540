-- Document 02, C-16: 'In demand 2 "all readings" becomes those that satisfy every hard row'.
use Rattle.std.specs.Prelude.{ℕ, ◌≤◌, ◌≡◌, ◌⊎◌, List, Bool, true, false}
use Rattle.rules.specs.Desk.{keeps, desk_weighs, hard_hold_on}
use Rattle.walk_laws.specs.Order.{Before}

-- of all readings that keep the decisions and satisfy every hard row, this one is the least and the first
pub record Chief (first : ℕ → Bool) (d : List ℕ) (reading best : ℕ) : Type 0 where
  pub keeps_all : keeps d reading ≡ true
  pub holds_all : hard_hold_on d reading ≡ true
  pub weighs : desk_weighs d reading ≡ best
  pub least : (other : ℕ) → keeps d other ≡ true → hard_hold_on d other ≡ true → best ≤ desk_weighs d other
  pub first_of : (other : ℕ) → keeps d other ≡ true → hard_hold_on d other ≡ true → desk_weighs d other ≡ best → (other ≡ reading) ⊎ Before first reading other

-- there is none
abbrev pub NoneHolds : List ℕ → Type 0
NoneHolds d = (reading : ℕ) → keeps d reading ≡ true → hard_hold_on d reading ≡ false
