-- What a finished search owes (demand 2): a reading that keeps the decisions, of the least weight, and of those the first.
use Rattle.std.specs.Prelude.{ℕ, ◌≤◌, ◌<◌, ◌≡◌, List, Bool, true, false, ◌⊎◌}
use Rattle.rules.specs.declared.Walked.{Walked}
use Rattle.rules.specs.Desk.{keeps, weight_on}
use Rattle.walk_laws.specs.Order.{Before}

-- Of all readings that keep the decisions of d, by any weight and for any value that comes first, this one is the least and the first.
pub record Foremost (weight : ℕ → ℕ) (first : ℕ → Bool) (d : List ℕ) (reading best : ℕ) : Type 0 where
  pub keeps_all : keeps d reading ≡ true
  pub weighs : weight reading ≡ best
  pub least : (other : ℕ) → keeps d other ≡ true → best ≤ weight other
  pub first_of : (other : ℕ) → keeps d other ≡ true → weight other ≡ best → (other ≡ reading) ⊎ Before first reading other

-- a walk that kept it
pub record Right (weight : ℕ → ℕ) (first : ℕ → Bool) (d : List ℕ) (w : Walked) : Type 0 where
  pub kept : w.kept ≡ true
  pub within : w.best ≤ weight_on d
  pub foremost : Foremost weight first d w.reading w.best

-- a walk that kept none, since none is below the best that it starts with
pub record NoneBelow (weight : ℕ → ℕ) (d : List ℕ) (w : Walked) : Type 0 where
  pub none : w.kept ≡ false
  pub above : (reading : ℕ) → keeps d reading ≡ true → weight_on d < weight reading
