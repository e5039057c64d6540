-- Document 02, C-12: "Say where the bound comes from." What each of the three numbers is that the bound of a desk answers, by either bound (C-14). The
-- first two are certain: every reading that keeps the standing decisions gives up that much. The third is what may be seen coming.
use Rattle.std.specs.Prelude.{ℕ, ◌≤◌, ◌<◌, ◌≡◌, Bool, true, false, cond, List, Ok}
use Rattle.masks.specs.Sums.{sum}
use Rattle.rules.specs.declared.Choice.{Choice}
use Rattle.rules.specs.declared.Losses.{Losses}
use Rattle.rules.specs.declared.Part.{Part}
use Rattle.rules.specs.Table.{holds}
use Rattle.rules.specs.Desk.{in_use, conceded, row_on, decisions, desk_weighs, keeps}
use Rattle.rules.specs.Bound.{foreseen, certain, total}
use Rattle.rules.specs.Groups.{groups_cost}
use Rattle.rules.specs.Choice.{bound_by, bounded}

-- no reading that keeps the decisions satisfies the row
abbrev pub GivenUp : List ℕ → ℕ → Type 0
GivenUp d i = (full : ℕ) → keeps d full ≡ true → holds (row_on d i).lits full ≡ false

-- one that keeps them does
pub record Satisfiable (d : List ℕ) (i : ℕ) : Type 0 where
  pub full : ℕ
  pub kept : keeps d full ≡ true
  pub held : holds (row_on d i).lits full ≡ true

-- the weights of the rows that no such reading satisfies, and of no others
pub record Beyond (d : List ℕ) (weight : ℕ) : Type 0 where
  pub gone : ℕ → Bool
  pub rows : weight ≡ sum (in_use d) (λ i. cond (gone i) (row_on d i).weight 0)
  pub each : (i : ℕ) → i < in_use d → gone i ≡ true → GivenUp d i
  pub others : (i : ℕ) → i < in_use d → gone i ≡ false → Satisfiable d i

-- "the foreseen part": document 01's sum over the undecided variables, or what the groups cost
abbrev pub foreseen_by : Choice → List ℕ → Part → ℕ
foreseen_by Choice.Units = foreseen
foreseen_by Choice.Groups = groups_cost

pub record Explained (d : List ℕ) (choice : Choice) (l : Losses) : Type 0 where
  pub conceded : l.conceded ≡ conceded d
  -- "lost beyond conceded"
  pub lost : Beyond d l.lost
  pub foreseen : l.foreseen ≡ foreseen_by choice d (decisions d)
  -- "Their sum is the bound of document 01", or the bound by groups.
  pub adds : total l ≡ bound_by choice d (decisions d)
  pub sure : (full : ℕ) → keeps d full ≡ true → certain l ≤ desk_weighs d full
  pub least : (full : ℕ) → keeps d full ≡ true → total l ≤ desk_weighs d full

-- of every desk for which there is a bound
abbrev pub LossesExplained : Type 0
LossesExplained = (d : List ℕ) (choice : Choice) (l : Losses) → bounded d choice ≡ Ok l → Explained d choice l
