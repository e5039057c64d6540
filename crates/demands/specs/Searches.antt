-- Demand 2 of a search, by either bound: what an answer owes that says done, impossible or stopped, and when it says which. Document 02, C-16: 'In demand 2
-- "all readings" becomes those that satisfy every hard row'.
use Rattle.std.specs.Prelude.{ℕ, suc, ◌+◌, ◌^◌, ◌≤◌, ◌<◌, ◌≡◌, true, false, ◌⊎◌, ◌↔◌, length, take, Option, Some, None, Ok}
use mathlib.Core.List.{List, ◌∷◌, ◌++◌, Memᴰ}
use Rattle.masks.specs.Masks.{has}
use Rattle.literals.specs.Lits.{is_empty}
use Rattle.rules.specs.declared.Part.{Part}
use Rattle.rules.specs.declared.Status.{Status}
use Rattle.rules.specs.declared.Choice.{Choice}
use Rattle.rules.specs.declared.Best.{Best}
use Rattle.rules.specs.declared.Found.{Found}
use Rattle.rules.specs.Table.{is_hard}
use Rattle.rules.specs.Desk.{variables, in_use, decided, row_on, weight_on, decisions, satisfied, remnant, desk_weighs, hard_hold_on, keeps}
use Rattle.rules.specs.Choice.{bound_by}
use Rattle.rules.specs.Walk.{undecided, at_start, price_of, tried_first, searched}
use Rattle.walk_laws.specs.Leaves.{leaves, met}
use Rattle.walk_laws.specs.Order.{Earlier}
use Rattle.search_laws.specs.Chief.{NoneHolds}

-- "the first, true before false": at the lowest variable where two readings differ, the one before has it true
pub record TrueFirst (one other : ℕ) : Type 0 where
  pub place : ℕ
  pub agree : (v : ℕ) → v < place → has one v ≡ has other v
  pub is_true : has one place ≡ true
  pub is_false : has other place ≡ false

-- "the smallest weight of unsatisfied clauses on the desk, conceded sum included, over all readings that keep the standing decisions, and of those the first":
-- over all that satisfy every hard row too
pub record Finished (d : List ℕ) (f : Found) : Type 0 where
  pub weight : ℕ
  pub reading : ℕ
  pub answers : f.best ≡ Some (record { weight = weight; reading = reading })
  pub kept : keeps d reading ≡ true
  pub held : hard_hold_on d reading ≡ true
  pub weighed : desk_weighs d reading ≡ weight
  pub least : (other : ℕ) → keeps d other ≡ true → hard_hold_on d other ≡ true → weight ≤ desk_weighs d other
  pub first : (other : ℕ) → keeps d other ≡ true → hard_hold_on d other ≡ true → desk_weighs d other ≡ weight → (other ≡ reading) ⊎ TrueFirst reading other

-- "A finished search with no reading answers `status=impossible`, weight and reading none": each that keeps the standing decisions breaks a hard row
pub record NoReading (d : List ℕ) (f : Found) : Type 0 where
  pub answers : f.best ≡ None
  pub none_holds : (other : ℕ) → keeps d other ≡ true → hard_hold_on d other ≡ false

-- a reading that keeps the standing decisions and satisfies every hard row
pub record SomeHolds (d : List ℕ) : Type 0 where
  pub reading : ℕ
  pub kept : keeps d reading ≡ true
  pub held : hard_hold_on d reading ≡ true

-- a search that is not stopped is done exactly where there is such a reading, and impossible exactly where there is none
pub record Ended (d : List ℕ) (f : Found) : Type 0 where
  pub done_when : (f.status ≡ Status.Done) ↔ SomeHolds d
  pub impossible_when : (f.status ≡ Status.Impossible) ↔ NoneHolds d

-- document 02, C-16: "an unsatisfied hard row has an empty remnant"
pub record Dead (d : List ℕ) (p : Part) : Type 0 where
  pub row : ℕ
  pub used : row < in_use d
  pub hard : is_hard (row_on d row) ≡ true
  pub unsatisfied : satisfied p (row_on d row).lits ≡ false
  pub empty : is_empty (remnant p (row_on d row).lits) ≡ true

-- "If its bound is at least best, it is cut"; "The walk cuts a node where an unsatisfied hard row has an empty remnant". The walk goes by the price of a
-- node, which is at least best just there, for any best up to the one that it starts with.
abbrev pub CutWhere : List ℕ → Choice → Type 0
CutWhere d choice = (p : Part) (best : ℕ) → best ≤ weight_on d + 1 → (best ≤ price_of choice d p) ↔ ((best ≤ bound_by choice d p) ⊎ Dead d p)

-- the full readings that the walk met by a count of nodes, visited and not cut, in its order
abbrev pub met_by : List ℕ → Choice → ℕ → List Part
met_by d choice budget = met (price_of choice d) tried_first budget (undecided (variables d) (decided d)) (decisions d) (at_start d)

-- the full readings at the leaves of the walk, in its order, whether the walk comes to them or cuts them
abbrev pub readings_of : List ℕ → List Part
readings_of d = leaves tried_first (undecided (variables d) (decided d)) (decisions d)

-- they are all the readings that keep the standing decisions, in order, true before false, and so each once
pub record InOrder (d : List ℕ) : Type 0 where
  pub kept : (q : Part) → Memᴰ q (readings_of d) → keeps d q.truths ≡ true
  pub all : (full : ℕ) → keeps d full ≡ true → (q : Part) × Memᴰ q (readings_of d) × (q.truths ≡ full)
  pub order : (q r : Part) → Earlier (readings_of d) q r → TrueFirst q.truths r.truths

-- the best of some readings: none where each breaks a hard row, else one that satisfies every hard row and, of those that do so, weighs less than each
-- before it and no more than each behind it
pub data BestOf (d : List ℕ) (readings : List Part) : Option Best → Type 0 where
  nothing : ((q : Part) → Memᴰ q readings → hard_hold_on d q.truths ≡ false) → BestOf d readings None
  one : (front : List Part) (best : Part) (rest : List Part) → readings ≡ front ++ (best ∷ rest) → keeps d best.truths ≡ true
      → hard_hold_on d best.truths ≡ true
      → ((q : Part) → Memᴰ q front → hard_hold_on d q.truths ≡ true → desk_weighs d best.truths < desk_weighs d q.truths)
      → ((q : Part) → Memᴰ q rest → hard_hold_on d q.truths ≡ true → desk_weighs d best.truths ≤ desk_weighs d q.truths)
      → BestOf d readings (Some (record { weight = desk_weighs d best.truths; reading = best.truths }))

-- "the best reading that document 01's walk met by that count", or none if it met none, each of which satisfies every hard row; and the best of all the
-- first n readings in the walk's order, those in front of the node that was due, whether the walk met them or cut them unseen. Some are left.
pub record Stopped (d : List ℕ) (choice : Choice) (budget : ℕ) (f : Found) : Type 0 where
  pub count : f.nodes ≡ budget
  pub of_those_met : BestOf d (met_by d choice budget) f.best
  pub met_hold : (q : Part) → Memᴰ q (met_by d choice budget) → hard_hold_on d q.truths ≡ true
  pub n : ℕ
  pub some_left : n < length (readings_of d)
  pub best : BestOf d (take n (readings_of d)) f.best

-- "A node is entered only while the count is below the budget; if one was due and couldn't be, the search is stopped, else done", or impossible.
-- That a node was due is seen by searching the same desk by the same bound with a larger budget, g: it is entered then.
pub record StopRule (d : List ℕ) (choice : Choice) (budget : ℕ) (f : Found) : Type 0 where
  pub within : f.nodes ≤ budget
  pub stopped_when : (more : ℕ) (g : Found) → budget < more → searched d choice more ≡ Ok g → (f.status ≡ Status.Stopped) ↔ (budget < g.nodes)
  pub done_when : (more : ℕ) (g : Found) → budget < more → searched d choice more ≡ Ok g
      → (f.status ≡ Status.Done) ↔ ((g.nodes ≤ budget) × SomeHolds d)
  pub impossible_when : (more : ℕ) (g : Found) → budget < more → searched d choice more ≡ Ok g
      → (f.status ≡ Status.Impossible) ↔ ((g.nodes ≤ budget) × NoneHolds d)
  -- a search that is not stopped is the same with any larger budget
  pub same : (more : ℕ) (g : Found) → budget ≤ more → searched d choice more ≡ Ok g → (f.status ≡ Status.Stopped → ⊥) → g ≡ f
  -- with u variables undecided there are fewer than 2 ^ (u + 1) nodes, so that with such a budget it is not stopped
  pub few : f.nodes < 2 ^ suc (length (undecided (variables d) (decided d)))
