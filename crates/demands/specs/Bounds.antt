-- Document 02, C-14: the two bounds that a caller may choose from, side by side.
use Rattle.std.specs.Prelude.{ℕ, ◌≤◌, ◌≡◌, List, Ok}
use Rattle.rules.specs.declared.Choice.{Choice}
use Rattle.rules.specs.declared.Losses.{Losses}
use Rattle.rules.specs.declared.Status.{Status}
use Rattle.rules.specs.declared.Found.{Found}
use Rattle.rules.specs.Bound.{total}
use Rattle.rules.specs.Choice.{bounded}
use Rattle.rules.specs.Walk.{searched}

pub record BoundsCompared : Type 0 where
  -- the bound by groups is never below the bound of document 01
  pub never_below : (d : List ℕ) (units groups : Losses) → bounded d Choice.Units ≡ Ok units → bounded d Choice.Groups ≡ Ok groups
      → total units ≤ total groups
  -- so that a search by groups is done, or impossible, wherever the other is, with no more nodes
  pub no_more_nodes : (d : List ℕ) (budget : ℕ) (units groups : Found) → searched d Choice.Units budget ≡ Ok units
      → searched d Choice.Groups budget ≡ Ok groups → (units.status ≡ Status.Stopped → ⊥)
      → (groups.status ≡ units.status) × (groups.nodes ≤ units.nodes)
  -- searches that are not stopped answer the same status, reading and weight, whatever the bound and the budget of each
  pub same_reading : (d : List ℕ) (one other : Choice) (budget more : ℕ) (f g : Found) → searched d one budget ≡ Ok f
      → searched d other more ≡ Ok g → (f.status ≡ Status.Stopped → ⊥) → (g.status ≡ Status.Stopped → ⊥)
      → (f.status ≡ g.status) × (f.best ≡ g.best)
