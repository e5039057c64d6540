-- On a desk: as many hunts as there are rows in use suffice and as many entries as there are variables; and fewer hunts foresee no more, so that
-- a walk may leave a hunt out once lost and the costs so far have reached its best.
use Prim.Native.Nat.{ℕ, ◌+◌, ◌^◌, ◌≤◌, ◌<◌}
use mathlib.Core.Path.{◌≡◌, ap}
use mathlib.Core.List.{List}
use mathlib.Core.Bool.{false}
use native.Mathlib.Omega.{arith}
use Rattle.literals.specs.declared.Lits.{Lits}
use Rattle.rules.specs.declared.Part.{Part}
use Rattle.rules.specs.Desk.{variables, in_use, row_on}
use Rattle.rules.specs.Bound.{lost}
use Rattle.rules.specs.Groups.{Weights, Tally, hunted, working_weight, hunts_on, groups_cost, groups_bound}
use Rattle.desk_laws.proofs.Formed.{Formed}
use Rattle.group_laws.proofs.Costs.{hunts-more}
use Rattle.group_laws.proofs.Fuel.{hunts-stay, hunts-enough, hunts-no-more, AtEnd, hunt-ends}

module _ (d : List ℕ) (p : Part) where
  abbrev lits_on : ℕ → Lits
  lits_on i = (row_on d i).lits

  -- after the hunts that are allowed the next finds nothing
  pub groups-end : (hunted lits_on (hunts_on d p (in_use d)).weights (in_use d) (variables d) p).found ≡ false
  unfolding hunts_on
  groups-end = hunts-enough lits_on (in_use d) (variables d) p (working_weight d p)

  -- and more of them cost nothing
  pub groups-enough : (m : ℕ) → in_use d ≤ m → (hunts_on d p m).costs ≡ groups_cost d p
  unfolding groups_cost hunts_on
  groups-enough m l = ap (λ (t : Tally). t.costs) (hunts-no-more lits_on (in_use d) (variables d) p (working_weight d p) m l)

  -- a hunt that finds nothing ends the bound
  pub groups-last : (k : ℕ) → k ≤ in_use d → (hunted lits_on (hunts_on d p k).weights (in_use d) (variables d) p).found ≡ false
      → groups_cost d p ≡ (hunts_on d p k).costs
  unfolding groups_cost hunts_on
  groups-last k l f = ap (λ (t : Tally). t.costs) (hunts-stay lits_on (in_use d) (variables d) p (working_weight d p) k (in_use d) f l)

  -- a hunt with any working weights comes to a conflict or to the end of its trail
  pub hunt-done : Formed d → p.decided < 2 ^ variables d → (W : Weights)
      → AtEnd (variables d) (hunted lits_on W (in_use d) (variables d) p)
  hunt-done f within W = hunt-ends lits_on (in_use d) (variables d) p W f.named f.sound within

  -- the first hunts foresee no more than all
  pub groups-so-far : (k : ℕ) → k ≤ in_use d → lost d p + (hunts_on d p k).costs ≤ groups_bound d p
  unfolding groups_bound groups_cost hunts_on
  groups-so-far k l = omega (arith, hunts-more lits_on (in_use d) (variables d) p (working_weight d p) k (in_use d) l)
