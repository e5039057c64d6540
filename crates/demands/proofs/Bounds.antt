-- The two bounds of a desk, and two searches by them, side by side: read off the answers, and then laws of search_laws.
use Rattle.std.specs.Prelude.{Ok}
use Prim.Native.Nat.{ℕ, ◌≤◌}
use mathlib.Core.Path.{◌≡◌, sym, ap, ◌∙◌}
use mathlib.Core.List.{List}
use mathlib.Core.Bool.{Bool, false}
use native.Mathlib.Omega.{arith}
use Rattle.rules.specs.declared.Choice.{Choice}
use Rattle.rules.specs.declared.Losses.{Losses}
use Rattle.rules.specs.declared.Status.{Status}
use Rattle.rules.specs.declared.Found.{Found}
use Rattle.rules.specs.Desk.{decisions}
use Rattle.rules.specs.Bound.{total}
use Rattle.rules.specs.Choice.{bounded}
use Rattle.rules.specs.Walk.{tried_first, walk_in, status_of, best_of, searched}
use Rattle.desk_laws.proofs.Formed.{formed}
use Rattle.walk_laws.specs.Scan.{Chosen, chosen}
use Rattle.walk_laws.proofs.Done.{root}
use Rattle.group_laws.proofs.Stronger.{groups-no-less}
use Rattle.search_laws.proofs.Either.{either-total, either_same, groups-fewer}
use Rattle.search_laws.proofs.Answers.{bounded-well, found-well, finished-status}
use Rattle.demands.specs.Bounds.{BoundsCompared}

never-below : (d : List ℕ) (units groups : Losses) → bounded d Choice.Units ≡ Ok units → bounded d Choice.Groups ≡ Ok groups
    → total units ≤ total groups
never-below d units groups u g =
    let f = formed d (bounded-well d Choice.Units units u).0 in
    omega (
      arith,
      ap total (bounded-well d Choice.Units units u).1 ∙ either-total Choice.Units d (decisions d),
      ap total (bounded-well d Choice.Groups groups g).1 ∙ either-total Choice.Groups d (decisions d),
      groups-no-less d f (decisions d) (root d f).nested,
    )

-- an answer that does not say stopped is of a walk that is not
not_stopped : (d : List ℕ) (choice : Choice) (budget : ℕ) (f : Found) → searched d choice budget ≡ Ok f → (f.status ≡ Status.Stopped → ⊥)
    → (walk_in d choice budget).stopped ≡ false
not_stopped d choice budget f answer runs =
    let is = (found-well d choice budget f answer).1 in
    (finished-status (walk_in d choice budget).stopped (walk_in d choice budget).kept).0 (λ q. runs (ap (λ (x : Found). x.status) is ∙ q))

no-more-nodes : (d : List ℕ) (budget : ℕ) (units groups : Found) → searched d Choice.Units budget ≡ Ok units
    → searched d Choice.Groups budget ≡ Ok groups → (units.status ≡ Status.Stopped → ⊥)
    → (groups.status ≡ units.status) × (groups.nodes ≤ units.nodes)
unfolding chosen
no-more-nodes d budget units groups u g runs =
    let a = found-well d Choice.Units budget units u in
    let b = found-well d Choice.Groups budget groups g in
    let running = not_stopped d Choice.Units budget units u runs in
    let fewer = groups-fewer d tried_first budget a.0 running in
    let same = either_same d Choice.Groups Choice.Units budget budget a.0 fewer.0 running in (
      ap (λ (x : Found). x.status) b.1
          ∙ ap (λ (t : Bool). status_of t (walk_in d Choice.Groups budget).kept) fewer.0
          ∙ ap (λ (c : Chosen). status_of false c.kept) same
          ∙ sym (ap (λ (x : Found). x.status) a.1 ∙ ap (λ (t : Bool). status_of t (walk_in d Choice.Units budget).kept) running),
      omega (arith, ap (λ (x : Found). x.nodes) a.1, ap (λ (x : Found). x.nodes) b.1, fewer.1),
    )

same-reading : (d : List ℕ) (one other : Choice) (budget more : ℕ) (f g : Found) → searched d one budget ≡ Ok f
    → searched d other more ≡ Ok g → (f.status ≡ Status.Stopped → ⊥) → (g.status ≡ Status.Stopped → ⊥)
    → (f.status ≡ g.status) × (f.best ≡ g.best)
unfolding chosen
same-reading d one other budget more f g a b runs runs' =
    let w = found-well d one budget f a in
    let v = found-well d other more g b in
    let here = not_stopped d one budget f a runs in
    let there = not_stopped d other more g b runs' in
    let same = either_same d one other budget more w.0 here there in (
      ap (λ (x : Found). x.status) w.1
          ∙ ap (λ (t : Bool). status_of t (walk_in d one budget).kept) here
          ∙ ap (λ (c : Chosen). status_of false c.kept) same
          ∙ sym (ap (λ (x : Found). x.status) v.1 ∙ ap (λ (t : Bool). status_of t (walk_in d other more).kept) there),
      ap (λ (x : Found). x.best) w.1
          ∙ ap (λ (c : Chosen). best_of c.kept c.best c.reading) same
          ∙ sym (ap (λ (x : Found). x.best) v.1),
    )

pub bounds-compared : BoundsCompared
bounds-compared = record { never_below = never-below; no_more_nodes = no-more-nodes; same_reading = same-reading }
