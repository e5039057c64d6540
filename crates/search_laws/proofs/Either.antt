-- The two bounds that a caller may choose from, side by side: each is sound, so that a finished search by it is right; the three numbers of each add up
-- to it; finished searches keep the same; and the bound by groups is never below the other, so that a finished search by it takes no more nodes.
use Prim.Native.Nat.{ℕ, ◌+◌, ◌≤◌}
use mathlib.Core.Path.{◌≡◌, refl, sym, ◌∙◌}
use mathlib.Core.Logic.{◌⊎◌, inl, inr, ⊎_elim}
use mathlib.Core.List.{List}
use mathlib.Core.Bool.{Bool, true, false, cond}
use native.Mathlib.Omega.{arith}
use Rattle.rules.specs.declared.Choice.{Choice}
use Rattle.rules.specs.declared.Part.{Part}
use Rattle.rules.specs.Table.{most_weight}
use Rattle.rules.specs.Desk.{variables, decided, well_formed, decisions, desk_weighs}
use Rattle.rules.specs.Bound.{lost, bound, losses_at, certain, total, dead}
use Rattle.rules.specs.Groups.{losses_by_groups}
use Rattle.rules.specs.Choice.{bound_by, losses_by}
use Rattle.rules.specs.Walk.{undecided, at_start, walk_of, price_of, tried_first, walk_in}
use Rattle.desk_laws.proofs.Formed.{Formed, formed}
use Rattle.walk_laws.specs.Sound.{Sound, Node}
use Rattle.walk_laws.specs.Right.{NoneBelow, Right}
use Rattle.walk_laws.specs.Hard.{comes_to}
use Rattle.walk_laws.specs.Scan.{chosen}
use Rattle.walk_laws.proofs.Walks.{finished}
use Rattle.walk_laws.proofs.Done.{root, bound-sound, finished-outcome}
use Rattle.walk_laws.proofs.Hard.{price-sound}
use Rattle.walk_laws.proofs.Fewer.{Within, fewer-nodes}
use Rattle.group_laws.proofs.Bounds.{groups-sound, groups-total}
use Rattle.group_laws.proofs.Stronger.{groups-no-less}
use Rattle.search_laws.specs.Chief.{Chief, NoneHolds}
use Rattle.search_laws.proofs.Chief.{chief, none-holds}

-- ---- either bound

pub either-sound : (choice : Choice) (d : List ℕ) → Formed d → Sound (Node (variables d)) (bound_by choice d) (desk_weighs d)
either-sound Choice.Units d f = bound-sound d f
either-sound Choice.Groups d f = groups-sound d f

-- the first two numbers are what is lost, and all three the bound
pub either-certain : (choice : Choice) (d : List ℕ) (p : Part) → certain (losses_by choice d p) ≡ lost d p
unfolding losses_at losses_by_groups lost
either-certain Choice.Units d p = refl
either-certain Choice.Groups d p = refl

pub either-total : (choice : Choice) (d : List ℕ) (p : Part) → total (losses_by choice d p) ≡ bound_by choice d p
unfolding losses_at bound lost
either-total Choice.Units d p = refl
either-total Choice.Groups d p = groups-total d p

-- the price of a node by either, for what readings come to where hard rows are
pub either-price : (choice : Choice) (d : List ℕ) → Formed d → Sound (Node (variables d)) (price_of choice d) (comes_to d)
either-price choice d f = price-sound d f (bound_by choice d) (either-sound choice d f)

-- Demand 2: for every well-formed desk and every budget, by either bound, true before false: the foremost reading is kept, or every reading breaks a
-- hard row.
pub search-right : (d : List ℕ) (choice : Choice) (budget : ℕ) → well_formed d ≡ true → (walk_in d choice budget).stopped ≡ false
    → (((walk_in d choice budget).kept ≡ false) × NoneHolds d) ⊎ (((walk_in d choice budget).kept ≡ true)
    × Chief tried_first d (walk_in d choice budget).reading (walk_in d choice budget).best)
search-right d choice budget h e =
    let f = formed d h in
    ⊎_elim
    (λ (n : NoneBelow (comes_to d) d (walk_in d choice budget)). inl (n.none, none-holds d n.above))
    (λ (r : Right (comes_to d) tried_first d (walk_in d choice budget)).
    inr (r.kept, chief tried_first d (omega (arith, r.within, f.light)) r.foremost))
    (finished-outcome (price_of choice d) (comes_to d) tried_first d budget f (either-price choice d f) e)

-- prices stand as bounds do
price-no-less : (t : Bool) {x y : ℕ} → x ≤ y → cond t (most_weight + 1) x ≤ cond t (most_weight + 1) y
price-no-less true h = omega arith
price-no-less false h = h

-- ---- one beside the other

-- what is kept by searches that are done is the same
pub either_same : (d : List ℕ) (one other : Choice) (budget more : ℕ) → well_formed d ≡ true → (walk_in d one budget).stopped ≡ false
    → (walk_in d other more).stopped ≡ false → chosen (walk_in d one budget) ≡ chosen (walk_in d other more)
unfolding walk_of
either_same d one other budget more h e e' =
    let f = formed d h in
    let lefts = undecided (variables d) (decided d) in
    finished (price_of one d) tried_first budget (either-price one d f) lefts (decisions d) (at_start d) (root d f) e
    ∙ sym (finished (price_of other d) tried_first more (either-price other d f) lefts (decisions d) (at_start d) (root d f) e')

-- the bound by groups takes no more nodes
pub groups-fewer : (d : List ℕ) (first : ℕ → Bool) (budget : ℕ) → well_formed d ≡ true → (walk_of (price_of Choice.Units d) first d budget).stopped ≡ false
    → Within (walk_of (price_of Choice.Groups d) first d budget) (walk_of (price_of Choice.Units d) first d budget).nodes
unfolding walk_of at_start
groups-fewer d first budget h =
    let f = formed d h in
    fewer-nodes (price_of Choice.Groups d) (price_of Choice.Units d) first budget (either-price Choice.Groups d f) (either-price Choice.Units d f)
    (λ vs p n. price-no-less (dead d p) (groups-no-less d f p n.nested))
    (undecided (variables d) (decided d)) (decisions d) (at_start d) (at_start d) (root d f) refl refl (omega arith)
