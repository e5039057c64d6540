-- The laws of the walk as laws of a search's answer, by either bound. An answer that is found, or a bound that is given, comes of a well-formed desk,
-- and its parts are read off the walk; so done means not stopped, and a reading in the answer means that one is kept. Two answers for one desk, at two
-- budgets, say when a search is stopped.
use Rattle.std.specs.Prelude.{Some, None, Ok}
use Prim.Native.Nat.{ℕ, suc, ◌^◌, ◌≤◌, ◌<◌}
use mathlib.Core.Path.{◌≡◌, refl, sym, ap, ◌∙◌, subst}
use mathlib.Core.List.{List}
use mathlib.Core.Bool.{Bool, true, false, not}
use mathlib.Core.Logic.Iff
use mathlib.Core.Logic.{◌↔◌, ⊎_elim}
use native.Mathlib.Omega.{arith}
use lib.ListN.{length}
use Rattle.masks.proofs.Choice.{impossible, clash, not_so, some-same}
use Rattle.rules.specs.declared.Status.{Status}
use Rattle.rules.specs.declared.Walked.{Walked}
use Rattle.rules.specs.declared.Choice.{Choice}
use Rattle.rules.specs.declared.Best.{Best}
use Rattle.rules.specs.declared.Found.{Found}
use Rattle.rules.specs.declared.Losses.{Losses}
use Rattle.rules.specs.declared.Refusal.TheVariants.{BadDesk}
use Rattle.rules.specs.Refusals.{refuse}
use Rattle.rules.specs.Desk.{variables, decided, well_formed, decisions, desk_weighs, hard_hold_on, keeps}
use Rattle.rules.specs.Bound.{desk_why}
use Rattle.rules.specs.Choice.{losses_by, bounded_as, bounded}
use Rattle.rules.specs.Walk.{undecided, price_of, tried_first, walk_in, status_of, best_of, found_by, searched_as, searched}
use Rattle.desk_laws.proofs.Formed.{formed}
use Rattle.walk_laws.specs.Hard.{comes_to}
use Rattle.walk_laws.proofs.Hard.{held}
use Rattle.walk_laws.proofs.Budgets.{search-counted, search-kept, search-same, search-nodes, search-stopped-when, search-done-when}
use Rattle.search_laws.proofs.Either.{either-price, search-right}
use Rattle.search_laws.specs.Chief.{Chief, NoneHolds}

-- ---- reading an answer

-- a bound that is given
pub bounded-well : (d : List ℕ) (choice : Choice) (l : Losses) → bounded d choice ≡ Ok l
    → (well_formed d ≡ true) × (l ≡ losses_by choice d (decisions d))
unfolding bounded desk_why
bounded-well d choice l = go (well_formed d)
  where
    go : (t : Bool) → bounded_as (refuse (not t) BadDesk (Ok tt)) (losses_by choice d (decisions d)) ≡ Ok l
        → (t ≡ true) × (l ≡ losses_by choice d (decisions d))
    go true e = (refl, cc)
    go false e = impossible (cc)

-- an answer that is found
pub found-well : (d : List ℕ) (choice : Choice) (budget : ℕ) (f : Found) → searched d choice budget ≡ Ok f
    → (well_formed d ≡ true) × (f ≡ found_by (walk_in d choice budget))
unfolding searched desk_why
found-well d choice budget f = go (well_formed d)
  where
    go : (t : Bool) → searched_as (refuse (not t) BadDesk (Ok tt)) (found_by (walk_in d choice budget)) ≡ Ok f
        → (t ≡ true) × (f ≡ found_by (walk_in d choice budget))
    go true e = (refl, cc)
    go false e = impossible (cc)

pub done-running : (t k : Bool) → status_of t k ≡ Status.Done → (t ≡ false) × (k ≡ true)
done-running true k e = impossible (cc)
done-running false true e = (refl, refl)
done-running false false e = impossible (cc)

pub impossible-running : (t k : Bool) → status_of t k ≡ Status.Impossible → (t ≡ false) × (k ≡ false)
impossible-running true k e = impossible (cc)
impossible-running false true e = impossible (cc)
impossible-running false false e = (refl, refl)

pub stopped-halted : (t k : Bool) → status_of t k ≡ Status.Stopped → t ≡ true
stopped-halted true k e = refl
stopped-halted false true e = impossible (cc)
stopped-halted false false e = impossible (cc)

-- the status tells which
status-stopped : (t k : Bool) → (status_of t k ≡ Status.Stopped) ↔ (t ≡ true)
status-stopped t k = (stopped-halted t k, λ e. rw e)

-- a search that is not stopped is finished: done or impossible
pub finished-status : (t k : Bool) → (status_of t k ≡ Status.Stopped → ⊥) ↔ (t ≡ false)
finished-status t k = (λ runs. not_so (λ e. runs (rw e)), λ e q. clash (stopped-halted t k q) e)

reading-kept : (t : Bool) (weight reading w r : ℕ) → best_of t weight reading ≡ Some (record { weight = w; reading = r })
    → (t ≡ true) × (weight ≡ w) × (reading ≡ r)
reading-kept true weight reading w r e = let same = some-same e in (refl, ap (λ (b : Best). b.weight) same, ap (λ (b : Best). b.reading) same)
reading-kept false weight reading w r e = impossible (cc)

module _ (d : List ℕ) (choice : Choice) (budget : ℕ) (f : Found) (answer : searched d choice budget ≡ Ok f) where
  well : well_formed d ≡ true
  well = (found-well d choice budget f answer).0

  is : f ≡ found_by (walk_in d choice budget)
  is = (found-well d choice budget f answer).1

  abbrev w : Walked
  w = walk_in d choice budget

  status-is : f.status ≡ status_of w.stopped w.kept
  status-is = ap (λ (x : Found). x.status) is

  -- Demand 2: an answer that says done has the chief reading and its weight.
  pub done-chief : f.status ≡ Status.Done
      → (weight : ℕ) × (reading : ℕ) × (f.best ≡ Some (record { weight = weight; reading = reading })) × Chief tried_first d reading weight
  done-chief e =
      let ends = done-running w.stopped w.kept (sym status-is ∙ e) in
      ⊎_elim
      (λ (n : (w.kept ≡ false) × NoneHolds d). absurd (clash ends.1 n.0))
      (λ (r : (w.kept ≡ true) × Chief tried_first d w.reading w.best).
      (w.best, w.reading, ap (λ (x : Found). x.best) is ∙ ap (λ (t : Bool). best_of t w.best w.reading) r.0, r.1))
      (search-right d choice budget well ends.0)

  -- one that says impossible has none, and there is none
  pub impossible-none : f.status ≡ Status.Impossible → (f.best ≡ None) × NoneHolds d
  impossible-none e =
      let ends = impossible-running w.stopped w.kept (sym status-is ∙ e) in
      ⊎_elim
      (λ (n : (w.kept ≡ false) × NoneHolds d).
      (ap (λ (x : Found). x.best) is ∙ ap (λ (t : Bool). best_of t w.best w.reading) n.0, n.1))
      (λ (r : (w.kept ≡ true) × Chief tried_first d w.reading w.best). absurd (clash r.0 ends.1))
      (search-right d choice budget well ends.0)

  -- any reading in an answer keeps the decisions, satisfies every hard row and weighs what is said
  pub reading-weighs : (weight reading : ℕ) → f.best ≡ Some (record { weight = weight; reading = reading })
      → (keeps d reading ≡ true) × (hard_hold_on d reading ≡ true) × (desk_weighs d reading ≡ weight)
  reading-weighs weight reading e =
      let k = reading-kept w.kept w.best w.reading weight reading (sym (ap (λ (x : Found). x.best) is) ∙ e) in
      let g = formed d well in
      let r = search-kept (price_of choice d) (comes_to d) tried_first d budget g (either-price choice d g) k.0 in
      let h = held d w.reading (omega (arith, r.1, r.2, g.light)) in (
        subst (λ (x : ℕ). keeps d x ≡ true) k.2 r.0,
        subst (λ (x : ℕ). hard_hold_on d x ≡ true) k.2 h.0,
        sym (ap (desk_weighs d) k.2) ∙ h.1 ∙ r.1 ∙ k.1,
      )

  -- the count is never above the budget, and is the budget where the search is stopped
  pub nodes-most : f.nodes ≤ budget
  nodes-most = omega (arith, ap (λ (x : Found). x.nodes) is, (search-counted (price_of choice d) tried_first d budget).within)

  pub stopped-nodes : f.status ≡ Status.Stopped → f.nodes ≡ budget
  stopped-nodes e =
      ap (λ (x : Found). x.nodes) is
      ∙ (search-counted (price_of choice d) tried_first d budget).at_stop (stopped-halted w.stopped w.kept (sym status-is ∙ e))

  -- the count is below 2 to the power u + 1, with u undecided variables
  pub nodes-below : f.nodes < 2 ^ suc (length (undecided (variables d) (decided d)))
  nodes-below = subst (λ (x : Found). x.nodes < 2 ^ suc (length (undecided (variables d) (decided d)))) (sym is)
      (search-nodes (price_of choice d) tried_first d budget)

  -- the same desk, searched with a larger budget
  module _ (more : ℕ) (g : Found) (again : searched d choice more ≡ Ok g) where
    then : g ≡ found_by (walk_in d choice more)
    then = (found-well d choice more g again).1

    -- stopped exactly when a node was due at the budget, which the larger one visits; done exactly when none was
    pub stopped-when : budget < more → (f.status ≡ Status.Stopped) ↔ (budget < g.nodes)
    stopped-when larger =
        subst (λ (x : Found). (f.status ≡ Status.Stopped) ↔ (budget < x.nodes)) (sym then)
        (subst (λ (x : Found). (x.status ≡ Status.Stopped) ↔ (budget < (walk_in d choice more).nodes)) (sym is)
        (Iff.trans (status-stopped w.stopped w.kept) (search-stopped-when (price_of choice d) tried_first d budget more larger)))

    pub finished-when : budget < more → (f.status ≡ Status.Stopped → ⊥) ↔ (g.nodes ≤ budget)
    finished-when larger =
        subst (λ (x : Found). (f.status ≡ Status.Stopped → ⊥) ↔ (x.nodes ≤ budget)) (sym then)
        (subst (λ (x : Found). (x.status ≡ Status.Stopped → ⊥) ↔ ((walk_in d choice more).nodes ≤ budget)) (sym is)
        (Iff.trans (finished-status w.stopped w.kept) (search-done-when (price_of choice d) tried_first d budget more larger)))

    -- a search that is finished, done or impossible, answers the same with a larger budget
    pub finished-same : budget ≤ more → (f.status ≡ Status.Stopped → ⊥) → g ≡ f
    finished-same larger runs =
        let running : w.stopped ≡ false = (finished-status w.stopped w.kept).0 (λ q. runs (status-is ∙ q)) in
        then ∙ ap found_by (search-same (price_of choice d) tried_first d budget more larger running) ∙ sym is
