-- A search at any budget, stopped or not: the count keeps the budget, what is kept is the best of the first leaves, and of those met, and it
-- keeps the decisions and weighs what is said. It is stopped exactly when a larger budget visits more nodes. With a larger budget a search
-- that is done stays as it is, and what is kept never gets worse. The bound of document 01 takes no more nodes than lost alone.
use Prim.Native.Nat.{ℕ, suc, ◌+◌, ◌^◌, ◌≤◌, ◌<◌}
use mathlib.Core.Path.{◌≡◌, refl, sym, ap, ◌∙◌, subst}
use mathlib.Core.List.{List, Memᴰ}
use mathlib.Core.Bool.{Bool, true, false}
use mathlib.Core.Logic.{◌↔◌, ⊎_elim}
use native.Mathlib.Omega.{arith}
use lib.ListN.{length}
use Rattle.masks.proofs.Choice.{cases, clash}
use Rattle.rules.specs.declared.Part.{Part}
use Rattle.rules.specs.declared.Walked.{Walked}
use Rattle.rules.specs.Desk.{variables, decided, truths, well_formed, weight_on, decisions, keeps}
use Rattle.rules.specs.Bound.{lost, bound}
use Rattle.rules.specs.Walk.{undecided, at_start, walk_of}
use Rattle.walk_laws.specs.Scan.{Chosen, chosen, scan, Least, Reached, WithinBudget}
use Rattle.walk_laws.specs.Leaves.{leaves, met}
use Rattle.walk_laws.specs.Sound.{Sound, Node}
use Rattle.walk_laws.proofs.Scans.{scan-outcome}
use Rattle.walk_laws.proofs.Walks.{leaf-below}
use Rattle.walk_laws.proofs.Counting.{counted, at-most, same-with-more}
use Rattle.walk_laws.proofs.Reaching.{reached, due-entered}
use Rattle.walk_laws.proofs.Fewer.{Within, fewer-nodes}
use Rattle.walk_laws.proofs.Meeting.{never-worse, kept-with-more, member-of-sublist, met-leaves, walk-met-weights}
use Rattle.desk_laws.proofs.Formed.{Formed, formed}
use Rattle.walk_laws.proofs.Done.{root, leaf-keeps, bound-sound, lost-sound}

-- ---- stopped or not

start-within : (d : List ℕ) (budget : ℕ) → WithinBudget budget (at_start d)
unfolding at_start
start-within d budget = record { within = omega arith; at_stop = λ e. absurd (clash e refl) }

-- the count is never above the budget, and is the budget where the search is stopped
pub search-counted : (b : Part → ℕ) (first : ℕ → Bool) (d : List ℕ) (budget : ℕ) → WithinBudget budget (walk_of b first d budget)
unfolding walk_of
search-counted b first d budget =
    counted b first budget (undecided (variables d) (decided d)) (decisions d) (at_start d) (start-within d budget)

module _ (b : Part → ℕ) (weight : ℕ → ℕ) (first : ℕ → Bool) (d : List ℕ) (budget : ℕ) (f : Formed d)
    (sound : Sound (Node (variables d)) b weight) where
  -- what is kept is the best of the first leaves: of all where the search is done, else of those in front of the node that was due
  pub search-reached :
      Reached (λ q. weight q.truths) (leaves first (undecided (variables d) (decided d)) (decisions d)) (chosen (at_start d)) (walk_of b first d budget)
  unfolding walk_of at_start
  search-reached =
      reached b first budget sound (undecided (variables d) (decided d)) (decisions d) (at_start d) (root d f) refl (start-within d budget)

  -- what is kept is the best of the leaves met by that count
  pub search-met :
      chosen (walk_of b first d budget)
      ≡ scan (λ q. weight q.truths) (met b first budget (undecided (variables d) (decided d)) (decisions d) (at_start d)) (chosen (at_start d))
  unfolding walk_of
  search-met = walk-met-weights b first budget sound (undecided (variables d) (decided d)) (decisions d) (at_start d) (root d f)

  -- a reading that is kept keeps the decisions, and weighs what is said, which is no more than all there is
  pub search-kept : (walk_of b first d budget).kept ≡ true
      → (keeps d (walk_of b first d budget).reading ≡ true) × (weight (walk_of b first d budget).reading ≡ (walk_of b first d budget).best)
      × ((walk_of b first d budget).best ≤ weight_on d)
  unfolding at_start chosen
  search-kept k =
      let lefts : List ℕ = undecided (variables d) (decided d) in
      let qs : List Part = met b first budget lefts (decisions d) (at_start d) in
      let price : Part → ℕ = λ q. weight q.truths in
      ⊎_elim
      (λ (n : (scan price qs (chosen (at_start d)) ≡ chosen (at_start d)) × ((q : Part) → Memᴰ q qs → weight_on d + 1 ≤ weight q.truths)).
      absurd (clash k (ap (λ (c : Chosen). c.kept) (search-met ∙ n.0))))
      (λ (l : Least price qs (weight_on d + 1) (scan price qs (chosen (at_start d)))).
      let leaf : Part = l.leaf in
      let reading : (walk_of b first d budget).reading ≡ leaf.truths = ap (λ (c : Chosen). c.reading) (search-met ∙ l.is_kept) in
      let best : (walk_of b first d budget).best ≡ weight leaf.truths = ap (λ (c : Chosen). c.best) (search-met ∙ l.is_kept) in
      let member : Memᴰ leaf qs =
      subst (λ (rs : List Part). Memᴰ leaf rs) (sym l.stands) (mathlib.Core.List.Memᴰ.append_right l.front (mathlib.Core.List.Memᴰ.head refl)) in (
        ap (keeps d) reading ∙ leaf-keeps d f leaf
            (leaf-below first lefts (decisions d) leaf (member-of-sublist (met-leaves b first budget lefts (decisions d) (at_start d)) member)),
        ap weight reading ∙ sym best,
        omega (arith, best, l.less),
      ))
      (scan-outcome price qs (chosen (at_start d)))

-- ---- two bounds, two budgets

-- the bound of document 01 takes no more nodes than lost alone
pub bound-fewer : (d : List ℕ) (first : ℕ → Bool) (budget : ℕ) → well_formed d ≡ true → (walk_of (lost d) first d budget).stopped ≡ false
    → Within (walk_of (bound d) first d budget) (walk_of (lost d) first d budget).nodes
unfolding walk_of bound at_start
bound-fewer d first budget h =
    let f = formed d h in
    fewer-nodes (bound d) (lost d) first budget (bound-sound d f) (lost-sound d f) (λ vs p n. omega arith)
    (undecided (variables d) (decided d)) (decisions d) (at_start d) (at_start d) (root d f) refl refl (omega arith)

-- a search that is done has the same answer and count with a larger budget
pub search-same : (b : Part → ℕ) (first : ℕ → Bool) (d : List ℕ) (budget more : ℕ) → budget ≤ more → (walk_of b first d budget).stopped ≡ false
    → walk_of b first d more ≡ walk_of b first d budget
unfolding walk_of
search-same b first d budget more h =
    same-with-more b first budget more h (undecided (variables d) (decided d)) (decisions d) (at_start d)

-- a search is stopped exactly when a node was due at the budget, which a larger budget visits, and done exactly when none was
module _ (b : Part → ℕ) (first : ℕ → Bool) (d : List ℕ) (budget more : ℕ) (larger : budget < more) where
  pub search-due : (walk_of b first d budget).stopped ≡ true → budget < (walk_of b first d more).nodes
  unfolding walk_of at_start
  search-due = due-entered b first budget more larger (undecided (variables d) (decided d)) (decisions d) (at_start d) refl (start-within d budget)

  pub search-none-due : (walk_of b first d budget).stopped ≡ false → (walk_of b first d more).nodes ≤ budget
  search-none-due e =
      omega (arith, ap (λ (w : Walked). w.nodes) (search-same b first d budget more (omega arith) e), (search-counted b first d budget).within)

  pub search-stopped-when : ((walk_of b first d budget).stopped ≡ true) ↔ (budget < (walk_of b first d more).nodes)
  search-stopped-when =
      (search-due, λ l. ⊎_elim (λ t. t) (λ t. absurd (omega (arith, search-none-due t))) (cases (walk_of b first d budget).stopped))

  pub search-done-when : ((walk_of b first d budget).stopped ≡ false) ↔ ((walk_of b first d more).nodes ≤ budget)
  search-done-when =
      (search-none-due, λ l. ⊎_elim (λ t. absurd (omega (arith, search-due t))) (λ t. t) (cases (walk_of b first d budget).stopped))

-- the count is below 2 to the power u + 1, with u undecided variables
pub search-nodes : (b : Part → ℕ) (first : ℕ → Bool) (d : List ℕ) (budget : ℕ)
    → (walk_of b first d budget).nodes < 2 ^ suc (length (undecided (variables d) (decided d)))
unfolding walk_of at_start
search-nodes b first d budget = omega (arith, at-most b first budget (undecided (variables d) (decided d)) (decisions d) (at_start d))

-- a stopped search's weight never gets worse, and a reading is not lost
pub search-never-worse : (b : Part → ℕ) (first : ℕ → Bool) (d : List ℕ) (budget more : ℕ) → budget ≤ more
    → (walk_of b first d more).best ≤ (walk_of b first d budget).best
unfolding walk_of
search-never-worse b first d budget more h =
    never-worse b first budget more h (undecided (variables d) (decided d)) (decisions d) (at_start d) (start-within d budget)

pub search-stays-kept : (b : Part → ℕ) (first : ℕ → Bool) (d : List ℕ) (budget more : ℕ) → budget ≤ more → (walk_of b first d budget).kept ≡ true
    → (walk_of b first d more).kept ≡ true
unfolding walk_of
search-stays-kept b first d budget more h =
    kept-with-more b first budget more h (undecided (variables d) (decided d)) (decisions d) (at_start d) (start-within d budget)
