-- A search: done, it has the least weight and the first reading of it, of those that satisfy every hard row; impossible, there is none; stopped, it has the
-- best of the first readings, those in front of the node that was due. All is read off the walk, whose laws hold of any sound bound; here it is the price of
-- a node by either of the two, for what readings come to, true before false.
use Rattle.std.specs.Prelude.{Some, Ok}
use Prim.Native.Nat.{ℕ, ◌+◌, ◌≤◌, ◌<◌}
use mathlib.Core.Path.{◌≡◌, refl, sym, ap, ◌∙◌, subst}
use mathlib.Core.List.{List, [], ◌∷◌, ◌++◌, Memᴰ}
use mathlib.Core.Bool.{Bool, true, false, cond, not, ◌&&◌}
use mathlib.Core.Logic.{◌⊎◌, ◌↔◌, inl, inr, ⊎_elim}
use native.Mathlib.Omega.{arith}
use borrow.Author.Tests.{not-true, not-false}
use lib.ListN.{length, take, length-append}
use lib.Seq.{take_at}
use Rattle.masks.specs.Sums.{every}
use Rattle.masks.proofs.Choice.{impossible, clash, not_so, and_left, and_right}
use Rattle.masks.proofs.Sums.{every-fails, every-false}
use Rattle.literals.specs.Lits.{is_empty}
use Rattle.rules.specs.declared.Part.{Part}
use Rattle.rules.specs.declared.Row.{Row}
use Rattle.rules.specs.declared.Choice.{Choice}
use Rattle.rules.specs.declared.Status.{Status}
use Rattle.rules.specs.declared.Walked.{Walked}
use Rattle.rules.specs.declared.Found.{Found}
use Rattle.rules.specs.Table.{most_weight, is_hard}
use Rattle.rules.specs.Desk.{variables, in_use, decided, well_formed, row_on, weight_on, decisions, satisfied, remnant, hard_hold_on, keeps}
use Rattle.rules.specs.Bound.{lost_hard, dead}
use Rattle.rules.specs.Choice.{bound_by}
use Rattle.rules.specs.Walk.{fixed, visited, walk, undecided, at_start, price_of, tried_first, walk_in, best_of, found_by, searched}
use Rattle.desk_laws.proofs.Formed.{Formed, formed}
use Rattle.walk_laws.specs.Order.{Before}
use Rattle.walk_laws.specs.Hard.{comes_to}
use Rattle.walk_laws.specs.Leaves.{met}
use Rattle.walk_laws.specs.Scan.{Chosen, chosen, scan, Least, Reached}
use Rattle.walk_laws.proofs.Scans.{scan-outcome, scan-best}
use Rattle.walk_laws.proofs.Walks.{leaf-below, below-leaf, below-node}
use Rattle.walk_laws.proofs.Meeting.{entered-met, walk-met, member-of-sublist, met-leaves}
use Rattle.walk_laws.proofs.Orders.{earlier-before}
use Rattle.walk_laws.proofs.Bounds.{weighs-most}
use Rattle.walk_laws.proofs.Hard.{held, holding}
use Rattle.walk_laws.proofs.Done.{root, leaf-keeps, keeps-leaf}
use Rattle.walk_laws.proofs.Budgets.{search-reached, search-met}
use Rattle.search_laws.specs.Chief.{Chief, NoneHolds}
use Rattle.search_laws.proofs.Either.{either-price}
use Rattle.search_laws.proofs.Answers.{found-well, stopped-halted, done-chief, impossible-none, nodes-most, stopped-nodes, nodes-below, stopped-when}
use Rattle.search_laws.proofs.Answers.{finished-when, finished-same}
use Rattle.demands.specs.Searches.{TrueFirst, Finished, NoReading, SomeHolds, Ended, Dead, CutWhere, met_by, readings_of, InOrder, BestOf, nothing, one}
use Rattle.demands.specs.Searches.{Stopped, StopRule}

-- ---- finished

true-first : {a b : ℕ} → Before tried_first a b → TrueFirst a b
true-first f = record { place = f.place; agree = f.agree; is_true = f.mine; is_false = f.other }

module _ (d : List ℕ) (choice : Choice) (budget : ℕ) (f : Found) (answer : searched d choice budget ≡ Ok f) where
  pub search-finished : f.status ≡ Status.Done → Finished d f
  search-finished done =
      let w = done-chief d choice budget f answer done in
      let most : Chief tried_first d w.1 w.0 = w.3 in
      record {
        weight = w.0;
        reading = w.1;
        answers = w.2;
        kept = most.keeps_all;
        held = most.holds_all;
        weighed = most.weighs;
        least = most.least;
        first = λ other k h e. ⊎_elim inl (λ b. inr (true-first b)) (most.first_of other k h e);
      }

  pub search-impossible : f.status ≡ Status.Impossible → NoReading d f
  search-impossible none = let w = impossible-none d choice budget f answer none in record { answers = w.0; none_holds = w.1 }

  -- what is found is there
  done-some : f.status ≡ Status.Done → SomeHolds d
  done-some done = let g = search-finished done in record { reading = g.reading; kept = g.kept; held = g.held }

  -- there is one, or there is none
  not-both : SomeHolds d → NoneHolds d → ⊥
  not-both some none = clash some.held (none some.reading some.kept)

  pub search-ended : (f.status ≡ Status.Stopped → ⊥) → Ended d f
  search-ended runs = by-status f.status refl
    where
      by-status : (s : Status) → f.status ≡ s → Ended d f
      by-status Status.Done e =
          record { done_when = (done-some, λ some. e); impossible_when = (λ q. impossible (cc), λ none. absurd (not-both (done-some e) none)) }
      by-status Status.Impossible e =
          let none = (search-impossible e).none_holds in
          record { done_when = (λ q. impossible (cc), λ some. absurd (not-both some none)); impossible_when = (λ q. none, λ q. e) }
      by-status Status.Stopped e = absurd (runs e)

-- ---- where a node is cut

module _ (d : List ℕ) (p : Part) where
  dead-row : dead d p ≡ true → Dead d p
  unfolding dead lost_hard
  dead-row e =
      let x = every-fails (in_use d) (λ i. not (lost_hard p (row_on d i))) (not-true (every (in_use d) (λ i. not (lost_hard p (row_on d i)))) e) in
      let r : Row = row_on d x.0 in
      let unsatisfied : Bool = not (satisfied p r.lits) in
      let empty : Bool = is_empty (remnant p r.lits) in
      let all = not-false (is_hard r && (unsatisfied && empty)) x.2 in
      let both = and_right (is_hard r) (unsatisfied && empty) all in
      record {
        row = x.0;
        used = x.1;
        hard = and_left (is_hard r) (unsatisfied && empty) all;
        unsatisfied = not-true (satisfied p r.lits) (and_left unsatisfied empty both);
        empty = and_right unsatisfied empty both;
      }

  row-dead : Dead d p → dead d p ≡ true
  unfolding dead lost_hard
  row-dead x =
      ap not (every-false (in_use d) (λ i. not (lost_hard p (row_on d i))) x.row x.used (rw (x.hard, x.unsatisfied, x.empty)))

pub node-cut : (d : List ℕ) (choice : Choice) → well_formed d ≡ true → CutWhere d choice
node-cut d choice well p best low = go (dead d p) refl
  where
    go : (t : Bool) → dead d p ≡ t → (best ≤ cond t (most_weight + 1) (bound_by choice d p)) ↔ ((best ≤ bound_by choice d p) ⊎ Dead d p)
    go true e = (λ l. inr (dead-row d p e), λ q. omega (arith, (formed d well).light))
    go false e = (inl, λ q. ⊎_elim (λ l. l) (λ x. absurd (clash (row-dead d p x) e)) q)

-- ---- the readings in the walk's order

module _ (d : List ℕ) (g : Formed d) where
  abbrev lefts : List ℕ
  lefts = undecided (variables d) (decided d)

  leaf-kept : (q : Part) → Memᴰ q (readings_of d) → keeps d q.truths ≡ true
  leaf-kept q m = leaf-keeps d g q (leaf-below tried_first lefts (decisions d) q m)

  in_order : InOrder d
  in_order =
      record {
        kept = leaf-kept;
        all = λ full k. let x = keeps-leaf d g full k in (x.0, below-leaf tried_first x.1, x.2);
        order = λ q r e. true-first (earlier-before tried_first lefts (decisions d) q r (root d g) e);
      }

pub readings-in-order : (d : List ℕ) → well_formed d ≡ true → InOrder d
readings-in-order d well = in_order d (formed d well)

-- ---- stopped

-- what is met is below the best that the walk starts with
met-below : (bound : Part → ℕ) (first : ℕ → Bool) (budget : ℕ) (vs : List ℕ) (p : Part) (s : Walked) (q : Part)
    → Memᴰ q (met bound first budget vs p s) → bound q < s.best
unfolding met visited chosen
met-below bound first budget [] p s q =
    entered-met (λ (w : Walked) (qs : List Part). Memᴰ q qs → bound q < s.best) budget (bound p) s s (p ∷ [])
    (λ r m. absurd (mathlib.Core.List.Memᴰ.not-nil m))
    (λ r c m. absurd (mathlib.Core.List.Memᴰ.not-nil m))
    (λ r c m. subst (λ (x : Part). bound x < s.best) (sym (mathlib.Core.List.Memᴰ.eq_of_singleton m)) c)
met-below bound first budget (v ∷ vs) p s q =
    let p₁ : Part = fixed p v (first v) in
    let p₂ : Part = fixed p v (not (first v)) in
    let one : Walked = walk bound first budget vs p₁ (visited s) in
    let qs₁ : List Part = met bound first budget vs p₁ (visited s) in
    let no_more : one.best ≤ s.best =
    omega (arith, ap (λ (c : Chosen). c.best) (walk-met bound first budget vs p₁ (visited s)), scan-best bound qs₁ (chosen (visited s))) in
    entered-met (λ (w : Walked) (qs : List Part). Memᴰ q qs → bound q < s.best) budget (bound p) s s (qs₁ ++ met bound first budget vs p₂ one)
    (λ r m. absurd (mathlib.Core.List.Memᴰ.not-nil m))
    (λ r c m. absurd (mathlib.Core.List.Memᴰ.not-nil m))
    (λ r c m.
    ⊎_elim
    (λ k. met-below bound first budget vs p₁ (visited s) q k)
    (λ k. omega (arith, met-below bound first budget vs p₂ one q k, no_more))
    (mathlib.Core.List.Memᴰ.append_cases qs₁ m))

module _ (d : List ℕ) (choice : Choice) (budget : ℕ) (g : Formed d) where
  -- so that its reading satisfies every hard row
  met_holds : (q : Part) → Memᴰ q (met_by d choice budget) → hard_hold_on d q.truths ≡ true
  unfolding at_start
  met_holds q m =
      let leaf = leaf-below tried_first (lefts d g) (decisions d) q
      (member-of-sublist (met-leaves (price_of choice d) tried_first budget (lefts d g) (decisions d) (at_start d)) m) in
      let price : price_of choice d q ≡ comes_to d q.truths = (either-price choice d g).at_leaf (below-node (either-price choice d g) (root d g) leaf) in
      let less : price_of choice d q < weight_on d + 1 = met-below (price_of choice d) tried_first budget (lefts d g) (decisions d) (at_start d) q m in
      (held d q.truths (omega (arith, price, less, g.light))).0

-- where none is kept, each comes to more than what the walk starts with, and breaks a hard row
best_of_lem : (d : List ℕ) → Formed d → (qs : List Part) → ((q : Part) → Memᴰ q qs → keeps d q.truths ≡ true) → (c : Chosen)
    → c ≡ scan (λ q. comes_to d q.truths) qs (chosen (at_start d)) → BestOf d qs (best_of c.kept c.best c.reading)
unfolding at_start chosen
best_of_lem d g qs keep c e =
    let price : Part → ℕ = λ q. comes_to d q.truths in
    ⊎_elim
    (λ (n : (scan price qs (chosen (at_start d)) ≡ chosen (at_start d)) × ((q : Part) → Memᴰ q qs → weight_on d + 1 ≤ comes_to d q.truths)).
    rw (e ∙ n.0) (nothing (λ q m. not_so (λ h. omega (arith, n.1 q m, holding d q.truths h, weighs-most d q.truths)))))
    (λ (l : Least price qs (weight_on d + 1) (scan price qs (chosen (at_start d)))).
    let leaf : Part = l.leaf in
    let member : Memᴰ leaf qs =
    subst (λ (rs : List Part). Memᴰ leaf rs) (sym l.stands) (mathlib.Core.List.Memᴰ.append_right l.front (mathlib.Core.List.Memᴰ.head refl)) in
    let h = held d leaf.truths (omega (arith, l.less, g.light)) in
    rw (e ∙ l.is_kept)
    (subst (λ (x : ℕ). BestOf d qs (Some (record { weight = x; reading = leaf.truths }))) h.1
    (one l.front leaf l.rest l.stands (keep leaf member) h.0
    (λ q m k. omega (arith, l.in_front q m, holding d q.truths k, h.1))
    (λ q m k. omega (arith, l.behind q m, holding d q.truths k, h.1)))))
    (scan-outcome price qs (chosen (at_start d)))

pub search-stopped : (d : List ℕ) (choice : Choice) (budget : ℕ) (f : Found) → searched d choice budget ≡ Ok f → f.status ≡ Status.Stopped
    → Stopped d choice budget f
unfolding chosen
search-stopped d choice budget f answer stop =
    let w = found-well d choice budget f answer in
    let g = formed d w.0 in
    let r : Reached (λ q. comes_to d q.truths) (readings_of d) (chosen (at_start d)) (walk_in d choice budget) =
    search-reached (price_of choice d) (comes_to d) tried_first d budget g (either-price choice d g) in
    let halt : (walk_in d choice budget).stopped ≡ true =
    stopped-halted (walk_in d choice budget).stopped (walk_in d choice budget).kept (sym (ap (λ (x : Found). x.status) w.1) ∙ stop) in
    let front : take (length r.front) (readings_of d) ≡ r.front =
    ap (take (length r.front)) r.split ∙ take_at r.front r.rest (length r.front) refl in
    let keep : (q : Part) → Memᴰ q r.front → keeps d q.truths ≡ true =
    λ q m. leaf-kept d g q (subst (λ (qs : List Part). Memᴰ q qs) (sym r.split) (mathlib.Core.List.Memᴰ.append_left r.rest m)) in
    let best : BestOf d r.front (found_by (walk_in d choice budget)).best = best_of_lem d g r.front keep (chosen (walk_in d choice budget)) r.is_best in
    let keep_met : (q : Part) → Memᴰ q (met_by d choice budget) → keeps d q.truths ≡ true =
    λ q m. leaf-kept d g q (member-of-sublist (met-leaves (price_of choice d) tried_first budget (undecided (variables d) (decided d)) (decisions d)
    (at_start d)) m) in
    let best_met : BestOf d (met_by d choice budget) (found_by (walk_in d choice budget)).best =
    best_of_lem d g (met_by d choice budget) keep_met (chosen (walk_in d choice budget))
    (search-met (price_of choice d) (comes_to d) tried_first d budget g (either-price choice d g)) in
    record {
      count = stopped-nodes d choice budget f answer stop;
      of_those_met = subst (λ (x : Found). BestOf d (met_by d choice budget) x.best) (sym w.1) best_met;
      met_hold = met_holds d choice budget g;
      n = length r.front;
      some_left = omega (arith, ap length r.split ∙ length-append r.front r.rest, r.some_left halt);
      best =
          subst (λ (x : Found). BestOf d (take (length r.front) (readings_of d)) x.best) (sym w.1)
          (subst (λ (qs : List Part). BestOf d qs (found_by (walk_in d choice budget)).best) (sym front) best);
    }

-- ---- which of the three

pub search-stop-rule : (d : List ℕ) (choice : Choice) (budget : ℕ) (f : Found) → searched d choice budget ≡ Ok f → StopRule d choice budget f
search-stop-rule d choice budget f answer =
    let done-runs : f.status ≡ Status.Done → f.status ≡ Status.Stopped → ⊥ = λ e q. impossible (cc) in
    let none_runs : f.status ≡ Status.Impossible → f.status ≡ Status.Stopped → ⊥ = λ e q. impossible (cc) in
    record {
      within = nodes-most d choice budget f answer;
      stopped_when = λ more g larger again. stopped-when d choice budget f answer more g again larger;
      done_when = λ more g larger again.
          let ends = finished-when d choice budget f answer more g again larger in (
            λ e. (ends.0 (done-runs e), (search-ended d choice budget f answer (done-runs e)).done_when.0 e),
            λ p. (search-ended d choice budget f answer (ends.1 p.0)).done_when.1 p.1,
          );
      impossible_when = λ more g larger again.
          let ends = finished-when d choice budget f answer more g again larger in (
            λ e. (ends.0 (none_runs e), (search-ended d choice budget f answer (none_runs e)).impossible_when.0 e),
            λ p. (search-ended d choice budget f answer (ends.1 p.0)).impossible_when.1 p.1,
          );
      same = λ more g larger again runs. finished-same d choice budget f answer more g again larger runs;
      few = nodes-below d choice budget f answer;
    }
