-- The balance of any rewriting: measure after + w × (measures of the named rows) = measure before + what it conceded + w × (measures of the new rows).
-- Each named row loses w, so its share falls by w times its measure; rows are named once, so nothing is counted twice.
-- Each new row's share is w times its measure.
use Prim.Native.Nat.{ℕ, zero, suc, ◌+◌, ◌-◌, ◌*◌, ◌≤◌, ◌<◌}
use mathlib.Core.Path.{◌≡◌, ap, ◌∙◌}
use mathlib.Core.List.{List, [], ◌∷◌}
use native.Mathlib.Nat.{le_step, le_refl, le_trans, mul-add, mul_comm, mul-zero, add-zero}
use native.Mathlib.Omega.{arith}
use lib.ListN.{length, get_or}
use Rattle.masks.specs.Sums.{sum}
use Rattle.masks.proofs.Sums.{sum-empty, sum-ext, sum-suc, sum-change}
use Rattle.literals.specs.declared.Lits.{Lits}
use Rattle.rules.specs.declared.Row.{Row}
use Rattle.rules.specs.Table.{new_row}
use Rattle.rules.specs.Desk.{in_use, row_place, row_on, set_row, set_weight}
use Rattle.rules.specs.Rewrite.{laid}
use Rattle.rules.specs.Steps.{reweighed}
use Rattle.desk_laws.proofs.Formed.{rows_inside, place_mono}
use Rattle.desk_laws.proofs.Stores.{Distinct, set-weight-same, set-weight-other, set-row-same, set-row-other, length-set-row, length-reweighed, reweighed-yet}
use Rattle.desk_laws.proofs.Weights.{share, measured}
use Rattle.step_laws.proofs.Rewritings.{rows_after, rewritten, Plan, rewritten-use, rewritten-conceded, rewritten-row}

-- the measures of given rows, added up
unfoldable pub total : (Lits → ℕ) → List Lits → ℕ
total m [] = 0
total m (l ∷ ls) = m l + total m ls

module _ (m : Lits → ℕ) where
  -- ---- named rows

  -- a row's share at a weight
  share-split : (M x w : ℕ) → w ≤ x → M * x ≡ M * (x - w) + M * w
  share-split M x w h = let e : x ≡ x - w + w = omega arith in ap (λ (k : ℕ). M * k) e ∙ mul-add M (x - w) w

  module _ (d : List ℕ) (u w : ℕ) (row : ℕ → ℕ) where
    lighter : (n : ℕ) → Distinct n row → ((i : ℕ) → i < n → row i < u) → ((i : ℕ) → i < n → row_place (suc (row i)) ≤ length d)
        → ((i : ℕ) → i < n → w ≤ (row_on d (row i)).weight)
        → sum u (λ i. share m (row_on (reweighed (λ x. x - w) row d n) i)) + w * sum n (λ i. m (row_on d (row i)).lits) ≡ sum u (λ i. share m (row_on d i))
    unfolding reweighed share
    lighter zero apart used inside heavy = rw (sum-empty (λ i. m (row_on d (row i)).lits), mul-zero w, add-zero)
    lighter (suc n) apart used inside heavy =
        let e : List ℕ = reweighed (λ x. x - w) row d n in
        let x : ℕ = (row_on e (row n)).weight in
        let f : List ℕ = set_weight e (row n) (x - w) in
        let M : ℕ = m (row_on d (row n)).lits in
        let here = le_refl (suc n) in
        let ih = lighter n (λ a b p q. apart a b p (le_step q)) (λ i l. used i (le_step l)) (λ i l. inside i (le_step l)) (λ i l. heavy i (le_step l)) in
        let kept : row_on e (row n) ≡ row_on d (row n) = reweighed-yet (λ x. x - w) row d n apart in
        let same : x ≡ (row_on d (row n)).weight = ap (λ (r : Row). r.weight) kept in
        let lits : (row_on e (row n)).lits ≡ (row_on d (row n)).lits = ap (λ (r : Row). r.lits) kept in
        let old : share m (row_on e (row n)) ≡ M * x = ap (λ (l : Lits). m l * x) lits in
        let new : share m (row_on f (row n)) ≡ M * (x - w) =
        ap (share m) (set-weight-same e (row n) (x - w) (rw (length-reweighed (λ x. x - w) row d n) (inside n here))) ∙ ap (λ (l : Lits). m l * (x - w)) lits in
        let change =
        sum-change u {f = λ i. share m (row_on f i)} {g = λ i. share m (row_on e i)} (row n) (used n here)
        (λ j l ne. ap (share m) (set-weight-other e (row n) (x - w) j ne)) in
        let split = share-split M x w (rw same (heavy n here)) in
        let more : w * sum (suc n) (λ i. m (row_on d (row i)).lits) ≡ w * sum n (λ i. m (row_on d (row i)).lits) + M * w =
        rw (sum-suc n (λ i. m (row_on d (row i)).lits), mul-add, mul_comm w M) in
        omega arith

  -- ---- new rows

  laid-sum : (d : List ℕ) (i w : ℕ) (ls : List Lits) → row_place (i + length ls) ≤ length d
      → sum (i + length ls) (λ j. share m (row_on (laid d i w ls) j)) ≡ sum i (λ j. share m (row_on d j)) + w * total m ls
  unfolding laid total share
  laid-sum d i w [] h = rw (add-zero i, mul-zero w) (omega arith)
  laid-sum d i w (l ∷ ls) h =
      let e : List ℕ = set_row d i (new_row l w) in
      let n : i + suc (length ls) ≡ suc i + length ls = omega arith in
      let at : share m (row_on e i) ≡ m l * w = ap (share m) (set-row-same d i (new_row l w) (le_trans (place_mono (omega arith)) h)) in
      let before : sum i (λ j. share m (row_on e j)) ≡ sum i (λ j. share m (row_on d j)) =
      sum-ext i (λ j k. ap (share m) (set-row-other d i (new_row l w) j (λ q. omega arith))) in
      rw n (laid-sum e (suc i) w ls (rw (length-set-row d i (new_row l w), ← n) h)
      ∙ rw (sum-suc i (λ j. share m (row_on e j)), mul-add w (m l) (total m ls)) (omega (arith, mul_comm w (m l))))

  -- ---- the balance

  module _ (d : List ℕ) (kind w : ℕ) (named : List ℕ) (new : List Lits) (c : ℕ) (plan : Plan d w named new) where
    pub balance : measured m (rewritten d kind w named new c) + w * sum (length named)
        (λ i. m (row_on d (get_or named i 0)).lits) ≡ measured m d + c + w * total m new
    unfolding measured rows_after
    balance =
        let e : List ℕ = rewritten d kind w named new c in
        let u : ℕ = in_use d + length new in
        let f : List ℕ = reweighed (λ x. x - w) (λ i. get_or named i 0) d (length named) in
        let sums : sum (in_use e) (λ i. share m (row_on e i)) ≡ sum u (λ i. share m (row_on (rows_after d w named new) i)) =
        ap (λ (k : ℕ). sum k (λ i. share m (row_on e i))) (rewritten-use d kind w named new c plan)
        ∙ sum-ext u (λ i l. ap (share m) (rewritten-row d kind w named new c plan i (omega (arith, plan.space)))) in
        let lay : sum u (λ i. share m (row_on (rows_after d w named new) i)) ≡ sum (in_use d) (λ i. share m (row_on f i)) + w * total m new =
        laid-sum f (in_use d) w new (rw (length-reweighed (λ x. x - w) (λ i. get_or named i 0) d (length named))
        (rows_inside plan.desk (in_use d + length new) plan.space)) in
        let light =
        lighter d (in_use d) w (λ i. get_or named i 0) (length named) plan.apart plan.used
        (λ i l. rows_inside plan.desk (suc (get_or named i 0)) (omega (arith, plan.used i l, plan.desk.fitting))) plan.heavy in
        omega (arith, rewritten-conceded d kind w named new c plan)
