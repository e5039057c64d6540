-- What a taking back of a rewriting comes to: each named row regains w, so the weights of the rows before the first new one grow by w for
-- each, and (d) afterwards is a sum that can be made without writing a word.
use Prim.Native.Nat.{ℕ, zero, suc, ◌+◌, ◌-◌, ◌*◌, ◌≤◌, ◌<◌}
use mathlib.Core.Path.{◌≡◌, ap}
use mathlib.Core.List.{List}
use mathlib.Core.Bool.{not}
use native.Mathlib.Nat.{le_refl, le_step, suc-mul}
use native.Mathlib.Omega.{arith}
use lib.ListN.{length}
use lib.Dec.{leb, ltb}
use borrow.Author.Tests.{lt-leb, leb-false, lt-ltb, ltb-true, not-true}
use Rattle.masks.specs.Sums.{sum}
use Rattle.masks.proofs.Sums.{sum-ext, sum-change}
use Rattle.masks.proofs.Choice.{same_test}
use Rattle.rules.specs.declared.Row.{Row}
use Rattle.rules.specs.Table.{most_weight}
use Rattle.rules.specs.Desk.{in_use, conceded, row_place, row_on, set_weight, weight_on, weight_fits}
use Rattle.rules.specs.Steps.{reweighed}
use Rattle.rules.specs.TakeBack.{last_weight, last_count, last_named, last_first, last_conceded, undo_rewriting}
use Rattle.desk_laws.proofs.Formed.{Formed, rows_inside, head-inside}
use Rattle.desk_laws.proofs.Stores.{Distinct, row_same, set-weight-same, set-weight-other, length-reweighed}
use Rattle.step_laws.proofs.Undoing.{emptied, emptied-use, emptied-conceded, emptied-below, emptied-head}
use Rattle.step_laws.proofs.Freed.{withdrawn-weight}

module _ (d : List ℕ) (u w : ℕ) (row : ℕ → ℕ) where
  -- the weights of the first u rows, among which n distinct ones regain w
  pub regained-sum : (n : ℕ) → Distinct n row → ((i : ℕ) → i < n → row i < u) → ((i : ℕ) → i < n → row_place (suc (row i)) ≤ length d)
      → sum u (λ i. (row_on (reweighed (λ x. x + w) row d n) i).weight) ≡ sum u (λ i. (row_on d i).weight) + n * w
  unfolding reweighed
  regained-sum zero apart used inside = omega arith
  regained-sum (suc n) apart used inside =
      let e = reweighed (λ x. x + w) row d n in
      let x = (row_on e (row n)).weight in
      let f = set_weight e (row n) (x + w) in
      let here = le_refl (suc n) in
      let ih = regained-sum n (λ a b p q. apart a b p (le_step q)) (λ i l. used i (le_step l)) (λ i l. inside i (le_step l)) in
      let new : (row_on f (row n)).weight ≡ x + w =
      ap (λ (r : Row). r.weight) (set-weight-same e (row n) (x + w) (rw (length-reweighed (λ x. x + w) row d n) (inside n here))) in
      let change =
      sum-change u {f = λ i. (row_on f i).weight} {g = λ i. (row_on e i).weight} (row n) (used n here)
      (λ j l ne. ap (λ (r : Row). r.weight) (set-weight-other e (row n) (x + w) j ne)) in
      let more : suc n * w ≡ n * w + w = suc-mul n w in
      omega arith

module _ (d : List ℕ) (f : Formed d) (fits : last_first d ≤ in_use d) (apart : Distinct (last_count d) (last_named d))
    (below : (i : ℕ) → i < last_count d → last_named d i < last_first d) where
  abbrev c : ℕ
  c = conceded d - last_conceded d

  abbrev rest : List ℕ
  rest = emptied d (last_weight d) (last_named d) (last_count d) (last_first d) (in_use d - last_first d) c

  weight-rest : weight_on rest ≡ c + (sum (last_first d) (λ i. (row_on d i).weight) + last_count d * last_weight d)
  unfolding weight_on row_place
  weight-rest =
      let k = emptied-use d (last_weight d) (last_named d) (last_count d) (last_first d) (in_use d - last_first d) c (head-inside f) in
      let v = emptied-conceded d (last_weight d) (last_named d) (last_count d) (last_first d) (in_use d - last_first d) c (head-inside f) in
      let same : (i : ℕ) → i < last_first d → (row_on rest i).weight ≡ (row_on (reweighed (λ x. x + last_weight d) (last_named d) d (last_count d)) i).weight =
      λ i l. ap (λ (r : Row). r.weight) (row_same (reweighed (λ x. x + last_weight d) (last_named d) d (last_count d)) rest i
      (λ p a b. emptied-below d (last_weight d) (last_named d) (last_count d) (last_first d) (in_use d - last_first d) c p (λ q. omega arith)
      (λ q. omega arith) (omega arith))) in
      rw (k, v, sum-ext (last_first d) {f = λ i. (row_on rest i).weight} same)
      (ap (λ (s : ℕ). c + s) (regained-sum d (last_first d) (last_weight d) (last_named d) (last_count d) apart below
      (λ i l. rows_inside f (suc (last_named d i)) (omega (arith, below i l, f.fitting)))))

  pub weight-after : weight_on (undo_rewriting d) ≡ c + last_count d * last_weight d + sum (last_first d) (λ i. (row_on d i).weight)
  unfolding undo_rewriting
  weight-after =
      let k = emptied-use d (last_weight d) (last_named d) (last_count d) (last_first d) (in_use d - last_first d) c (head-inside f) in
      let m = emptied-head d (last_weight d) (last_named d) (last_count d) (last_first d) (in_use d - last_first d) c 2 (omega arith) in
      omega (arith, withdrawn-weight rest (omega (arith, k, m, f.fitting)), weight-rest)

  -- (d) broken afterwards
  pub fits_after : not (weight_fits (undo_rewriting d)) ≡ ltb most_weight (c + last_count d * last_weight d + sum (last_first d) (λ i. (row_on d i).weight))
  unfolding weight_fits
  fits_after = rw weight-after (turned (c + last_count d * last_weight d + sum (last_first d) (λ i. (row_on d i).weight)))
    where
      turned : (n : ℕ) → not (leb n most_weight) ≡ ltb most_weight n
      turned n = same_test
          (λ t. lt-ltb most_weight n (leb-false n most_weight (not-true (leb n most_weight) t)))
          (λ t. ap not (lt-leb n most_weight (ltb-true most_weight n t)))
