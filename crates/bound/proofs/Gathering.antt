-- The pass over the rows: of no rows each sum is 0, the next row adds its own, and no sum wraps. Of all rows in use the two sums of a variable are
-- its unit weights.
use Prim.Native.Nat.{ℕ, ◌+◌, ◌<◌, min}
use mathlib.Core.List.{List}
use mathlib.Core.Path.{◌≡◌, sym, ap, ap₂, subst, ◌∙◌}
use mathlib.Core.Bool.{cond}
use native.Mathlib.Omega.{arith}
use lib.ListN.{get_or, replicate, length-replicate, get_or-replicate}
use Rattle.masks.specs.Masks.{has}
use Rattle.masks.proofs.Sums.{sum-empty, sum_more}
use Rattle.literals.specs.declared.Lits.{Lits}
use Rattle.literals.specs.Literal.{most_variables}
use Rattle.literals.specs.Lits.{same_lits}
use Rattle.rules.specs.declared.Row.{Row}
use Rattle.rules.specs.declared.Part.{Part}
use Rattle.rules.specs.Desk.{in_use, row_on}
use Rattle.rules.specs.Bound.{unit_weight, foreseen_at}
use Rattle.units.specs.Adds.{sum_words, unit_at, row_adds, Roomy, Grown}
use Rattle.units.proofs.Places.{positive-at, negative-at}
use Rattle.desk_laws.specs.Readable.{Readable}
use Rattle.bound.specs.Units.{Gathered, smaller_at}
use Rattle.desk_laws.proofs.Readable.{row_fits, rows_fit}
use Rattle.bound.proofs.Fits.{adds_at}

module _ (d : List ℕ) (p : Part) where
  pub none-gathered : Gathered d p 0 (replicate sum_words 0)
  none-gathered =
      record {
        words = length-replicate {A = ℕ} sum_words 0;
        each = λ k h. get_or-replicate {A = ℕ} sum_words k 0 0 h ∙ sym (sum-empty (λ i. row_adds p (row_on d i) k));
      }

  pub gathered-at : {m n : ℕ} {sums : List ℕ} → m ≡ n → Gathered d p m sums → Gathered d p n sums
  gathered-at {sums = sums} e gathered = subst (λ (k : ℕ). Gathered d p k sums) e gathered

  module _ (n : ℕ) (sums : List ℕ) (gathered : Gathered d p n sums) (row : Row) (next : row ≡ row_on d n) where
    pub gathered-more : (after : List ℕ) → Grown (row_adds p row) sums after → Gathered d p (n + 1) after
    gathered-more after grown =
        record {
          words = grown.words ∙ gathered.words;
          each = λ k h.
              let e : row_adds p row k ≡ row_adds p (row_on d n) k = ap (λ (r : Row). row_adds p r k) next in
              omega (arith, grown.each k h, gathered.each k h, sum_more n (λ i. row_adds p (row_on d i) k));
        }

    pub gathered-roomy : Readable d → n < in_use d → Roomy row.weight sums
    gathered-roomy readable more =
        let e : row.weight ≡ (row_on d n).weight = ap (λ (r : Row). r.weight) next in
        record {
          words = gathered.words;
          fits = λ k h. omega (arith, gathered.each k h, rows_fit d readable p (same_lits (unit_at k)) n more, row_fits d readable p n more);
        }

  -- ---- all rows

  module _ (sums : List ℕ) (gathered : Gathered d p (in_use d) sums) where
    sum-at : (k : ℕ) → k < sum_words → (l : Lits) → unit_at k ≡ l → get_or sums k 0 ≡ unit_weight d p l
    unfolding unit_weight
    sum-at k h l e = gathered.each k h ∙ ap (λ (m : Lits). unit_weight d p m) e

    pub gathered-by : (v : ℕ) → v < most_variables → smaller_at p.decided v sums ≡ adds_at d p v
    unfolding foreseen_at
    gathered-by v h =
        ap (λ (x : ℕ). cond {A = ℕ} (has p.decided v) 0 x)
        (ap₂ min (sum-at v (omega arith) _ (positive-at v h)) (sum-at (most_variables + v) (omega arith) _ (negative-at v h)))
