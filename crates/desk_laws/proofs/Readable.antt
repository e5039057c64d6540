-- Desks that can be read: those that are well formed, and their fronts. No sum of weights wraps there: those of some rows are at most those of all,
-- which are at most the limit.
use Prim.Native.Nat.{ℕ, ◌+◌, ◌≤◌, ◌<◌}
use mathlib.Core.Path.{◌≡◌}
use mathlib.Core.List.{List}
use mathlib.Core.Bool.{Bool, true, not, ◌&&◌}
use native.Mathlib.Omega.{arith}
use lib.ListN.{length, take}
use lib.Seq.{length-take-le}
use Rattle.masks.specs.Sums.{sum}
use Rattle.masks.proofs.Choice.{cond-elim}
use Rattle.masks.proofs.Sums.{sum_more, sum_mono, sum-le, le-sum}
use Rattle.literals.specs.declared.Lits.{Lits}
use Rattle.rules.specs.declared.Row.{Row}
use Rattle.rules.specs.declared.Part.{Part}
use Rattle.rules.specs.Table.{most_weight}
use Rattle.rules.specs.Desk.{in_use, conceded, row_on, row_place, desk_words, well_formed, weight_on, satisfied, remnant}
use Rattle.rules.specs.Bound.{weight_where}
use Rattle.desk_laws.specs.Readable.{Readable}
use Rattle.desk_laws.proofs.Formed.{formed}
use Rattle.desk_laws.proofs.Alike.{front-alike, weight-alike}

-- a well-formed desk can be read
pub readable : (d : List ℕ) → well_formed d ≡ true → Readable d
unfolding desk_words row_place
readable d h =
    let f = formed d h in
    record { rows = omega (arith, f.reaching, f.fitting); few = omega (arith, f.roomy, f.fitting); weights = f.light; bits = f.named }

-- and so can its front that ends behind its rows in use
pub readable-front : {d : List ℕ} → Readable d → (n : ℕ) → row_place (in_use d) ≤ n → n ≤ length d → Readable (take n d)
unfolding row_place
readable-front {d} r n behind within =
    let alike = front-alike d n behind in
    let used = alike.heads 1 (omega arith) in
    record {
      rows = omega (arith, length-take-le n d within);
      few = omega (arith, used, r.few);
      weights = rw (weight-alike alike) r.weights;
      bits = rw (alike.heads 0 (omega arith)) r.bits;
    }

-- ---- no sum of weights wraps

pub where-le : (test : Lits → Bool) (p : Part) (row : Row) → weight_where test p row ≤ row.weight
unfolding weight_where
where-le test p row =
    cond-elim (λ (x : ℕ). x ≤ row.weight) (not (satisfied p row.lits) && test (remnant p row.lits)) row.weight 0 (λ t. omega arith) (λ t. omega arith)

module _ (d : List ℕ) (readable : Readable d) (p : Part) where
  -- some rows
  pub rows-most : (test : Lits → Bool) → conceded d + sum (in_use d) (λ k. weight_where test p (row_on d k)) ≤ most_weight
  unfolding weight_on
  rows-most test =
      omega (
        arith,
        readable.weights,
        sum-le (in_use d) {f = λ k. weight_where test p (row_on d k)} {g = λ k. (row_on d k).weight}
            (λ k l. where-le test p (row_on d k)),
      )

  -- the rows passed, and the next
  pub rows_fit : (test : Lits → Bool) (i : ℕ) → i < in_use d
      → sum i (λ k. weight_where test p (row_on d k)) + weight_where test p (row_on d i) ≤ most_weight
  rows_fit test i h =
      omega (
        arith,
        rows-most test,
        sum_more i (λ k. weight_where test p (row_on d k)),
        sum_mono (i + 1) (in_use d)
            (λ k. weight_where test p (row_on d k)) (omega arith),
      )

  -- the next row by itself
  pub row_fits : (i : ℕ) → i < in_use d → (row_on d i).weight ≤ most_weight
  unfolding weight_on
  row_fits i h = omega (arith, readable.weights, le-sum (in_use d) (λ k. (row_on d k).weight) i h)
