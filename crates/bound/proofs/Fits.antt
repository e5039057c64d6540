-- No sum of the bound wraps: the weights of some rows are at most those of all, which are at most the limit, and there are 64 variables
-- at most.
use Prim.Native.Nat.{ℕ, ◌+◌, ◌*◌, ◌≤◌, ◌<◌}
use mathlib.Core.List.{List}
use mathlib.Core.Bool.{cond}
use native.Mathlib.Nat.{min-le_left}
use native.Mathlib.Omega.{arith}
use Rattle.masks.specs.Masks.{has}
use Rattle.masks.specs.Sums.{sum}
use Rattle.masks.proofs.Choice.{cond-elim}
use Rattle.masks.proofs.Sums.{sum_more, sum_bound}
use Rattle.literals.specs.Lits.{is_empty, same_lits}
use Rattle.rules.specs.declared.Part.{Part}
use Rattle.rules.specs.Table.{most_weight}
use Rattle.rules.specs.Desk.{variables, conceded}
use Rattle.rules.specs.Bound.{lost_beyond, unit_weight, foreseen_at, foreseen}
use Rattle.desk_laws.specs.Readable.{Readable}
use Rattle.desk_laws.proofs.Readable.{rows-most}
use Rattle.units.specs.Adds.{positive_unit, negative_unit}

module _ (d : List ℕ) (readable : Readable d) (p : Part) where
  pub lost-fits : conceded d + lost_beyond d p ≤ most_weight
  unfolding lost_beyond
  lost-fits = rows-most d readable p is_empty

  foreseen-at-fits : (v : ℕ) → foreseen_at d p v ≤ most_weight
  unfolding foreseen_at unit_weight
  foreseen-at-fits v =
      omega (arith, min-le_left (unit_weight d p (positive_unit v)) (unit_weight d p (negative_unit v)), rows-most d readable p (same_lits (positive_unit v)))

-- what a variable adds
abbrev pub adds_at : List ℕ → Part → ℕ → ℕ
adds_at d p v = cond (has p.decided v) 0 (foreseen_at d p v)

module _ (d : List ℕ) (readable : Readable d) (p : Part) where
  by_fits : (v : ℕ) → adds_at d p v ≤ most_weight
  by_fits v =
      cond-elim (λ (x : ℕ). x ≤ most_weight) (has p.decided v) 0 (foreseen_at d p v) (λ t. omega arith) (λ t. foreseen-at-fits d readable p v)

  -- the first n variables
  upto-fits : (n : ℕ) → n ≤ 64 → sum n (adds_at d p) ≤ 64 * most_weight
  upto-fits n h = omega (arith, sum_bound n most_weight {f = adds_at d p} (λ v l. by_fits v))

  -- the variables passed, and the next
  pub foreseen-next : (v : ℕ) → v < 64 → sum v (adds_at d p) + adds_at d p v ≤ 64 * most_weight
  foreseen-next v h = omega (arith, sum_more v (adds_at d p), upto-fits (v + 1) (omega arith))

  pub foreseen-fits : foreseen d p ≤ 64 * most_weight
  unfolding foreseen
  foreseen-fits = upto-fits (variables d) readable.bits
