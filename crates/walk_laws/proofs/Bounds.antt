-- The bound of document 01 is at most what every reading that extends the decisions weighs, and is that weight where all is decided.
-- Of each variable's two sums one is of rows that the reading misses, and the smaller is no more than that one. Summed by rows, not by
-- variables, each row is counted once at most (`row-once`). Where all is decided no remnant is left, and nothing is foreseen.
use Prim.Native.Nat.{ℕ, ◌+◌, ◌≤◌, ◌<◌, min}
use mathlib.Core.Path.{◌≡◌, refl, sym, ap}
use mathlib.Core.List.{List}
use mathlib.Core.Bool.{Bool, true, false, cond, not, ◌&&◌, ◌||◌}
use native.Mathlib.Nat.{min-le_left, min-le_right}
use native.Mathlib.Omega.{arith}
use Rattle.masks.specs.Masks.{has}
use Rattle.masks.specs.Sums.{sum}
use Rattle.masks.proofs.Sums.{sum-zero, sum-ext, sum-add, sum-le, sum-swap}
use Rattle.masks.proofs.Bits.{has-lt}
use Rattle.masks.proofs.Sets.{within_of}
use Rattle.literals.specs.declared.Lits.{Lits}
use Rattle.literals.specs.Lits.{is_empty, same_lits}
use Rattle.literals.proofs.TwoMasks.{masks-empty}
use Rattle.rules.specs.declared.Part.{Part}
use Rattle.rules.specs.Table.{holds, given_up}
use Rattle.rules.specs.Desk.{variables, in_use, conceded, row_on, satisfied, remnant, desk_weighs, weight_on}
use Rattle.rules.specs.Bound.{weight_where, lost_beyond, lost, unit_weight, foreseen_at, foreseen, bound}
use Rattle.desk_laws.proofs.Formed.{Sound}
use Rattle.walk_laws.specs.Sound.{Extends}
use Rattle.walk_laws.proofs.Remnants.{unit, missed_at, holds-split, holds-empty, empty-missed, row-once}

-- ---- lost

module _ (d : List ℕ) (p : Part) (reading : ℕ) (extends : Extends p reading) where
  pub lost-below : lost d p ≤ desk_weighs d reading
  unfolding lost lost_beyond desk_weighs
  lost-below =
      omega (
        arith,
        sum-le (in_use d) {f = λ i. weight_where is_empty p (row_on d i)} {g = λ i. given_up (row_on d i) reading}
            (λ i l. empty-missed p (row_on d i) reading extends),
      )

  -- ---- foreseen

  -- of the two sums of a variable the smaller is no more than that of the literal which the reading makes false
  foreseen-at : (v : ℕ) → foreseen_at d p v ≤ unit_weight d p (missed_at reading v)
  unfolding foreseen_at
  foreseen-at v = go (has reading v)
    where
      go : (t : Bool) → min (unit_weight d p (unit v true)) (unit_weight d p (unit v false)) ≤ unit_weight d p (unit v (not t))
      go true = min-le_right (unit_weight d p (unit v true)) (unit_weight d p (unit v false))
      go false = min-le_left (unit_weight d p (unit v true)) (unit_weight d p (unit v false))

  -- summed by rows
  foreseen-rows : foreseen d p ≤ sum (in_use d)
      (λ i. sum (variables d) (λ v. cond (has p.decided v) 0 (weight_where (same_lits (missed_at reading v)) p (row_on d i))))
  unfolding foreseen unit_weight
  foreseen-rows =
      rw (sym (sum-swap (variables d) (in_use d) (λ v i. cond (has p.decided v) 0 (weight_where (same_lits (missed_at reading v)) p (row_on d i)))))
      (sum-le (variables d) (λ v l. go v (has p.decided v) (foreseen-at v)))
    where
      go : (v : ℕ) (t : Bool) → foreseen_at d p v ≤ sum (in_use d) (λ i. weight_where (same_lits (missed_at reading v)) p (row_on d i))
          → cond t 0 (foreseen_at d p v) ≤ sum (in_use d) (λ i. cond t 0 (weight_where (same_lits (missed_at reading v)) p (row_on d i)))
      go v true h = omega arith
      go v false h = h

  pub bound-below : variables d ≤ 64 → bound d p ≤ desk_weighs d reading
  unfolding bound lost lost_beyond desk_weighs
  bound-below fits =
      let units : ℕ → ℕ = λ i. sum (variables d) (λ v. cond (has p.decided v) 0 (weight_where (same_lits (missed_at reading v)) p (row_on d i))) in
      let empties : ℕ → ℕ = λ i. weight_where is_empty p (row_on d i) in
      let rows : sum (in_use d) (λ i. empties i + units i) ≤ sum (in_use d) (λ i. given_up (row_on d i) reading) =
      sum-le (in_use d) (λ i l. row-once (variables d) fits p (row_on d i) reading extends) in
      omega (arith, foreseen-rows, sum-add (in_use d) empties units)

-- ---- where all is decided

module _ (d : List ℕ) (p : Part) (sound : (i : ℕ) → i < in_use d → Sound (variables d) (row_on d i).lits) (extends : Extends p p.truths)
    (all : (v : ℕ) → v < variables d → has p.decided v ≡ true) where
  -- no row has a remnant
  pub no-remnant : (i : ℕ) → i < in_use d → is_empty (remnant p (row_on d i).lits) ≡ true
  unfolding remnant
  no-remnant i l =
      let lits : Lits = (row_on d i).lits in
      masks-empty (remnant p lits)
      (within_of lits.positive p.decided (λ v m. all v (has-lt (variables d) (sound i l).positives m)))
      (within_of lits.negative p.decided (λ v m. all v (has-lt (variables d) (sound i l).negatives m)))

  pub lost-at-leaf : lost d p ≡ desk_weighs d p.truths
  unfolding lost lost_beyond desk_weighs weight_where given_up
  lost-at-leaf =
      ap (λ (x : ℕ). conceded d + x) (sum-ext (in_use d) (λ i l.
      let lits : Lits = (row_on d i).lits in
      rw (no-remnant i l, holds-split p p.truths lits extends, holds-empty (remnant p lits) p.truths (no-remnant i l))
      (go (satisfied p lits) (row_on d i).weight)))
    where
      go : (s : Bool) (w : ℕ) → cond (not s && true) w 0 ≡ cond (s || false) 0 w
      go true w = refl
      go false w = refl

  pub foreseen-at-leaf : foreseen d p ≡ 0
  unfolding foreseen
  foreseen-at-leaf = sum-zero (variables d) (λ v l. rw (all v l))

  pub bound-at-leaf : bound d p ≡ desk_weighs d p.truths
  unfolding bound
  bound-at-leaf = omega (arith, lost-at-leaf, foreseen-at-leaf)

-- ---- no reading weighs more than all there is

pub weighs-most : (d : List ℕ) (reading : ℕ) → desk_weighs d reading ≤ weight_on d
unfolding desk_weighs weight_on given_up
weighs-most d reading =
    omega (
      arith,
      sum-le (in_use d) {f = λ i. given_up (row_on d i) reading} {g = λ i. (row_on d i).weight}
          (λ i l. go (holds (row_on d i).lits reading) (row_on d i).weight),
    )
  where
    go : (b : Bool) (w : ℕ) → cond b 0 w ≤ w
    go true w = omega arith
    go false w = omega arith
