-- No sum of the bound by groups wraps, whatever the rows and the partial reading are: a row is lost or has a working weight, and what a group costs
-- is taken from at least one row.
use Prim.Native.Nat.{ℕ, zero, suc, ◌+◌, ◌≤◌, min}
use mathlib.Core.Path.{◌≡◌, ◌∙◌}
use mathlib.Core.Bool.{Bool, true, false, cond, not, ◌&&◌}
use mathlib.Core.List.{List}
use native.Mathlib.Omega.{arith}
use lib.ListN.{length}
use Rattle.masks.specs.Sums.{sum}
use Rattle.masks.proofs.Sums.{sum-add, sum-le}
use Rattle.literals.specs.declared.Lits.{Lits}
use Rattle.literals.specs.Lits.{is_empty}
use Rattle.rules.specs.declared.Part.{Part}
use Rattle.rules.specs.declared.Row.{Row}
use Rattle.rules.specs.Table.{most_weight}
use Rattle.rules.specs.Desk.{variables, in_use, conceded, row_on, weight_on, satisfied, remnant}
use Rattle.rules.specs.Bound.{weight_where, lost_beyond, lost}
use Rattle.rules.specs.Groups.{Weights, hunts, working_weight, hunts_on, groups_cost, groups_bound}
use Rattle.group_laws.proofs.Costs.{taken-le, taken_in, sum_drop, group_at, after, tallied-by, costed}
use Rattle.desk_laws.specs.Readable.{Readable}
use Rattle.working_weights.specs.Works.{Works}
use Rattle.looking.specs.Looks.{lits_on}
use Rattle.hunts.specs.Hunts.{Lying}
use Rattle.groups.specs.Foresees.{Begun}

module _ (lits : ℕ → Lits) (rows names : ℕ) (p : Part) where
  hunts-fit : (W : Weights) (k : ℕ) → (hunts lits rows names p W k).costs + sum rows (hunts lits rows names p W k).weights ≤ sum rows W
  unfolding hunts
  hunts-fit W zero = omega arith
  hunts-fit W (suc k) =
      let t = hunts lits rows names p W k in
      let g = group_at lits rows names p t in
      tallied-by lits rows names p (λ s. s.costs + sum rows s.weights ≤ sum rows W) t
      (λ f. hunts-fit W k)
      (λ f.
      let c = costed lits rows names p t f in
      let j = c.attained.0 in
      let m = c.attained.1 in
      let drop : sum rows (after lits rows names p t).weights + g.cost ≤ sum rows t.weights =
      sum_drop rows j g.cost (c.used j m) (λ i l. taken-le g.cost g.rows t.weights i)
      (omega (arith, c.least j m, taken_in g.cost g.rows t.weights j m)) in
      omega (arith, hunts-fit W k))

row_apart : (p : Part) (row : Row) → weight_where is_empty p row + weight_where (λ l. not (is_empty l)) p row ≤ row.weight
unfolding weight_where
row_apart p row = go (satisfied p row.lits) (is_empty (remnant p row.lits))
  where
    go : (s e : Bool) → cond (not s && e) row.weight 0 + cond (not s && not e) row.weight 0 ≤ row.weight
    go true e = omega arith
    go false true = omega arith
    go false false = omega arith

pub groups-fit : (d : List ℕ) → Readable d → (p : Part) → conceded d + lost_beyond d p + groups_cost d p ≤ most_weight
unfolding weight_on lost_beyond groups_cost hunts_on working_weight
groups-fit d readable p =
    let empties : ℕ → ℕ = λ i. weight_where is_empty p (row_on d i) in
    let works : ℕ → ℕ = λ i. weight_where (λ l. not (is_empty l)) p (row_on d i) in
    let rows : sum (in_use d) (λ i. empties i + works i) ≤ sum (in_use d) (λ i. (row_on d i).weight) =
    sum-le (in_use d) (λ i l. row_apart p (row_on d i)) in
    omega (arith, readable.weights, sum-add (in_use d) empties works, hunts-fit (lits_on d) (in_use d) (variables d) p works (in_use d))

-- ---- what the hunts are given, once the rows are weighed

module _ (d : List ℕ) (readable : Readable d) (p : Part) (before words : List ℕ) (works : Works d p (in_use d) before words) where
  pub lying : in_use d ≤ length before → Lying d words
  lying l = record { rows = readable.rows; weights = omega (arith, works.kept) }

  pub begun : (start : ℕ) → start ≤ conceded d + lost_beyond d p → Begun d p start words
  begun start l = record { weights = works.each; fits = omega (arith, groups-fit d readable p) }

-- what they come to, on top of what is certain
pub certain-first : (d : List ℕ) (p : Part) (best conceding losing r : ℕ) → conceding ≡ conceded d → losing ≡ lost_beyond d p
    → min best r ≡ min best (conceding + losing + groups_cost d p) → min best r ≡ min best (groups_bound d p)
unfolding groups_bound lost
certain-first d p best conceding losing r a b e = e ∙ rw (a, b)
