-- Bound and walk read a desk's head and its rows in use: of desks alike in these they are the same.
use Prim.Native.Nat.{ℕ, ◌+◌, min}
use mathlib.Core.Path.{◌≡◌, ap, ap₂, ◌∙◌}
use mathlib.Core.List.{List}
use mathlib.Core.Bool.{Bool, false, cond, not}
use native.Mathlib.Omega.{arith}
use Rattle.masks.specs.Masks.{has}
use Rattle.masks.specs.Sums.{sum, every}
use Rattle.masks.proofs.Sums.{sum-ext, every-ext}
use Rattle.literals.specs.Lits.{is_empty, same_lits}
use Rattle.rules.specs.declared.Choice.{Choice}
use Rattle.rules.specs.declared.Part.{Part}
use Rattle.rules.specs.declared.Row.{Row}
use Rattle.rules.specs.Table.{most_weight}
use Rattle.rules.specs.Desk.{variables, in_use, decided, row_on, decisions}
use Rattle.rules.specs.Bound.{weight_where, lost_beyond, lost, unit_weight, foreseen_at, foreseen, bound, losses_at, lost_hard, dead}
use Rattle.rules.specs.Walk.{walk, undecided, at_start, walk_of, price_of, tried_first, walk_in}
use Rattle.desk_laws.proofs.Alike.{Alike, weight-alike, decisions-alike}

module _ {d e : List ℕ} (alike : Alike d e) where
  -- any sum over the rows in use
  rows_alike : (f : Row → ℕ) → sum (in_use e) (λ i. f (row_on e i)) ≡ sum (in_use d) (λ i. f (row_on d i))
  rows_alike f =
      ap (λ (n : ℕ). sum n (λ i. f (row_on e i))) (alike.heads 1 (omega arith)) ∙ sum-ext (in_use d) (λ i l. ap f (alike.rows i l))

  foreseen-at-alike : (p : Part) (v : ℕ) → foreseen_at e p v ≡ foreseen_at d p v
  unfolding foreseen_at unit_weight
  foreseen-at-alike p v = ap₂ min (rows_alike (weight_where (same_lits _) p)) (rows_alike (weight_where (same_lits _) p))

  foreseen-alike : (p : Part) → foreseen e p ≡ foreseen d p
  unfolding foreseen
  foreseen-alike p =
      ap (λ (n : ℕ). sum n (λ v. cond (has p.decided v) 0 (foreseen_at e p v))) (alike.heads 0 (omega arith))
      ∙ sum-ext (variables d) (λ v l. ap (λ (x : ℕ). cond (has p.decided v) 0 x) (foreseen-at-alike p v))

  pub beyond-alike : (p : Part) → lost_beyond e p ≡ lost_beyond d p
  unfolding lost_beyond
  beyond-alike p = rows_alike (weight_where is_empty p)

  pub lost-alike : (p : Part) → lost e p ≡ lost d p
  unfolding lost
  lost-alike p = ap₂ (λ (x y : ℕ). x + y) (alike.heads 4 (omega arith)) (beyond-alike p)

  pub bound-alike : (p : Part) → bound e p ≡ bound d p
  unfolding bound
  bound-alike p = ap₂ (λ (x y : ℕ). x + y) (lost-alike p) (foreseen-alike p)

  pub losses-alike : losses_at e (decisions e) ≡ losses_at d (decisions d)
  unfolding losses_at
  losses-alike =
      let p = decisions d in
      ap (losses_at e) (decisions-alike alike)
      ∙ (λ t. record { conceded = alike.heads 4 (omega arith) t; lost = beyond-alike p t; foreseen = foreseen-alike p t })

  -- bounds that agree, any value tried first
  pub walks-alike : (b c : Part → ℕ) (first : ℕ → Bool) (budget : ℕ) → ((p : Part) → b p ≡ c p) → walk_of b first e budget ≡ walk_of c first d budget
  unfolding walk_of at_start
  walks-alike b c first budget h =
      λ t. walk (λ p. h p t) first budget (undecided (alike.heads 0 (omega arith) t) (alike.heads 5 (omega arith) t)) (decisions-alike alike t)
      (record {
        nodes = 0;
        best = weight-alike alike t + 1;
        kept = false;
        reading = 0;
        stopped = false;
      })

  pub dead-alike : (p : Part) → dead e p ≡ dead d p
  unfolding dead
  dead-alike p =
      ap not (ap (λ (n : ℕ). every n (λ i. not (lost_hard p (row_on e i)))) (alike.heads 1 (omega arith))
      ∙ every-ext (in_use d) (λ i l. ap (λ (r : Row). not (lost_hard p r)) (alike.rows i l)))

  -- prices by bounds that agree
  pub prices-alike : (b c : Part → ℕ) → ((p : Part) → b p ≡ c p) → (p : Part)
      → cond (dead e p) (most_weight + 1) (b p) ≡ cond (dead d p) (most_weight + 1) (c p)
  prices-alike b c h p = ap₂ (λ (t : Bool) (x : ℕ). cond t (most_weight + 1) x) (dead-alike p) (h p)

  -- by the bound of document 01
  pub walk-alike : (budget : ℕ) → walk_in e Choice.Units budget ≡ walk_in d Choice.Units budget
  walk-alike budget = walks-alike (price_of Choice.Units e) (price_of Choice.Units d) tried_first budget (prices-alike (bound e) (bound d) bound-alike)
