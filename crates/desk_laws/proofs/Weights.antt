-- Conceded plus what the rows in use add, each its weight so many times as a measure of its literals says.
-- With the measure 1 this is the weight on the desk, and with 1 for what a reading misses, else 0, it is what that reading weighs.
-- So one law of sums serves both.
use Prim.Native.Nat.{ℕ, ◌+◌, ◌*◌, ◌<◌}
use mathlib.Core.Path.{◌≡◌, sym, ap, ap₂, ◌∙◌}
use mathlib.Core.Bool.{Bool, true, false, cond}
use mathlib.Core.List.{List}
use native.Mathlib.Nat.{zero-mul, one-mul}
use Rattle.masks.specs.Sums.{sum}
use Rattle.masks.proofs.Sums.{sum-ext}
use Rattle.literals.specs.declared.Lits.{Lits}
use Rattle.rules.specs.declared.Row.{Row}
use Rattle.rules.specs.Table.{holds, given_up}
use Rattle.rules.specs.Desk.{in_use, conceded, row_on, weight_on, desk_weighs}

-- 1 where the reading satisfies none of the literals
unfoldable pub missed : ℕ → Lits → ℕ
missed reading l = cond (holds l reading) 0 1

unfoldable pub share : (Lits → ℕ) → Row → ℕ
share m row = m row.lits * row.weight

unfoldable pub measured : (Lits → ℕ) → List ℕ → ℕ
measured m d = conceded d + sum (in_use d) (λ i. share m (row_on d i))

pub weight-measured : (d : List ℕ) → weight_on d ≡ measured (λ l. 1) d
unfolding weight_on measured share
weight-measured d = ap (λ (x : ℕ). conceded d + x) (sum-ext (in_use d) (λ i h. sym (one-mul (row_on d i).weight)))

pub weighs-measured : (d : List ℕ) (reading : ℕ) → desk_weighs d reading ≡ measured (missed reading) d
unfolding desk_weighs measured share missed given_up
weighs-measured d reading =
    ap (λ (x : ℕ). conceded d + x) (sum-ext (in_use d) (λ i h. go (holds (row_on d i).lits reading) (row_on d i).weight))
  where
    go : (b : Bool) (w : ℕ) → cond b 0 w ≡ cond b 0 1 * w
    go true w = sym (zero-mul w)
    go false w = sym (one-mul w)

pub measured-same : (m : Lits → ℕ) (d e : List ℕ) → conceded e ≡ conceded d → in_use e ≡ in_use d → ((i : ℕ) → i < in_use d → row_on e i ≡ row_on d i)
    → measured m e ≡ measured m d
unfolding measured
measured-same m d e c u h =
    ap₂ (λ (x y : ℕ). x + y) c (ap (λ (n : ℕ). sum n (λ i. share m (row_on e i))) u ∙ sum-ext (in_use d) (λ i l. ap (share m) (h i l)))
