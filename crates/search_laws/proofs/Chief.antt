-- What the walk finds, in words of weights and hard rows.
use Prim.Native.Nat.{ℕ, ◌≤◌, ◌<◌}
use mathlib.Core.Path.{◌≡◌, ◌∙◌}
use mathlib.Core.List.{List}
use mathlib.Core.Bool.{Bool, true}
use native.Mathlib.Omega.{arith}
use Rattle.masks.proofs.Choice.{not_so}
use Rattle.rules.specs.Table.{most_weight}
use Rattle.rules.specs.Desk.{keeps, weight_on}
use Rattle.walk_laws.specs.Hard.{comes_to}
use Rattle.walk_laws.specs.Right.{Foremost}
use Rattle.walk_laws.proofs.Bounds.{weighs-most}
use Rattle.walk_laws.proofs.Hard.{held, holding}
use Rattle.search_laws.specs.Chief.{Chief, NoneHolds}

pub chief : (first : ℕ → Bool) (d : List ℕ) {reading best : ℕ} → best ≤ most_weight → Foremost (comes_to d) first d reading best → Chief first d reading best
chief first d {reading} {best} low f =
    let h = held d reading (omega (arith, f.weighs)) in
    record {
      keeps_all = f.keeps_all;
      holds_all = h.0;
      weighs = h.1 ∙ f.weighs;
      least = λ other k e. omega (arith, f.least other k, holding d other e);
      first_of = λ other k e w. f.first_of other k (holding d other e ∙ w);
    }

pub none-holds : (d : List ℕ) → ((reading : ℕ) → keeps d reading ≡ true → weight_on d < comes_to d reading) → NoneHolds d
none-holds d above reading k = not_so (λ e. omega (arith, above reading k, holding d reading e, weighs-most d reading))
