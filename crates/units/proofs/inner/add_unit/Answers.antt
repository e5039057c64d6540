-- `add_unit` meets its contract: the place is that of the literal, within the sums, and its sum has room for the weight.
use Prim.Native.Nat.{ℕ, ◌+◌, ◌<◌}
use mathlib.Core.Path.{sym, subst}
use native.Mathlib.Omega.{arith}
use lib.ListN.{get_or, set}
use Rattle.units.specs.Adds.{sum_words, place_of, place_adds, Grown}
use Rattle.units.proofs.Places.{added-at}
use Rattle.units.proofs.inner.add_unit.Goals as goal

pub overflow_add-sum : goal.overflow_add-sum
overflow_add-sum c =
    let within : c.place-k.result < sum_words = omega (arith, c.place-k.ensures, c.requires.rest_bound) in
    omega (arith, c.requires.roomy.fits _ within)

pub returns : goal.returns
returns c =
    let at = place_of c.args.rest in
    subst (λ (k : ℕ). Grown (place_adds at c.args.w) c.args.sums.now (set c.args.sums.now k (get_or c.args.sums.now k 0 + c.args.w)))
    (sym c.place-k.ensures)
    (added-at at c.args.w c.args.sums.now c.requires.roomy.words c.requires.rest_bound)
