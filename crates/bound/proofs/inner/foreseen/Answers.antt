use Prim.Native.Nat.{ℕ}
use mathlib.Core.Path.{◌≡◌, sym, ◌∙◌, ap}
use native.Mathlib.Omega.{arith}
use Rattle.masks.specs.Sums.{sum}
use Rattle.masks.proofs.Sums.{sum-empty, sum_more}
use Rattle.rules.specs.Desk.{variables}
use Rattle.rules.specs.Bound.{foreseen}
use Rattle.bound.proofs.Fits.{adds_at, foreseen-next}
use Rattle.bound.proofs.Gathering.{gathered-by}
use Rattle.bound.proofs.inner.foreseen.Goals as goal

pub loop-v-init : goal.loop-v-init
loop-v-init c = sym (sum-empty _)

pub smaller_at-sum-requires : goal.smaller_at-sum-requires
smaller_at-sum-requires c = (omega (arith, c.args.desk.readable.bits, c.variables-n.ensures), c.requires.words)

pub overflow_add-sum : goal.overflow_add-sum
overflow_add-sum c =
    let added : c.smaller_at-sum.result ≡ adds_at c.args.desk.words.now c.args.p c.loop-v.v = c.smaller_at-sum.ensures
    ∙ gathered-by c.args.desk.words.now c.args.p c.args.sums.now c.requires c.loop-v.v
    (omega (arith, c.args.desk.readable.bits, c.variables-n.ensures)) in
    omega (
      arith,
      added,
      foreseen-next c.args.desk.words.now c.args.desk.readable c.args.p c.loop-v.v
          (omega (arith, c.args.desk.readable.bits, c.variables-n.ensures)),
    )

pub loop-v-preserved : goal.loop-v-preserved
loop-v-preserved c =
    let added : c.smaller_at-sum.result ≡ adds_at c.args.desk.words.now c.args.p c.loop-v.v = c.smaller_at-sum.ensures
    ∙ gathered-by c.args.desk.words.now c.args.p c.args.sums.now c.requires c.loop-v.v
    (omega (arith, c.args.desk.readable.bits, c.variables-n.ensures)) in
    omega (arith, added, sum_more c.loop-v.v (adds_at c.args.desk.words.now c.args.p))

pub returns : goal.returns
unfolding foreseen
returns c =
    let e : c.loop-v.v ≡ variables c.args.desk.words.now = omega (arith, c.variables-n.ensures) in
    c.loop-v.invariant ∙ ap (λ (k : ℕ). sum k (adds_at c.args.desk.words.now c.args.p)) e
