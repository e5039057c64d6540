use Prim.Native.Nat.{◌<◌, min}
use mathlib.Core.Path.{refl, ap, ◌∙◌}
use native.Mathlib.Omega.{arith}
use Rattle.rules.specs.Desk.{in_use}
use Rattle.groups.proofs.Counting.{count_none, count-more, count_fits, count-last, count-reached, count-all}
use Rattle.groups.proofs.Found.{room-kept}
use Rattle.groups.proofs.inner.hunts_up_to.Goals as goal

pub loop-init : goal.loop-init
loop-init c = (refl, refl, refl, refl, count_none c.args.desk.now c.args.p c.args.start c.args.weights.now c.requires.begun)

pub shape_of-weights-then-sum-best : goal.shape_of-weights-then-sum-best
shape_of-weights-then-sum-best c = c.loop.invariant.0

pub shape_of-masks-then-sum-best : goal.shape_of-masks-then-sum-best
shape_of-masks-then-sum-best c = c.loop.invariant.1

pub shape_of-rows-then-sum-best : goal.shape_of-rows-then-sum-best
shape_of-rows-then-sum-best c = c.loop.invariant.2

pub shape_of-group-then-sum-best : goal.shape_of-group-then-sum-best
shape_of-group-then-sum-best c = c.loop.invariant.3

pub returns-then-sum-best : goal.returns-then-sum-best
returns-then-sum-best c = count-reached _ _ _ c.loop.invariant.4 _ c.if-sum-best.true

pub hunt_once-cost-requires : goal.hunt_once-cost-requires
hunt_once-cost-requires c = room-kept _ _ _ _ _ _ _ _ _ c.requires.room c.loop.invariant.0 c.loop.invariant.1 c.loop.invariant.2 c.loop.invariant.3

pub shape_of-weights-then-cost-eq0 : goal.shape_of-weights-then-cost-eq0
shape_of-weights-then-cost-eq0 c =
    c.hunt_once-cost.auto.weights
    ∙ c.loop.invariant.0

pub shape_of-masks-then-cost-eq0 : goal.shape_of-masks-then-cost-eq0
shape_of-masks-then-cost-eq0 c =
    c.hunt_once-cost.auto.masks
    ∙ c.loop.invariant.1

pub shape_of-rows-then-cost-eq0 : goal.shape_of-rows-then-cost-eq0
shape_of-rows-then-cost-eq0 c =
    c.hunt_once-cost.auto.rows
    ∙ c.loop.invariant.2

pub shape_of-group-then-cost-eq0 : goal.shape_of-group-then-cost-eq0
shape_of-group-then-cost-eq0 c =
    c.hunt_once-cost.auto.group
    ∙ c.loop.invariant.3

pub returns-then-cost-eq0 : goal.returns-then-cost-eq0
returns-then-cost-eq0 c =
    let less : c.loop.counter < in_use c.args.desk.now = omega (arith, c.word-n.ensures) in
    ap (min c.args.best) (count-last _ _ _ c.loop.invariant.4 less _ _ c.hunt_once-cost.ensures c.if-cost-eq0.true)

pub overflow_add-sum : goal.overflow_add-sum
overflow_add-sum c =
    let less : c.loop.counter < in_use c.args.desk.now = omega (arith, c.word-n.ensures) in
    omega (arith, count_fits _ _ _ c.loop.invariant.4 less _ _ c.hunt_once-cost.ensures c.requires.begun.fits)

pub loop-preserved : goal.loop-preserved
loop-preserved c =
    let less : c.loop.counter < in_use c.args.desk.now = omega (arith, c.word-n.ensures) in (
      c.hunt_once-cost.auto.weights ∙ c.loop.invariant.0,
      c.hunt_once-cost.auto.masks ∙ c.loop.invariant.1,
      c.hunt_once-cost.auto.rows ∙ c.loop.invariant.2,
      c.hunt_once-cost.auto.group ∙ c.loop.invariant.3,
      count-more _ _ _ c.loop.invariant.4 less _ _ c.hunt_once-cost.ensures,
    )

pub shape_of-weights : goal.shape_of-weights
shape_of-weights c = c.loop.invariant.0

pub shape_of-masks : goal.shape_of-masks
shape_of-masks c = c.loop.invariant.1

pub shape_of-rows : goal.shape_of-rows
shape_of-rows c = c.loop.invariant.2

pub shape_of-group : goal.shape_of-group
shape_of-group c = c.loop.invariant.3

pub returns : goal.returns
returns c =
    ap (min c.args.best)
    (count-all _ _ _ c.loop.invariant.4 (omega (arith, c.word-n.ensures)))
