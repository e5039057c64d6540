-- `price_up_to` meets its contract: what is lost tells whether the node is dead; else the hunts begin with what is certain.
use mathlib.Core.Path.{◌≡◌}
use native.Mathlib.Omega.{arith}
use Rattle.rules.specs.Bound.{lost_beyond}
use Rattle.desk_laws.proofs.Charged.{dead-so, alive-so, alive-lost}
use Rattle.groups.proofs.Fits.{groups-fit, lying, begun, certain-first}
use Rattle.groups.proofs.inner.price_up_to.Goals as goal

pub weigh-lost-requires : goal.weigh-lost-requires
weigh-lost-requires c =
    record {
      fair = omega arith;
      desk_in_bounds = c.requires;
    }

pub returns-then-lost-ge-DEAD : goal.returns-then-lost-ge-DEAD
returns-then-lost-ge-DEAD c = rw (dead-so c.args.desk.words.now c.args.p c.args.desk.readable c.weigh-lost.ensures.value c.if-lost-ge-DEAD.true)

pub overflow_add-certain : goal.overflow_add-certain
overflow_add-certain c =
    let only-weights : c.weigh-lost.result ≡ lost_beyond c.args.desk.words.now c.args.p = alive-lost c.args.desk.words.now c.args.p c.args.desk.readable c.weigh-lost.ensures.value (omega (arith, c.if-lost-ge-DEAD.false)) in
    omega (arith, c.conceded-conceded.ensures, only-weights, groups-fit c.args.desk.words.now c.args.desk.readable c.args.p)

pub foreseen_up_to-requires : goal.foreseen_up_to-requires
foreseen_up_to-requires c =
    let only-weights : c.weigh-lost.result ≡ lost_beyond c.args.desk.words.now c.args.p = alive-lost c.args.desk.words.now c.args.p c.args.desk.readable c.weigh-lost.ensures.value (omega (arith, c.if-lost-ge-DEAD.false)) in
    record {
      lying = lying c.args.desk.words.now c.args.desk.readable c.args.p _ _ c.weigh-lost.ensures.works c.requires;
      begun = begun c.args.desk.words.now c.args.desk.readable c.args.p _ _ c.weigh-lost.ensures.works _ (omega (arith, c.conceded-conceded.ensures, only-weights));
    }

pub returns : goal.returns
returns c =
    let only-weights : c.weigh-lost.result ≡ lost_beyond c.args.desk.words.now c.args.p = alive-lost c.args.desk.words.now c.args.p c.args.desk.readable c.weigh-lost.ensures.value (omega (arith, c.if-lost-ge-DEAD.false)) in
    let alive = alive-so c.args.desk.words.now c.args.p c.args.desk.readable c.weigh-lost.ensures.value (omega (arith, c.if-lost-ge-DEAD.false)) in
    rw alive
    (certain-first c.args.desk.words.now c.args.p c.args.best _ _ _ c.conceded-conceded.ensures only-weights c.foreseen_up_to.ensures)
