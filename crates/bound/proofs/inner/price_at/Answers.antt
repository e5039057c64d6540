-- `price_at` meets its contract: what is lost tells whether the node is dead; else the three parts, which fit, come to the bound.
use mathlib.Core.Path.{◌≡◌}
use native.Mathlib.Omega.{arith}
use Rattle.rules.specs.Bound.{lost_beyond, lost, bound}
use Rattle.desk_laws.proofs.Charged.{dead-so, alive-so, alive-lost}
use Rattle.bound.proofs.Fits.{lost-fits, foreseen-fits}
use Rattle.bound.proofs.Gathering.{none-gathered}
use Rattle.bound.proofs.inner.price_at.Goals as goal

pub gather-lost-requires : goal.gather-lost-requires
gather-lost-requires c =
    record {
      fair = omega arith;
      gathered = none-gathered c.args.desk.words.now c.args.p;
    }

pub returns-then-lost-ge-DEAD : goal.returns-then-lost-ge-DEAD
returns-then-lost-ge-DEAD c = rw (dead-so c.args.desk.words.now c.args.p c.args.desk.readable c.gather-lost.ensures.value c.if-lost-ge-DEAD.true)

pub foreseen-foreseen-requires : goal.foreseen-foreseen-requires
foreseen-foreseen-requires c = c.gather-lost.ensures.gathered_2

pub overflow_add-result : goal.overflow_add-result
overflow_add-result c =
    let only-weights : c.gather-lost.result ≡ lost_beyond c.args.desk.words.now c.args.p = alive-lost c.args.desk.words.now c.args.p c.args.desk.readable c.gather-lost.ensures.value (omega (arith, c.if-lost-ge-DEAD.false)) in
    omega (arith, lost-fits c.args.desk.words.now c.args.desk.readable c.args.p, c.conceded-conceded.ensures, only-weights)

pub overflow_add-result-2 : goal.overflow_add-result-2
overflow_add-result-2 c =
    let only-weights : c.gather-lost.result ≡ lost_beyond c.args.desk.words.now c.args.p = alive-lost c.args.desk.words.now c.args.p c.args.desk.readable c.gather-lost.ensures.value (omega (arith, c.if-lost-ge-DEAD.false)) in
    let lost = lost-fits c.args.desk.words.now c.args.desk.readable c.args.p in
    let foreseen = foreseen-fits c.args.desk.words.now c.args.desk.readable c.args.p in
    omega (arith, lost, foreseen, c.conceded-conceded.ensures, only-weights, c.foreseen-foreseen.ensures)

pub returns : goal.returns
unfolding bound lost
returns c =
    let only-weights : c.gather-lost.result ≡ lost_beyond c.args.desk.words.now c.args.p = alive-lost c.args.desk.words.now c.args.p c.args.desk.readable c.gather-lost.ensures.value (omega (arith, c.if-lost-ge-DEAD.false)) in
    let alive = alive-so c.args.desk.words.now c.args.p c.args.desk.readable c.gather-lost.ensures.value (omega (arith, c.if-lost-ge-DEAD.false)) in
    rw alive (omega (arith, c.conceded-conceded.ensures, only-weights, c.foreseen-foreseen.ensures))
