use Prim.Native.Nat.{◌+◌, ◌*◌, ◌-◌, ◌%◌}
use mathlib.Core.Path.{◌≡◌, sym, ap, ◌∙◌}
use native.Mathlib.Omega.{arith}
use Rattle.masks.proofs.Sums.{sum-empty}
use Rattle.rules.specs.Desk.{in_use}
use Rattle.desk_laws.specs.Charged.{lost_charged}
use Rattle.bound.proofs.Gathering.{gathered-at}
use Rattle.bound.proofs.inner.gather.Goals as goal

pub loop-turn-init : goal.loop-turn-init
loop-turn-init c = (sym (sum-empty _), c.requires.gathered)

pub gather_next-lost-requires : goal.gather_next-lost-requires
gather_next-lost-requires c =
    record {
      fair = c.requires.fair;
      count_bound = omega (arith, c.in_use-n.ensures);
      base_value = c.loop-turn.invariant.0;
      gathered = c.loop-turn.invariant.1;
    }

pub loop-turn-preserved : goal.loop-turn-preserved
loop-turn-preserved c =
    let e : 4 * c.loop-turn.turn + 4 ≡ 4 * (c.loop-turn.turn + 1) = omega arith in (
      c.gather_next-lost.ensures.value ∙ ap (lost_charged c.args.charge c.args.desk.words.now c.args.p) e,
      gathered-at c.args.desk.words.now c.args.p e c.gather_next-lost.ensures.gathered_2,
    )

pub gather_next-requires : goal.gather_next-requires
gather_next-requires c =
    let e : 4 * c.loop-turn.turn ≡ c.in_use-n.result - c.in_use-n.result % 4 = omega arith in
    record {
      fair = c.requires.fair;
      count_bound = omega (arith, c.in_use-n.ensures);
      base_value = c.loop-turn.invariant.0 ∙ ap (lost_charged c.args.charge c.args.desk.words.now c.args.p) e;
      gathered = gathered-at c.args.desk.words.now c.args.p e c.loop-turn.invariant.1;
    }

pub returns : goal.returns
returns c =
    let n = c.in_use-n.result in
    let end = n - n % 4 + n % 4 in
    let e : end ≡ in_use c.args.desk.words.now = omega (arith, c.in_use-n.ensures) in
    let lost = lost_charged c.args.charge c.args.desk.words.now c.args.p in
    record {
      value = ◌∙◌ {b = lost end} c.gather_next.ensures.value (ap lost e);
      gathered_2 = gathered-at c.args.desk.words.now c.args.p e c.gather_next.ensures.gathered_2;
    }
