-- `losses_at` meets its contract: nothing costs as much as is asked, so that all hunts are made.
use mathlib.Core.Path.{◌≡◌, ◌∙◌}
use native.Mathlib.Omega.{arith}
use Rattle.rules.specs.Groups.{groups_cost, losses_by_groups}
use Rattle.desk_laws.proofs.Charged.{charged-none}
use Rattle.groups.proofs.Fits.{groups-fit, lying, begun}
use Rattle.groups.proofs.inner.losses_at.Goals as goal

pub weigh-lost-requires : goal.weigh-lost-requires
weigh-lost-requires c =
    record {
      fair = omega arith;
      desk_in_bounds = c.requires;
    }

pub foreseen_up_to-foreseen-requires : goal.foreseen_up_to-foreseen-requires
foreseen_up_to-foreseen-requires c =
    record {
      lying = lying c.args.desk.words.now c.args.desk.readable c.args.p _ _ c.weigh-lost.ensures.works c.requires;
      begun = begun c.args.desk.words.now c.args.desk.readable c.args.p _ _ c.weigh-lost.ensures.works _ (omega arith);
    }

pub returns : goal.returns
unfolding losses_by_groups
returns c =
    let all : c.foreseen_up_to-foreseen.result ≡ groups_cost c.args.desk.words.now c.args.p =
    omega (arith, c.foreseen_up_to-foreseen.ensures, groups-fit c.args.desk.words.now c.args.desk.readable c.args.p) in
    rw (c.conceded-conceded.ensures, c.weigh-lost.ensures.value ∙ charged-none c.args.desk.words.now c.args.p, all)
