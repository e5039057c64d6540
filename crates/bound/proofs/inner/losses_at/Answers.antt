-- `losses_at` meets its contract: of no rows each sum is 0, and each of the three is what its definition says.
use mathlib.Core.Path.{◌∙◌}
use native.Mathlib.Omega.{arith}
use Rattle.rules.specs.Bound.{losses_at}
use Rattle.desk_laws.proofs.Charged.{charged-none}
use Rattle.bound.proofs.Gathering.{none-gathered}
use Rattle.bound.proofs.inner.losses_at.Goals as goal

pub gather-lost-requires : goal.gather-lost-requires
gather-lost-requires c =
    record {
      fair = omega arith;
      gathered = none-gathered c.args.desk.words.now c.args.p;
    }

pub foreseen-foreseen-requires : goal.foreseen-foreseen-requires
foreseen-foreseen-requires c = c.gather-lost.ensures.gathered_2

pub returns : goal.returns
unfolding losses_at
returns c = rw (c.conceded-conceded.ensures, c.gather-lost.ensures.value ∙ charged-none c.args.desk.words.now c.args.p, c.foreseen-foreseen.ensures)
