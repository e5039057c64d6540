-- What it is told is what the call says.
use mathlib.Core.Path.{ap, ◌∙◌}
use Rattle.telling.proofs.Places.{as-small, decide-small}
use Rattle.telling.specs.Told.{told}
use Rattle.literals.proofs.Signed.{back}
use Rattle.rules.specs.Decide.{decide_why, decide_desk}
use Rattle.c_steps.proofs.olikumpasho_decide.Goals as goal

pub tell-requires : goal.tell-requires
tell-requires c = as-small c.decide-decided.ensures.value (decide-small _ _)

pub returns : goal.returns
returns c =
    let same = back c.args.literal c.ranges.literal in
    record {
      answer = c.tell.ensures ∙ ap told (c.decide-decided.ensures.value ∙ ap (decide_why c.args.desk.now) same);
      lent = c.decide-decided.ensures.desk_after ∙ ap (decide_desk c.args.desk.now) same;
    }
