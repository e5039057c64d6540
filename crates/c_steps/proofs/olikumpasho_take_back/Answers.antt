-- What it is told is what the call says.
use mathlib.Core.Path.{ap, ◌∙◌}
use Rattle.telling.proofs.Places.{as-small, take-back-small}
use Rattle.telling.specs.Told.{told}
use Rattle.c_steps.proofs.olikumpasho_take_back.Goals as goal

pub tell-requires : goal.tell-requires
tell-requires c = as-small c.take_back-taken.ensures.value (take-back-small _)

pub returns : goal.returns
returns c =
    record {
      answer = c.tell.ensures ∙ ap told c.take_back-taken.ensures.value;
      lent = c.take_back-taken.ensures.desk_after;
    }
