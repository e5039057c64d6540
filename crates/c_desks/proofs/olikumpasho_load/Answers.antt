-- What it is told is what the call says.
use mathlib.Core.Path.{ap, ◌∙◌}
use Rattle.telling.proofs.Places.{as-small, load-small}
use Rattle.telling.specs.Told.{told}
use Rattle.c_desks.proofs.olikumpasho_load.Goals as goal

pub tell-requires : goal.tell-requires
tell-requires c = as-small c.load-loaded.ensures.value (load-small _ _ _ _)

pub returns : goal.returns
returns c =
    record {
      answer = c.tell.ensures ∙ ap told c.load-loaded.ensures.value;
      lent = c.load-loaded.ensures.desk_after;
    }
