-- What it is told is what the call says.
use mathlib.Core.Path.{ap, ◌∙◌}
use Rattle.telling.proofs.Places.{as-small, rewrite-small}
use Rattle.telling.specs.Told.{told}
use Rattle.c_steps.proofs.olikumpasho_rewrite.Goals as goal

pub tell-requires : goal.tell-requires
tell-requires c = as-small c.rewrite-rewritten.ensures.value (rewrite-small _ _ _)

pub returns : goal.returns
returns c =
    record {
      answer = c.tell.ensures ∙ ap told c.rewrite-rewritten.ensures.value;
      lent = c.rewrite-rewritten.ensures.desk_after;
    }
