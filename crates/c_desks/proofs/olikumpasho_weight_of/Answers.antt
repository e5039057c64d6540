-- What it is told, and what is written where it was accepted, is what the call says.
use mathlib.Core.Path.{sym, ap, ◌∙◌}
use Rattle.telling.proofs.Places.{as-small, weighed-small}
use Rattle.telling.specs.Told.{told, by_weighed, weight_out}
use Rattle.c_desks.proofs.olikumpasho_weight_of.Goals as goal

pub tell-requires : goal.tell-requires
tell-requires c = as-small (sym (ap by_weighed (sym c.weight_of.ensures ∙ c.in-Err.is))) (weighed-small _ _ _)

pub returns-in-Err : goal.returns-in-Err
returns-in-Err c =
    let e = sym c.weight_of.ensures ∙ c.in-Err.is in
    record {
      answer = c.tell.ensures ∙ sym (ap (λ x. told (by_weighed x)) e);
      lent = sym (ap (λ x. weight_out x c.args.found.now) e);
    }

pub returns-in-Ok : goal.returns-in-Ok
returns-in-Ok c =
    let e = sym c.weight_of.ensures ∙ c.in-Ok.is in
    record {
      answer = sym (ap (λ x. told (by_weighed x)) e);
      lent = c.weighed_words.ensures ∙ sym (ap (λ x. weight_out x c.args.found.now) e);
    }
