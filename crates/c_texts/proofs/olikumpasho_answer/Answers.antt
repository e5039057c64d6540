-- What it is told, and what is written where it was accepted, is what the call says.
use mathlib.Core.Path.{sym, ap, ◌∙◌}
use Rattle.telling.proofs.Places.{as-small, answered-small}
use Rattle.telling.specs.Told.{told, by_written, length_out}
use Rattle.c_texts.proofs.olikumpasho_answer.Goals as goal

pub tell-requires : goal.tell-requires
tell-requires c = as-small (sym (ap by_written (sym c.answer.ensures.answer ∙ c.in-Err.is))) (answered-small _ _)

pub returns-in-Err : goal.returns-in-Err
returns-in-Err c =
    let e = sym c.answer.ensures.answer ∙ c.in-Err.is in
    record {
      answer = c.tell.ensures ∙ sym (ap (λ x. told (by_written x)) e);
      words = c.answer.ensures.bytes;
      lent = sym (ap (λ x. length_out x c.args.bytes.now) e);
    }

pub returns-in-Ok : goal.returns-in-Ok
returns-in-Ok c =
    let e = sym c.answer.ensures.answer ∙ c.in-Ok.is in
    record {
      answer = sym (ap (λ x. told (by_written x)) e);
      words = c.answer.ensures.bytes;
      lent = sym (ap (λ x. length_out x c.args.bytes.now) e);
    }
