-- What it is told, and what is written where it was accepted, is what the call says.
use mathlib.Core.Path.{sym, ap, ◌∙◌}
use Rattle.telling.proofs.Places.{as-small, read_small}
use Rattle.telling.specs.Told.{told, by_text_read, head_out}
use native.Mathlib.Omega.{arith}
use Rattle.c_texts.proofs.olikumpasho_read.Goals as goal

pub tell-requires : goal.tell-requires
tell-requires c = as-small (sym (ap by_text_read (sym c.read.ensures.answer ∙ c.in-Err.is))) (read_small _ _ _ (omega arith))

pub returns-in-Err : goal.returns-in-Err
returns-in-Err c =
    let e = sym c.read.ensures.answer ∙ c.in-Err.is in
    record {
      answer = c.tell.ensures ∙ sym (ap (λ x. told (by_text_read x)) e);
      words = c.read.ensures.words;
      lent = sym (ap (λ x. head_out x c.args.head.now) e);
    }

pub returns-in-Ok : goal.returns-in-Ok
returns-in-Ok c =
    let e = sym c.read.ensures.answer ∙ c.in-Ok.is in
    record {
      answer = sym (ap (λ x. told (by_text_read x)) e);
      words = c.read.ensures.words;
      lent = sym (ap (λ x. head_out x c.args.head.now) e);
    }
