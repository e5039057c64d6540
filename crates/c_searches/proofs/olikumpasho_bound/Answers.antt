-- What it is told, and what is written where it was accepted, is what the call says.
use mathlib.Core.Path.{◌≡◌, sym, ap, ◌∙◌}
use Rattle.rules.specs.Choice.{choice_of, bounded}
use Rattle.telling.proofs.Places.{as-small, bounded-small}
use Rattle.telling.specs.Told.{told, by_bounded, bound_out}
use Rattle.c_searches.proofs.olikumpasho_bound.Goals as goal

pub tell-requires : goal.tell-requires
tell-requires c =
    let said : c.bound.result ≡ bounded c.args.desk.now (choice_of c.args.choice) = c.bound.ensures ∙ ap (bounded c.args.desk.now) c.choice_of.ensures in
    as-small (sym (ap by_bounded (sym said ∙ c.in-Err.is))) (bounded-small _ _)

pub returns-in-Err : goal.returns-in-Err
returns-in-Err c =
    let said : c.bound.result ≡ bounded c.args.desk.now (choice_of c.args.choice) = c.bound.ensures ∙ ap (bounded c.args.desk.now) c.choice_of.ensures in
    let e = sym said ∙ c.in-Err.is in
    record {
      answer = c.tell.ensures ∙ sym (ap (λ x. told (by_bounded x)) e);
      lent = sym (ap (λ x. bound_out x c.args.losses.now) e);
    }

pub returns-in-Ok : goal.returns-in-Ok
returns-in-Ok c =
    let said : c.bound.result ≡ bounded c.args.desk.now (choice_of c.args.choice) = c.bound.ensures ∙ ap (bounded c.args.desk.now) c.choice_of.ensures in
    let e = sym said ∙ c.in-Ok.is in
    record {
      answer = sym (ap (λ x. told (by_bounded x)) e);
      lent = sym (ap (λ x. bound_out x c.args.losses.now) e);
    }
