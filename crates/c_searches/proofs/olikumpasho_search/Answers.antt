-- What it is told, and what is written where it was accepted, is what the call says.
use mathlib.Core.Path.{◌≡◌, sym, ap, ◌∙◌}
use Rattle.rules.specs.declared.Choice.{Choice}
use Rattle.rules.specs.Choice.{choice_of}
use Rattle.rules.specs.Walk.{searched}
use Rattle.telling.proofs.Places.{as-small, searched-small}
use Rattle.telling.specs.Told.{told, by_searched, found_out}
use Rattle.c_searches.proofs.olikumpasho_search.Goals as goal

pub tell-requires : goal.tell-requires
tell-requires c =
    let said : c.search.result ≡ searched c.args.desk.now (choice_of c.args.choice) c.args.budget = c.search.ensures ∙ ap (λ (x : Choice). searched c.args.desk.now x c.args.budget) c.choice_of.ensures in
    as-small (sym (ap by_searched (sym said ∙ c.in-Err.is))) (searched-small _ _ _)

pub returns-in-Err : goal.returns-in-Err
returns-in-Err c =
    let said : c.search.result ≡ searched c.args.desk.now (choice_of c.args.choice) c.args.budget = c.search.ensures ∙ ap (λ (x : Choice). searched c.args.desk.now x c.args.budget) c.choice_of.ensures in
    let e = sym said ∙ c.in-Err.is in
    record {
      answer = c.tell.ensures ∙ sym (ap (λ x. told (by_searched x)) e);
      lent = sym (ap (λ x. found_out x c.args.found.now) e);
    }

pub returns-in-Ok : goal.returns-in-Ok
returns-in-Ok c =
    let said : c.search.result ≡ searched c.args.desk.now (choice_of c.args.choice) c.args.budget = c.search.ensures ∙ ap (λ (x : Choice). searched c.args.desk.now x c.args.budget) c.choice_of.ensures in
    let e = sym said ∙ c.in-Ok.is in
    record {
      answer = sym (ap (λ x. told (by_searched x)) e);
      lent = c.found_words.ensures ∙ sym (ap (λ x. found_out x c.args.found.now) e);
    }
