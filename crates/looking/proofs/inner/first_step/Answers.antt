-- `first_step` meets its contract: each of its returns is a law of a scan, by the tests that led there.
use mathlib.Core.Path.{sym, ap, ◌∙◌}
use native.Mathlib.Omega.{arith}
use borrow.Author.Rules.{rules}
use Rattle.literals.specs.declared.Lits.{Lits}
use Rattle.literals.specs.Lits.{is_one}
use Rattle.units.proofs.Ones.{one_left}
use Rattle.looking.specs.Looks.{hunt_of, left_one}
use Rattle.looking.proofs.Looking.{not_found, ones_none, twice-none}
use Rattle.looking.proofs.Rows.{step-light, step-failed, step-looked}
use Rattle.looking.proofs.inner.first_step.Goals as goal

pub row_on-row-requires : goal.row_on-row-requires
row_on-row-requires c = c.requires.due.row

pub returns-then-count-ne1 : goal.returns-then-count-ne1
returns-then-count-ne1 c =
    record {
      rows_after = step-failed c.args.desk.now c.args.weights.now (left_one c.args.p) c.args.i (hunt_of c.args.t c.args.masks.now c.args.rows.now) _ c.row_on-row.ensures
          (sym (ap is_one c.remnant-rest.ensures) ∙ ones_none c.remnant-rest.result (search rules) (λ e. c.if-count-ne1.true (c.count.ensures ∙ e)));
      roomy_2 = c.requires.roomy;
    }

pub bounds-weights-i : goal.bounds-weights-i
bounds-weights-i c = omega (arith, c.requires.due.weight)

pub returns-then-weights-i-eq0 : goal.returns-then-weights-i-eq0
returns-then-weights-i-eq0 c =
    record {
      rows_after = step-light c.args.desk.now c.args.weights.now (left_one c.args.p) c.args.i (hunt_of c.args.t c.args.masks.now c.args.rows.now) c.if-weights-i-eq0.true;
      roomy_2 = c.requires.roomy;
    }

pub returns-then-rest-ne0 : goal.returns-then-rest-ne0
returns-then-rest-ne0 c =
    record {
      rows_after = step-failed c.args.desk.now c.args.weights.now (left_one c.args.p) c.args.i (hunt_of c.args.t c.args.masks.now c.args.rows.now) _ c.row_on-row.ensures
          (sym (ap is_one c.remnant-rest.ensures) ∙ twice-none c.remnant-rest.result (search rules) c.if-rest-ne0.true);
      roomy_2 = c.requires.roomy;
    }

pub look-requires : goal.look-requires
look-requires c = c.requires.roomy

pub returns : goal.returns
returns c =
    let l : Lits = c.remnant-rest.result in
    record {
      rows_after = step-looked c.args.desk.now c.args.weights.now (left_one c.args.p) c.args.i (hunt_of c.args.t c.args.masks.now c.args.rows.now) _ c.row_on-row.ensures
          (not_found c.args.t c.requires.due.running) c.if-weights-i-eq0.false
          (sym (ap is_one c.remnant-rest.ensures) ∙ one_left l.positive l.negative (sym c.count.ensures ∙ c.if-count-ne1.false) c.if-rest-ne0.false)
          _ c.look.ensures.rows_after;
      roomy_2 = c.look.ensures.roomy;
    }
