-- `entry_step` meets its contract: each of its returns is a law of a scan, by the tests that led there.
use mathlib.Core.Path.{sym, ◌∙◌}
use native.Mathlib.Omega.{arith}
use borrow.Author.Tests.{not-true, not-false}
use Rattle.rules.specs.Desk.{satisfied}
use Rattle.looking.specs.Looks.{hunt_of, sided}
use Rattle.looking.proofs.Looking.{not_found}
use Rattle.looking.proofs.Rows.{step-light, step-failed, step-looked}
use Rattle.looking.proofs.inner.entry_step.Goals as goal

pub row_on-row-requires : goal.row_on-row-requires
row_on-row-requires c = c.requires.due.row

pub returns-then-not-holds_one : goal.returns-then-not-holds_one
returns-then-not-holds_one c =
    record {
      rows_after = step-failed c.args.desk.now c.args.weights.now (satisfied (sided c.args.bit c.args.positive)) c.args.i (hunt_of c.args.t c.args.masks.now c.args.rows.now) _
          c.row_on-row.ensures
          (sym c.holds_one.ensures ∙ not-true _ c.if-not-holds_one.true-raw);
      roomy_2 = c.requires.roomy;
    }

pub bounds-weights-i : goal.bounds-weights-i
bounds-weights-i c = omega (arith, c.requires.due.weight)

pub returns-then-weights-i-eq0 : goal.returns-then-weights-i-eq0
returns-then-weights-i-eq0 c =
    record {
      rows_after = step-light c.args.desk.now c.args.weights.now (satisfied (sided c.args.bit c.args.positive)) c.args.i (hunt_of c.args.t c.args.masks.now c.args.rows.now)
          c.if-weights-i-eq0.true;
      roomy_2 = c.requires.roomy;
    }

pub look-requires : goal.look-requires
look-requires c = c.requires.roomy

pub returns : goal.returns
returns c =
    record {
      rows_after = step-looked c.args.desk.now c.args.weights.now (satisfied (sided c.args.bit c.args.positive)) c.args.i (hunt_of c.args.t c.args.masks.now c.args.rows.now) _
          c.row_on-row.ensures
          (not_found c.args.t c.requires.due.running) c.if-weights-i-eq0.false (sym c.holds_one.ensures ∙ not-false _ c.if-not-holds_one.false-raw) _
          c.look.ensures.rows_after;
      roomy_2 = c.look.ensures.roomy;
    }
