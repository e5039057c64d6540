-- `step_why` meets its contract: each return has the tests that led there.
use mathlib.Core.Path.{sym, ap, ◌∙◌}
use mathlib.Core.Bool.{not}
use native.Mathlib.Omega.{arith}
use borrow.Author.Tests.{le-leb, lt-leb}
use Rattle.rules.specs.Desk.{standing, most_steps}
use Rattle.deciding.specs.Order.{step_why}
use Rattle.deciding.proofs.step_why.Goals as goal

pub returns-then-not-well_formed : goal.returns-then-not-well_formed
unfolding step_why
returns-then-not-well_formed c = rw (ap not (sym c.well_formed-2.ensures) ∙ c.if-not-well_formed.true-raw)

pub returns-then-word-ge-MOST_STEPS : goal.returns-then-word-ge-MOST_STEPS
unfolding step_why
returns-then-word-ge-MOST_STEPS c =
    rw (
      ap not (sym c.well_formed-2.ensures) ∙ c.if-not-well_formed.false-raw,
      le-leb most_steps (standing c.args.desk.now) (omega (arith, c.word.ensures)),
    )

pub returns : goal.returns
unfolding step_why
returns c =
    rw (
      ap not (sym c.well_formed-2.ensures) ∙ c.if-not-well_formed.false-raw,
      lt-leb most_steps (standing c.args.desk.now) (omega (arith, c.word.ensures)),
    )
