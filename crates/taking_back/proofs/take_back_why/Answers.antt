-- `take_back_why` meets its contract: each return has the tests that led there.
use mathlib.Core.Path.{sym, ap, ◌∙◌}
use mathlib.Core.Bool.{not}
use native.Mathlib.Omega.{arith}
use borrow.Author.Tests.{eq-eqb, ne_eqb, not-false}
use Rattle.rules.specs.Desk.{standing}
use Rattle.rules.specs.TakeBack.{take_back_why}
use Rattle.taking_back.proofs.take_back_why.Goals as goal

pub returns-then-not-well_formed : goal.returns-then-not-well_formed
unfolding take_back_why
returns-then-not-well_formed c = rw (ap not (sym c.well_formed-2.ensures) ∙ c.if-not-well_formed.true-raw)

pub returns-then-word-eq0 : goal.returns-then-word-eq0
unfolding take_back_why
returns-then-word-eq0 c =
    rw (
      ap not (sym c.well_formed-2.ensures)
          ∙ c.if-not-well_formed.false-raw,
      eq-eqb (standing _) 0 (sym c.word.ensures ∙ c.if-word-eq0.true),
    )

pub bad_last-requires : goal.bad_last-requires
bad_last-requires c =
    record {
      formed = sym c.well_formed-2.ensures
          ∙ not-false _ c.if-not-well_formed.false-raw;
      some = omega (arith, c.word.ensures, c.if-word-eq0.false);
    }

pub returns-then-bad_last : goal.returns-then-bad_last
unfolding take_back_why
returns-then-bad_last c =
    rw (
      ap not (sym c.well_formed-2.ensures)
          ∙ c.if-not-well_formed.false-raw,
      ne_eqb (standing _) 0
          (λ e. c.if-word-eq0.false (c.word.ensures ∙ e)),
      sym c.bad_last.ensures ∙ c.if-bad_last.true,
    )

pub returns : goal.returns
unfolding take_back_why
returns c =
    rw (
      ap not (sym c.well_formed-2.ensures)
          ∙ c.if-not-well_formed.false-raw,
      ne_eqb (standing _) 0
          (λ e. c.if-word-eq0.false (c.word.ensures ∙ e)),
      sym c.bad_last.ensures ∙ c.if-bad_last.false,
    )
