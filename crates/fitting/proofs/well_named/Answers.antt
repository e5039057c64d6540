-- `well_named` meets its contract: the first test that fails decides.
use mathlib.Core.Bool.{not, not-not}
use mathlib.Core.Path.{sym, ap, ◌∙◌}
use borrow.Author.Tests.{le-leb}
use Rattle.rules.specs.Steps.{well_named}
use Rattle.kinds.specs.Numbers.{number}
use Rattle.kinds.proofs.Numbers.{rewriting-some, number-known}
use Rattle.fitting.proofs.well_named.Goals as goal

pub returns-in-Decision : goal.returns-in-Decision
unfolding well_named
returns-in-Decision c = rw c.in-Decision.is

pub returns-then-not-count_fits : goal.returns-then-not-count_fits
unfolding well_named
returns-then-not-count_fits c =
    rw (
      le-leb 1 (number c.args.kind) (rewriting-some c.args.kind c.in_default.not-Decision),
      le-leb (number c.args.kind) 4 (number-known c.args.kind),
      sym c.count_fits.ensures ∙ c.if-not-count_fits.true,
    )

pub returns-then-not-all_below : goal.returns-then-not-all_below
unfolding well_named
returns-then-not-all_below c =
    rw (
      le-leb 1 (number c.args.kind) (rewriting-some c.args.kind c.in_default.not-Decision),
      le-leb (number c.args.kind) 4 (number-known c.args.kind),
      sym c.count_fits.ensures ∙ c.if-not-count_fits.false,
      ← c.word.ensures,
      sym c.all_below.ensures ∙ c.if-not-all_below.true,
    )

pub returns : goal.returns
unfolding well_named
returns c =
    rw (
      le-leb 1 (number c.args.kind) (rewriting-some c.args.kind c.in_default.not-Decision),
      le-leb (number c.args.kind) 4 (number-known c.args.kind),
      sym c.count_fits.ensures ∙ c.if-not-count_fits.false,
      ← c.word.ensures,
      sym c.all_below.ensures ∙ c.if-not-all_below.false,
    )
    (ap not c.repeated.ensures ∙ not-not _)
