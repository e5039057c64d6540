-- `well_fitted` meets its contract: open rows leave it to the remnants. Each kind is its own case, and the count of rows is right for it.
use mathlib.Core.Path.{sym, ◌∙◌}
use native.Mathlib.Omega.{arith}
use Rattle.rules.specs.Rewrite.{fits, merges, shifts, well_fitted}
use Rattle.remnants.specs.Rows.{merges_two, link_of}
use Rattle.remnants.proofs.Counts.{two-named, four-named}
use Rattle.fitting.proofs.well_fitted.Goals as goal

pub returns-then-not-all_open : goal.returns-then-not-all_open
unfolding well_fitted
returns-then-not-all_open c = rw (sym c.all_open.ensures ∙ c.if-not-all_open.true)

pub remnant-requires : goal.remnant-requires
remnant-requires c = omega (arith, two-named _ _ c.requires)

pub remnant-requires-in-Merge : goal.remnant-requires-in-Merge
remnant-requires-in-Merge c = omega (arith, two-named _ _ c.requires)

pub returns-in-Merge : goal.returns-in-Merge
unfolding well_fitted fits merges merges_two
returns-in-Merge c =
    rw (
      sym c.all_open.ensures ∙ c.if-not-all_open.false,
      c.in-Merge.is,
      c.merges.ensures,
      c.remnant-in-Merge.ensures,
      c.remnant.ensures,
    )

pub follow-requires : goal.follow-requires
follow-requires c = omega (arith, two-named _ _ c.requires)

pub returns-in-Shift : goal.returns-in-Shift
unfolding well_fitted fits shifts link_of
returns-in-Shift c = rw (sym c.all_open.ensures ∙ c.if-not-all_open.false, c.in-Shift.is, c.follow.ensures)

pub overflow_sub-rows : goal.overflow_sub-rows
overflow_sub-rows c = omega (arith, two-named _ _ c.requires)

pub chain-requires : goal.chain-requires
chain-requires c = omega (arith, two-named _ _ c.requires)

pub returns-in-Chain : goal.returns-in-Chain
unfolding well_fitted fits
returns-in-Chain c = rw (sym c.all_open.ensures ∙ c.if-not-all_open.false, c.in-Chain.is) c.chain.ensures

pub overflow_sub-rows-in-Fork : goal.overflow_sub-rows-in-Fork
overflow_sub-rows-in-Fork c = four-named _ (rw c.in-Fork.is at c.requires)

pub fork-requires : goal.fork-requires
fork-requires c = let four = four-named _ (rw c.in-Fork.is at c.requires) in omega arith

pub returns-in-Fork : goal.returns-in-Fork
unfolding well_fitted fits
returns-in-Fork c = rw (sym c.all_open.ensures ∙ c.if-not-all_open.false, c.in-Fork.is) c.fork.ensures
