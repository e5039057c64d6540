-- `rows_named` meets its contract: the first n of the row numbers copied are those named.
use Rattle.rules.specs.Steps.{distinct}
use lib.ListN.{get_or}
use mathlib.Core.Path.{sym, ap, ◌∙◌}
use mathlib.Core.Bool.{not, not-not}
use native.Mathlib.Omega.{arith}
use lib.ListN.{length, take}
use lib.Seq.{length-take-le}
use Rattle.last_entry.proofs.Lasts.{step-stands, named-same}
use Rattle.last_entry.proofs.inner.rows_named.Goals as goal

pub last_rows-rows-requires : goal.last_rows-rows-requires
last_rows-rows-requires c = step-stands _ c.requires.stands

pub slice_bounds-named-end : goal.slice_bounds-named-end
slice_bounds-named-end c = sym (length-take-le c.args.n c.last_rows-rows.result (omega (arith, c.requires.n_le_most_named)))

pub returns : goal.returns
returns c =
    let named = take c.args.n c.last_rows-rows.result in
    rw (ap not c.repeated.ensures ∙ not-not (distinct (length named) (λ i. get_or named i 0)), c.all_below.ensures)
    (named-same c.args.desk.now c.last_rows-rows.result c.args.n c.args.first (omega arith) c.requires.n_le_most_named c.last_rows-rows.ensures)
