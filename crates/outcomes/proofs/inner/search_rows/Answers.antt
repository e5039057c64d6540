-- `search_rows` meets its contract: rows are refused as any table, and what is loaded can be read.
use mathlib.Core.Path.{◌∙◌}
use Rattle.masks.proofs.Choice.{handed-on}
use Rattle.outcomes.proofs.Searching.{not-loaded, front-readable, loaded}
use Rattle.outcomes.proofs.inner.search_rows.Goals as goal

pub invariant_of-front : goal.invariant_of-front
invariant_of-front c =
    record {
      readable = front-readable c.args.variables c.args.budget c.args.rows c.args.words.now c.requires _ _ c.load_front.ensures.value c.in_ok-load_front.was c.load_front.ensures.words_after;
    }

pub returns-in_err-load_front : goal.returns-in_err-load_front
returns-in_err-load_front c =
    handed-on c.from_residual.result c.in_err-load_front.field-0.0 c.from_residual.ensures.1
    ∙ not-loaded c.args.variables c.args.budget c.args.rows c.args.words.now c.requires _ _ c.load_front.ensures.value c.in_err-load_front.was

pub returns : goal.returns
returns c =
    loaded c.args.variables c.args.budget c.args.rows c.args.words.now c.requires _ _ c.load_front.ensures.value c.in_ok-load_front.was c.load_front.ensures.words_after _ _ _
    c.decisions-p.ensures c.losses_at-root.ensures c.found_on-found.ensures
