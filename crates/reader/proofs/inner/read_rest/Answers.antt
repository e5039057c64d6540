-- `read_rest` meets its contract: refused by what follows the head, or fine and stored.
use mathlib.Core.Path.{◌∙◌}
use Rattle.masks.proofs.Choice.{handed-on}
use Rattle.reader.proofs.Rest.{behind-refused, behind-fine, behind-stored}
use Rattle.reader.proofs.inner.read_rest.Goals as goal

pub store_rows-requires : goal.store_rows-requires
store_rows-requires c =
    behind-stored c.args.most c.args.s.now c.args.table.now c.args.variables c.args.budget c.args.rows c.args.from _
    c.head_why.ensures c.in_ok-head_why.was

pub returns-in_err-head_why : goal.returns-in_err-head_why
returns-in_err-head_why c =
    let told =
    behind-refused c.args.most c.args.s.now c.args.table.now c.args.variables c.args.budget c.args.rows c.args.from _
    c.head_why.ensures _ c.in_err-head_why.was
    in record { answer = handed-on _ _ c.from_residual.ensures.1 ∙ told.0; words = told.1 }

pub returns : goal.returns
returns c =
    let fine =
    behind-fine c.args.most c.args.s.now c.args.table.now c.args.variables c.args.budget c.args.rows c.args.from _
    c.head_why.ensures c.in_ok-head_why.was
    in record { answer = fine.0; words = c.store_rows.ensures ∙ fine.1 }
