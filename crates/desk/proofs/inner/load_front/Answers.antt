-- `load_front` meets its contract: refused as the rows behind the head are, or those rows with the head stored before them.
use mathlib.Core.Path.{sym, ◌∙◌}
use Rattle.masks.proofs.Choice.{handed-on}
use Rattle.desk.proofs.Fronts.{front-refused, front-fine}
use Rattle.desk.proofs.inner.load_front.Goals as goal

pub returns-in_err-table_why : goal.returns-in_err-table_why
returns-in_err-table_why c =
    let told =
    front-refused c.args.variables c.args.rows c.args.words.now c.requires _ _ c.table_why.ensures c.in_err-table_why.was
    in
    record {
      value = handed-on c.from_residual.result c.in_err-table_why.field-0.0 c.from_residual.ensures.1 ∙ sym c.in_err-table_why.was ∙ told.0;
      words_after = told.1;
    }

pub returns : goal.returns
returns c =
    let told =
    front-fine c.args.variables c.args.rows c.args.words.now c.requires _ _ c.table_why.ensures c.in_ok-table_why.was c.lay_head.ensures
    in record { value = told.0; words_after = told.1 }
