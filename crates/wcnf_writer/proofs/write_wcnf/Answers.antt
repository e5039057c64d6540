-- `write_wcnf` meets its contract: refused by the table, or stored as any text.
use mathlib.Core.Path.{◌∙◌}
use Rattle.masks.proofs.Choice.{handed-on}
use Rattle.rules.proofs.Admissible.{table-fine}
use Rattle.text_laws.proofs.Matched.{matched}
use Rattle.text_laws.proofs.LentBytes.{text-refused}
use Rattle.wcnf_writer.proofs.write_wcnf.Goals as goal

pub returns-in_err-table_why : goal.returns-in_err-table_why
returns-in_err-table_why c =
    let told = text-refused _ _ _ _ (matched c.table_why.ensures c.in_err-table_why.was) in
    record { answer = handed-on c.from_residual.result c.in_err-table_why.field-0.0 c.from_residual.ensures.1 ∙ told.0; bytes = told.1 }

pub invariant_of-text : goal.invariant_of-text
invariant_of-text c =
    let fine = table-fine _ _ (matched c.table_why.ensures c.in_ok-table_why.was) in
    record { few = fine.few; light = fine.light }
