-- `weigh_why` meets its contract: each return has what led there.
use mathlib.Core.Path.{sym, ◌∙◌, ap}
use mathlib.Core.Bool.{not}
use Rattle.masks.proofs.Choice.{handed-on}
use Rattle.rules.specs.Table.{weigh_why}
use Rattle.tables.proofs.weigh.weigh_why.Goals as goal

pub returns-then-not-below : goal.returns-then-not-below
unfolding weigh_why
returns-then-not-below c =
    rw (
      ← c.table_why.ensures,
      c.in_ok-table_why.was,
      ap not (sym c.below.ensures)
          ∙ c.if-not-below.true-raw,
    )

pub returns : goal.returns
unfolding weigh_why
returns c =
    rw (
      ← c.table_why.ensures,
      c.in_ok-table_why.was,
      ap not (sym c.below.ensures)
          ∙ c.if-not-below.false-raw,
    )

pub returns-in_err-table_why : goal.returns-in_err-table_why
unfolding weigh_why
returns-in_err-table_why c =
    rw (handed-on c.from_residual.result c.in_err-table_why.field-0.0 c.from_residual.ensures.1, ← c.table_why.ensures, c.in_err-table_why.was)
