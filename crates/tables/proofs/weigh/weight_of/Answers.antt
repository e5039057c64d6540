-- `weight_of` meets its contract: a table that is not refused has weights whose sum fits.
use mathlib.Core.Path.{sym, ◌∙◌}
use native.Mathlib.Omega.{arith}
use Rattle.masks.proofs.Choice.{handed-on}
use Rattle.rules.specs.Table.{weighed, weighs, hard_hold, row_count}
use Rattle.tables.proofs.Rows.{weigh-sum}
use Rattle.tables.proofs.weigh.weight_of.Goals as goal

pub given_up-requires : goal.given_up-requires
given_up-requires c =
    record {
      n_in_bounds = omega arith;
      i_bound = weigh-sum c.args.variables c.args.table.now c.args.reading (sym c.weigh_why.ensures ∙ c.in_ok-weigh_why.was);
    }

pub returns : goal.returns
unfolding weighed weighs hard_hold row_count
returns c = rw (← c.weigh_why.ensures, c.in_ok-weigh_why.was, c.given_up.ensures, c.hard_hold.ensures)

pub returns-in_err-weigh_why : goal.returns-in_err-weigh_why
unfolding weighed
returns-in_err-weigh_why c =
    rw (handed-on c.from_residual.result c.in_err-weigh_why.field-0.0 c.from_residual.ensures.1, ← c.weigh_why.ensures, c.in_err-weigh_why.was)
