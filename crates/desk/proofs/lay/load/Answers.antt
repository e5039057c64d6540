-- `load` meets its contract: a refusal leaves the words as found, and what is not refused has room.
use mathlib.Core.Path.{sym, ◌∙◌}
use Rattle.masks.proofs.Choice.{handed-on}
use Rattle.rules.specs.Desk.{load_why, load_step, load_desk}
use Rattle.rules.proofs.Judging.{words-fine, words-refused}
use Rattle.desk.proofs.Loading.{load-room}
use Rattle.desk.proofs.lay.load.Goals as goal

pub returns-in_err-load_why : goal.returns-in_err-load_why
unfolding load_desk
returns-in_err-load_why c =
    record {
      value =
          handed-on c.from_residual.result c.in_err-load_why.field-0.0 c.from_residual.ensures.1
          ∙ sym c.in_err-load_why.was ∙ c.load_why.ensures;
      desk_after = sym (words-refused (load_why c.args.variables c.args.table.now c.args.capacity c.args.desk.now)
          (load_step c.args.variables c.args.table.now c.args.capacity c.args.desk.now) c.args.desk.now _ (sym c.load_why.ensures ∙ c.in_err-load_why.was));
    }

pub lay-requires : goal.lay-requires
lay-requires c =
    let room =
    load-room c.args.variables c.args.table.now c.args.capacity c.args.desk.now
    (sym c.load_why.ensures ∙ c.in_ok-load_why.was) in
    record {
      capacity_le_most_capacity = room.0;
      table_len_bound = room.1;
      capacity_in_bounds = room.2;
    }

pub returns : goal.returns
unfolding load_desk
returns c =
    record {
      value = sym (sym c.load_why.ensures ∙ c.in_ok-load_why.was);
      desk_after = c.lay.ensures
          ∙ sym (words-fine (load_why c.args.variables c.args.table.now c.args.capacity c.args.desk.now)
          (load_step c.args.variables c.args.table.now c.args.capacity c.args.desk.now) c.args.desk.now (sym c.load_why.ensures ∙ c.in_ok-load_why.was));
    }
