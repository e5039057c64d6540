-- `take_back` meets its contract: a refusal leaves the words as found.
use mathlib.Core.Path.{sym, ◌∙◌}
use Rattle.masks.proofs.Choice.{handed-on}
use Rattle.rules.specs.TakeBack.{take_back_why, take_back_step, take_back_desk}
use Rattle.rules.proofs.Judging.{words-fine, words-refused}
use Rattle.taking_back.proofs.take_back.Goals as goal

pub returns-in_err-take_back_why : goal.returns-in_err-take_back_why
unfolding take_back_desk
returns-in_err-take_back_why c =
    record {
      value =
          handed-on c.from_residual.result c.in_err-take_back_why.field-0.0 c.from_residual.ensures.1
          ∙ sym c.in_err-take_back_why.was ∙ c.take_back_why.ensures;
      desk_after = sym (words-refused (take_back_why c.args.desk.now) (take_back_step c.args.desk.now) c.args.desk.now _ (sym c.take_back_why.ensures ∙ c.in_err-take_back_why.was));
    }

pub take_back_step-requires : goal.take_back_step-requires
take_back_step-requires c = sym c.take_back_why.ensures ∙ c.in_ok-take_back_why.was

pub returns : goal.returns
unfolding take_back_desk
returns c =
    let fine = sym c.take_back_why.ensures ∙ c.in_ok-take_back_why.was in
    record {
      value = sym fine;
      desk_after = c.take_back_step.ensures ∙ sym (words-fine (take_back_why c.args.desk.now) (take_back_step c.args.desk.now) c.args.desk.now fine);
    }
