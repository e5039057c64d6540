-- `rewrite` meets its contract: a refusal leaves the words as found.
use mathlib.Core.Path.{◌≡◌, sym, ◌∙◌}
use Rattle.rules.specs.Rewrite.{rewrite_why, rewrite_step, rewrite_desk}
use Rattle.rules.proofs.Judging.{words-fine, words-refused}
use Rattle.rewrites.proofs.rewrite.Goals as goal

pub returns-in_err-kind-clause-desk_after : goal.returns-in_err-kind-clause-desk_after
unfolding rewrite_desk
returns-in_err-kind-clause-desk_after c =
    sym (words-refused (rewrite_why c.args.desk.now c.args.kind c.args.named.now) (rewrite_step c.args.desk.now c.args.kind c.args.named.now)
    c.args.desk.now _ c.in_err-kind.ensures)

pub rewrite_step-requires : goal.rewrite_step-requires
rewrite_step-requires c = rw c.in_ok-kind.ensures.0 c.in_ok-kind.ensures.1

pub returns : goal.returns
unfolding rewrite_desk
returns c =
    let step : c.rewrite_step.new.desk ≡ rewrite_step c.args.desk.now c.args.kind c.args.named.now = rw c.in_ok-kind.ensures.0 at c.rewrite_step.ensures in
    record {
      value = sym c.in_ok-kind.ensures.1;
      desk_after = step
          ∙ sym (words-fine (rewrite_why c.args.desk.now c.args.kind c.args.named.now) (rewrite_step c.args.desk.now c.args.kind c.args.named.now)
          c.args.desk.now c.in_ok-kind.ensures.1);
    }
