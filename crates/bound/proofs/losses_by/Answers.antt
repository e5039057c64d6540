-- `losses_by` meets its contract: what is chosen is told by the arm.
use mathlib.Core.Path.{sym, ap, ◌∙◌}
use Rattle.rules.specs.declared.Choice.{Choice}
use Rattle.rules.specs.Choice.{losses_by}
use Rattle.bound.proofs.losses_by.Goals as goal

pub returns-in-Units : goal.returns-in-Units
returns-in-Units c = c.losses_at.ensures ∙ sym (ap (λ (x : Choice). losses_by x c.args.desk.words.now c.args.p) c.in-Units.is)

pub returns-in-Groups : goal.returns-in-Groups
returns-in-Groups c = c.losses_at-in-Groups.ensures ∙ sym (ap (λ (x : Choice). losses_by x c.args.desk.words.now c.args.p) c.in-Groups.is)
