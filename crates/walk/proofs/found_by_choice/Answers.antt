-- `found_by_choice` meets its contract: what is chosen is told by the arm, and each lends as many words as its walk works in.
use mathlib.Core.Path.{sym, ap, ◌∙◌}
use Rattle.rules.specs.declared.Choice.{Choice}
use Rattle.rules.specs.Walk.{walk_in, found_by}
use Rattle.walk.proofs.found_by_choice.Goals as goal

pub returns-in-Units : goal.returns-in-Units
returns-in-Units c = c.found_on.ensures ∙ sym (ap (λ (x : Choice). found_by (walk_in c.args.desk.words.now x c.args.budget)) c.in-Units.is)

pub returns-in-Groups : goal.returns-in-Groups
returns-in-Groups c = c.found_on-in-Groups.ensures ∙ sym (ap (λ (x : Choice). found_by (walk_in c.args.desk.words.now x c.args.budget)) c.in-Groups.is)
