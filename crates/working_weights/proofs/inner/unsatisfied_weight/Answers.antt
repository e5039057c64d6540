-- `unsatisfied_weight` meets its contract: whether the row is satisfied chooses.
use mathlib.Core.Path.{sym, ◌∙◌}
use Rattle.working_weights.specs.Works.{unsatisfied_weight}
use Rattle.working_weights.proofs.inner.unsatisfied_weight.Goals as goal

pub returns-then-satisfied : goal.returns-then-satisfied
unfolding unsatisfied_weight
returns-then-satisfied c = rw (sym c.satisfied.ensures ∙ c.if-satisfied.true)

pub returns-else-satisfied : goal.returns-else-satisfied
unfolding unsatisfied_weight
returns-else-satisfied c = rw (sym c.satisfied.ensures ∙ c.if-satisfied.false)
