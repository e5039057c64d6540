-- `Literal::lits` meets its contract: the mask goes to the side that the sign names.
use mathlib.Core.Path.{sym, ◌∙◌}
use Rattle.literals.proofs.TwoMasks.{lits-positive, lits-negative}
use Rattle.literals.proofs.Literal.lits.Goals as goal

pub returns-then-is_positive : goal.returns-then-is_positive
returns-then-is_positive c = rw c.mask-m.ensures (sym (lits-positive c.args.self.value (sym c.is_positive.ensures ∙ c.if-is_positive.true)))

pub returns-else-is_positive : goal.returns-else-is_positive
returns-else-is_positive c = rw c.mask-m.ensures (sym (lits-negative c.args.self.value (sym c.is_positive.ensures ∙ c.if-is_positive.false)))
