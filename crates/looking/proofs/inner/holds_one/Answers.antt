-- `holds_one` meets its contract: of a partial reading that has one literal, the mask of the other sign finds nothing.
use mathlib.Core.Path.{sym, ap, ◌∙◌}
use mathlib.Core.Bool.{Bool}
use Rattle.rules.specs.Desk.{satisfied}
use Rattle.looking.specs.Looks.{sided}
use Rattle.looking.proofs.Looking.{held-positive, held-negative}
use Rattle.looking.proofs.inner.holds_one.Goals as goal

pub returns-then-positive : goal.returns-then-positive
returns-then-positive c = held-positive c.args.bit c.args.l ∙ ap (λ (b : Bool). satisfied (sided c.args.bit b) c.args.l) (sym c.if-positive.true)

pub returns-else-positive : goal.returns-else-positive
returns-else-positive c = held-negative c.args.bit c.args.l ∙ ap (λ (b : Bool). satisfied (sided c.args.bit b) c.args.l) (sym c.if-positive.false)
