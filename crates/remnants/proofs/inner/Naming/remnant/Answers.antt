-- `remnant_of` meets its contract: the decisions are words 5 and 6, and the row is on the desk.
use Rattle.rules.specs.Desk.{decisions}
use Rattle.rules.specs.Steps.{remnant_of}
use Rattle.remnants.proofs.inner.Naming.remnant.Goals as goal

pub row_on-row-requires : goal.row_on-row-requires
row_on-row-requires c = c.args.self.now.on_desk.inside c.args.i c.requires

pub returns : goal.returns
unfolding remnant_of decisions
returns c = rw (c.remnant.ensures, c.row_on-row.ensures)
