-- `masks_nest` meets its contract: the code is the definition, on the head's words.
use Rattle.masks.specs.Masks.{none}
use Rattle.rules.specs.Desk.{masks_nest}
use Rattle.rules.specs.Figures.{head_of}
use Rattle.formed.proofs.masks_nest.Goals as goal

pub returns : goal.returns
unfolding masks_nest head_of none
returns c = rw (c.below.ensures, c.without.ensures, c.of-h.ensures)
