-- `in_limits` meets its contract: the code is the definition, on the head's words.
use Rattle.rules.specs.Desk.{in_limits}
use Rattle.rules.specs.Figures.{head_of}
use Rattle.formed.proofs.in_limits.Goals as goal

pub returns : goal.returns
unfolding in_limits head_of
returns c = rw c.of-h.ensures
