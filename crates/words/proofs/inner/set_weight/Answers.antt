-- `set_weight` meets its contract: the row read, with another weight, is stored.
use Rattle.rules.specs.Desk.{set_weight}
use Rattle.words.proofs.inner.set_weight.Goals as goal

pub returns : goal.returns
unfolding set_weight
returns c = cc
