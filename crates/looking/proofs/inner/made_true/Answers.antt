-- `made_true` meets its contract: the code is the definition.
use mathlib.Core.Path.{refl}
use Rattle.literals.specs.Lits.{variables_of}
use Rattle.rules.specs.Groups.{made_true}
use Rattle.looking.proofs.inner.made_true.Goals as goal

pub returns : goal.returns
unfolding made_true variables_of
returns c = refl
