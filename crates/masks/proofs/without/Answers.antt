-- `masks::without` meets its contract: the code is the definition.
use mathlib.Core.Path.{refl}
use Rattle.masks.specs.Masks.{without}
use Rattle.masks.proofs.without.Goals as goal

pub returns : goal.returns
unfolding without
returns c = refl
