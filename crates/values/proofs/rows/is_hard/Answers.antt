-- `is_hard` meets its contract: the code is the definition.
use mathlib.Core.Path.{refl}
use Rattle.rules.specs.Table.{is_hard}
use Rattle.values.proofs.rows.is_hard.Goals as goal

pub returns : goal.returns
unfolding is_hard
returns c = refl
