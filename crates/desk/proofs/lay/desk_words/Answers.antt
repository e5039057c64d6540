-- `desk_words` meets its contract: the figures are the definition's.
use mathlib.Core.Path.{refl}
use Rattle.rules.specs.Desk.{desk_words, row_place}
use Rattle.desk.proofs.lay.desk_words.Goals as goal

pub returns : goal.returns
unfolding desk_words row_place
returns c = refl
