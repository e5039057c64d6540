-- `last_word` meets its contract: the last entry begins at its place.
use mathlib.Core.Path.{refl}
use Rattle.rules.specs.Desk.{entry_place, row_place}
use Rattle.rules.specs.TakeBack.{last_place}
use Rattle.words.proofs.inner.last_word.Goals as goal

pub returns : goal.returns
unfolding last_place entry_place row_place
returns c = refl
