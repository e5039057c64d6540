-- `is_digit` meets its contract: the code is the definition.
use mathlib.Core.Path.{refl}
use Rattle.rules.specs.Reader.{is_digit}
use Rattle.pieces_read.proofs.bytes.is_digit.Goals as goal

pub returns : goal.returns
unfolding is_digit
returns c = refl
