-- `value_of` meets its contract: the value so far is that of the digits passed. Ten digits make a number that fits.
use mathlib.Core.Path.{◌≡◌}
use Rattle.rules.specs.Reader.{value_of}
use Rattle.pieces_read.proofs.numbers.value_of.Given as goal

abbrev pub invariant-loop-i : goal.invariant-loop-i
invariant-loop-i l = l.value ≡ value_of l.s l.at l.i
