-- `masks::has` meets its contract: below 64 the code is the definition, and a word has no bit beyond.
use mathlib.Core.Path.{refl, sym}
use borrow.Author.Rules.{rules}
use Rattle.masks.specs.Masks.{has, bit}
use Rattle.masks.proofs.Bits.{has-past}
use Rattle.masks.proofs.has.Goals as goal

pub returns-then-v-lt64 : goal.returns-then-v-lt64
unfolding has bit
returns-then-v-lt64 c = refl

pub returns-else-v-lt64 : goal.returns-else-v-lt64
returns-else-v-lt64 c = sym (has-past 64 (search rules) (search rules))
