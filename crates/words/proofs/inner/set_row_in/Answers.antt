-- `set_row_in` meets its contract: the stores come one behind the other.
use native.Mathlib.Omega.{arith}
use native.Mathlib.Numerals.{add-one, add-two, add-three}
use lib.ListN.{length-set}
use Rattle.rules.specs.Table.{row_words_of}
use Rattle.words.proofs.inner.set_row_in.Goals as goal

pub bounds-words-at-2 : goal.bounds-words-at-2
bounds-words-at-2 c = simp length-set (omega arith)

pub bounds-words-at-3 : goal.bounds-words-at-3
bounds-words-at-3 c = simp length-set (omega arith)

pub bounds-words-at-4 : goal.bounds-words-at-4
bounds-words-at-4 c = simp length-set (omega arith)

pub returns : goal.returns
unfolding row_words_of
returns c = simp (add-one, add-two, add-three)
