-- `reaches` meets its contract: C is compared with its limit before it is multiplied.
use native.Mathlib.Omega.{arith}
use borrow.Author.Tests.{le-leb, lt-leb}
use Rattle.rules.specs.Desk.{most_capacity, capacity, reaches, desk_words, row_place}
use Rattle.formed.proofs.reaches.Goals as goal

pub returns-then-c-gt-MOST_CAPACITY : goal.returns-then-c-gt-MOST_CAPACITY
unfolding reaches
returns-then-c-gt-MOST_CAPACITY c = rw (lt-leb (capacity c.args.desk.now) most_capacity (omega (arith, c.word-c.ensures)))

pub returns : goal.returns
unfolding reaches desk_words row_place
returns c = rw (c.word-c.ensures, le-leb (capacity c.args.desk.now) most_capacity (omega (arith, c.word-c.ensures)))
