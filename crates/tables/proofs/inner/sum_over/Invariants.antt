-- `sum_over` meets its contract: what is left, with the start and the rows passed, is the limit; past it the sum only grows.
use mathlib.Core.Path.{◌≡◌}
use Prim.Native.Nat.{ℕ, ◌+◌, ◌*◌}
use mathlib.Core.List.{List}
use Rattle.masks.specs.Sums.{sum}
use Rattle.rules.specs.Table.{row_words, most_weight, row_in}
use Rattle.tables.proofs.inner.sum_over.Given as goal

abbrev weights : List ℕ → ℕ → ℕ → ℕ
weights words from i = (row_in words (from + row_words * i)).weight

abbrev pub invariant-loop-i : goal.invariant-loop-i
invariant-loop-i l = l.left + (l.start + sum l.i (weights l.words l.from)) ≡ most_weight
