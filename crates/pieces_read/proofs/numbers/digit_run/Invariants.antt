-- `digit_run` meets its contract: what was counted and what is left to count make the whole.
use Prim.Native.Nat.{suc, ◌+◌, ◌-◌}
use mathlib.Core.Path.{◌≡◌}
use Rattle.rules.specs.Reader.{digit_run}
use Rattle.rules.specs.Text.{most_digits}
use Rattle.pieces_read.proofs.numbers.digit_run.Given as goal

abbrev pub invariant-loop-n : goal.invariant-loop-n
invariant-loop-n l = l.n + digit_run l.s (l.at + l.n) (suc most_digits - l.n) ≡ digit_run l.s l.at (suc most_digits)
