-- `reweigh` meets its contract: after i turns the first i named rows have their new weight, and the next its old one.
use Prim.Native.Nat.{ℕ}
use mathlib.Core.Path.{◌≡◌}
use mathlib.Core.List.{List}
use lib.ListN.{length, get_or}
use Rattle.rules.specs.Steps.{reweighed}
use Rattle.named.specs.Reweigh.{new_weight}
use Rattle.named.proofs.inner.reweigh.Given as goal

abbrev row : List ℕ → ℕ → ℕ
row named i = get_or named i 0

abbrev pub invariant-loop-row : goal.invariant-loop-row
invariant-loop-row l = (l.desk ≡ reweighed (new_weight l.w l.regain) (row l.named) l.initial.desk l.row-index) × (length l.desk ≡ length l.initial.desk)
