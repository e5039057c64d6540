-- `lightest` meets its contract: after i turns it has the smallest of the first row and the i behind it.
use Prim.Native.Nat.{ℕ}
use mathlib.Core.Path.{◌≡◌}
use mathlib.Core.List.{List}
use lib.ListN.{get_or}
use Rattle.masks.specs.Sums.{smallest}
use Rattle.rules.specs.Desk.{row_on}
use Rattle.remnants.proofs.inner.Naming.lightest.Given as goal

abbrev weights : List ℕ → List ℕ → ℕ → ℕ
weights desk named i = (row_on desk (get_or named i 0)).weight

abbrev pub invariant-loop-row : goal.invariant-loop-row
invariant-loop-row l = l.least ≡ smallest l.row-index (weights l.self.desk.now l.self.named.now)
