-- `copy` meets its contract: after i turns the first i words are copied.
use Prim.Native.Nat.{◌≤◌}
use mathlib.Core.Path.{◌≡◌}
use lib.ListN.{length, take}
use lib.Seq.{sets}
use Rattle.desk.proofs.lay.copy.Given as goal

abbrev pub invariant-loop-i : goal.invariant-loop-i
invariant-loop-i l = (l.i ≤ length l.table) × (l.desk ≡ sets l.initial.desk l.at (take l.i l.table)) × (length l.desk ≡ length l.initial.desk)
