-- `put_key` meets its contract: what is left of the key, stored behind what is, is the whole key stored.
use mathlib.Core.Path.{◌≡◌}
use Prim.Native.Nat.{◌+◌}
use lib.ListN.{drop}
use lib.Seq.{sets}
use Rattle.pieces_written.proofs.inner.put_key.Given as goal

abbrev pub invariant-loop-b : goal.invariant-loop-b
invariant-loop-b l = (l.next ≡ l.at + l.b-index) × (sets l.out (l.at + l.b-index) (drop l.b-index l.key) ≡ sets l.initial.out l.at l.key)
