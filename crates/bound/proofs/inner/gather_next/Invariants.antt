-- `gather_next` meets its contract: after i turns each of the sums, and what is lost, is that of the rows up to there.
use Prim.Native.Nat.{◌+◌}
use mathlib.Core.Path.{◌≡◌}
use Rattle.desk_laws.specs.Charged.{lost_charged}
use Rattle.bound.specs.Units.{Gathered}
use Rattle.bound.proofs.inner.gather_next.Given as goal

abbrev pub invariant-loop-i : goal.invariant-loop-i
invariant-loop-i l =
    (l.lost ≡ lost_charged l.charge l.desk.words.now l.p (l.from + l.i)) × Gathered l.desk.words.now l.p (l.from + l.i) l.sums
