-- `gather` meets its contract: after some turns each of the sums, and what is lost, is that of the rows up to there, and then of those left.
use Prim.Native.Nat.{◌*◌}
use mathlib.Core.Path.{◌≡◌}
use Rattle.desk_laws.specs.Charged.{lost_charged}
use Rattle.bound.specs.Units.{Gathered}
use Rattle.bound.proofs.inner.gather.Given as goal

abbrev pub invariant-loop-turn : goal.invariant-loop-turn
invariant-loop-turn l = (l.lost ≡ lost_charged l.charge l.desk.words.now l.p (4 * l.turn)) × Gathered l.desk.words.now l.p (4 * l.turn) l.sums
