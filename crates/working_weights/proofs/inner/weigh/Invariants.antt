-- `weigh` meets its contract: after i turns the first i working weights are stored, and what is lost is that of the first i rows.
use mathlib.Core.Path.{◌≡◌}
use Rattle.desk_laws.specs.Charged.{lost_charged}
use Rattle.working_weights.specs.Works.{Works}
use Rattle.working_weights.proofs.inner.weigh.Given as goal

abbrev pub invariant-loop-i : goal.invariant-loop-i
invariant-loop-i l = (l.lost ≡ lost_charged l.charge l.desk.words.now l.p l.i) × Works l.desk.words.now l.p l.i l.initial.weights l.weights
