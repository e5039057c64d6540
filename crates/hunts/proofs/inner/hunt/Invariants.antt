-- `hunt` meets its contract: after k turns it is what the first k entries have come to, from whatever partial reading it began with.
use mathlib.Core.Path.{◌≡◌}
use Rattle.rules.specs.declared.Part.{Part}
use Rattle.rules.specs.Desk.{in_use}
use Rattle.rules.specs.Groups.{drained}
use Rattle.group_laws.specs.Trails.{weights_in}
use Rattle.looking.specs.Looks.{lits_on, hunt_of}
use Rattle.hunts.proofs.Draining.{Drained}
use Rattle.hunts.proofs.inner.hunt.Given as goal

abbrev pub invariant-loop-k : goal.invariant-loop-k
invariant-loop-k l =
    (p : Part) → hunt_of l.initial.t l.initial.masks l.initial.rows ≡ drained (lits_on l.desk) (weights_in l.weights) (in_use l.desk) p 0
    → Drained (lits_on l.desk) (weights_in l.weights) (in_use l.desk) p l.n l.k l.t l.masks l.rows
