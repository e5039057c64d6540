-- `literal_scan` meets its contract: after i turns it is the scan of the first i rows, and no conflict is met.
use Rattle.rules.specs.Desk.{satisfied}
use Rattle.group_laws.specs.Trails.{weights_in}
use Rattle.looking.specs.Looks.{lits_on, hunt_of, sided}
use Rattle.hunts.proofs.Scanning.{Passed}
use Rattle.hunts.proofs.inner.literal_scan.Given as goal

abbrev pub invariant-loop-i : goal.invariant-loop-i
invariant-loop-i l =
    Passed (lits_on l.desk) (weights_in l.weights) (satisfied (sided l.bit l.positive)) (hunt_of l.initial.t l.initial.masks l.initial.rows) l.in_use l.i l.t l.masks l.rows
