-- `first_scan` meets its contract: after i turns it is the scan of the first i rows, and no conflict is met.
use Rattle.rules.specs.Groups.{hunt_from}
use Rattle.group_laws.specs.Trails.{weights_in}
use Rattle.looking.specs.Looks.{lits_on, left_one}
use Rattle.hunts.proofs.Scanning.{Passed}
use Rattle.hunts.proofs.inner.first_scan.Given as goal

abbrev pub invariant-loop-i : goal.invariant-loop-i
invariant-loop-i l = Passed (lits_on l.desk) (weights_in l.weights) (left_one l.p) (hunt_from l.p) l.n l.i l.t l.masks l.rows
