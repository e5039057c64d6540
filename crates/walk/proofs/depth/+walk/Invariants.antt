-- It calls itself with one variable fixed, and the number of undecided variables, the measure, falls.
use lib.ListN.{length}
use Rattle.rules.specs.Desk.{variables}
use Rattle.rules.specs.Walk.{undecided}
use Rattle.walk.proofs.depth.+walk.Given as goal

abbrev pub decreases-walk : goal.decreases-walk
decreases-walk l = length (undecided (variables l.desk.words.now) l.p.decided)
