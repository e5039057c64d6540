-- `members_from` meets its contract: what is left of the clause, gathered behind what was, comes to what the whole clause does.
use Prim.Native.Nat.{◌-◌}
use mathlib.Core.Path.{◌≡◌}
use mathlib.Core.Bool.{false}
use lib.ListN.{length}
use Rattle.literals.specs.Lits.{no_lits}
use Rattle.rules.specs.WcnfReader.{members_from}
use Rattle.wcnf_pieces.specs.Clauses.{gathered}
use Rattle.wcnf_pieces.proofs.clauses.members_from.Given as goal

abbrev pub invariant-loop-turn : goal.invariant-loop-turn
invariant-loop-turn l =
    gathered l.variables l.lits l.above (members_from (length l.s - l._turn) l.s l.at)
    ≡ gathered l.variables no_lits false (members_from (length l.s) l.s l.from)
