-- `lits_from` meets its contract: what is left of the line, read behind what was read, comes to what the whole line does.
use Prim.Native.Nat.{suc, ◌-◌}
use mathlib.Core.Path.{◌≡◌}
use Rattle.literals.specs.Literal.{most_variables}
use Rattle.literals.specs.Lits.{no_lits}
use Rattle.rules.specs.Reader.{lits_from}
use Rattle.lists_read.proofs.lits_from.Given as goal

abbrev pub invariant-loop-turn : goal.invariant-loop-turn
invariant-loop-turn l = lits_from (suc most_variables - l._turn) l.s l.at l.last l.lits ≡ lits_from (suc most_variables) l.s l.from 0 no_lits
