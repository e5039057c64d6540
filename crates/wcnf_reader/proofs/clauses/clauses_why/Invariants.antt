-- `clauses_why` meets its contract: the clauses that are left, from this line on, are judged as all of them are.
use Prim.Native.Nat.{◌+◌, ◌-◌}
use mathlib.Core.Path.{◌≡◌}
use Rattle.rules.specs.WcnfReader.{clauses_why}
use Rattle.wcnf_reader.proofs.clauses.clauses_why.Given as goal

abbrev pub invariant-loop-i : goal.invariant-loop-i
invariant-loop-i l =
    clauses_why (l.clauses - l.i) l.i l.variables l.s l.at (l.first + l.i) ≡ clauses_why l.clauses 0 l.variables l.s l.from l.first
