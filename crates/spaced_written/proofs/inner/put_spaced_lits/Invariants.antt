-- `put_spaced_lits` meets its contract: the literals of the variables passed stand there.
use Rattle.rules.specs.Wcnf.{spaced_lits}
use Rattle.pieces_written.specs.Stored.{Stored}
use Rattle.spaced_written.proofs.inner.put_spaced_lits.Given as goal

abbrev pub invariant-loop-v : goal.invariant-loop-v
invariant-loop-v l = Stored l.initial.out l.at (spaced_lits 0 l.v l.l) l.next l.out
