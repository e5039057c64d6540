-- `put_lits` meets its contract: the literals of the variables passed stand there.
use Rattle.rules.specs.Text.{lits_text}
use Rattle.pieces_written.specs.Stored.{Stored}
use Rattle.pieces_written.proofs.inner.put_lits.Given as goal

abbrev pub invariant-loop-v : goal.invariant-loop-v
invariant-loop-v l = Stored l.initial.out l.at (lits_text l.v l.l) l.next l.out
