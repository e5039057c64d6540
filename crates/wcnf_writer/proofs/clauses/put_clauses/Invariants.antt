-- `put_clauses` meets its contract: the clauses passed stand there.
use Rattle.rules.specs.Wcnf.{clauses_text}
use Rattle.pieces_written.specs.Stored.{Stored}
use Rattle.wcnf_writer.proofs.clauses.put_clauses.Given as goal

abbrev pub invariant-loop-i : goal.invariant-loop-i
invariant-loop-i l = Stored l.initial.out l.at (clauses_text l.top l.table l.i) l.next l.out
