-- `put_parting` meets its contract: nothing, or a space.
use Rattle.text_laws.proofs.Pieces.{parting-first, parting-later}
use Rattle.pieces_written.proofs.Storing.{stored-none}
use Rattle.pieces_written.proofs.inner.put_parting.Goals as goal

pub returns-then-first : goal.returns-then-first
returns-then-first c = rw (c.if-first.true, parting-first) stored-none

pub returns : goal.returns
returns c = rw (c.if-first.false, parting-later) c.put.ensures
