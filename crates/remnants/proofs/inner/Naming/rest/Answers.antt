-- `rest` meets its contract: the first two remnants, without what they clash on.
use Rattle.remnants.proofs.inner.Naming.rest.Goals as goal

pub returns : goal.returns
returns c = rw (c.apart_from.ensures, c.clash.ensures, c.remnant.ensures, c.remnant-l.ensures)
