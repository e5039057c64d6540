-- `read` meets its contract: it is the reader of as many rows as may be loaded.
use Rattle.reader.proofs.read.Goals as goal

pub returns : goal.returns
returns c = c.read_up_to.ensures
