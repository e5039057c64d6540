-- `put_number` meets its contract: ten digits at most.
use Rattle.rules.specs.Text.{number_text}
use Rattle.pieces_written.proofs.inner.put_number.Goals as goal

pub returns : goal.returns
unfolding number_text
returns c = c.put_digits.ensures
