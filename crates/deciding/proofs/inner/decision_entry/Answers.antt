-- `decision_entry` meets its contract: the words are the definition's.
use Rattle.rules.specs.Decide.{decision_entry}
use Rattle.deciding.proofs.Deciding.{bool_word}
use Rattle.deciding.proofs.inner.decision_entry.Goals as goal

pub returns : goal.returns
unfolding decision_entry
returns c = rw (bool_word c.is_positive-value.result, c.is_positive-value.ensures, c.size-v.ensures)
