-- `word` meets its contract: past the end the list answers 0 too.
use mathlib.Core.Path.{sym}
use lib.ListN.{get_or-eq_default}
use Rattle.rules.proofs.heads.word.Goals as goal

pub returns-else-i-words : goal.returns-else-i-words
returns-else-i-words c = sym (get_or-eq_default c.args.words.now 0 c.if-i-words.false)
