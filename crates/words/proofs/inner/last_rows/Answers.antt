-- `last_rows` meets its contract: the row numbers are copied from where they lie in the entry.
use mathlib.Core.Path.{◌∙◌}
use native.Mathlib.Omega.{arith}
use lib.Seq.{get_or-take, get_or-drop}
use Rattle.rules.specs.Desk.{row_place, entry_place}
use Rattle.rules.specs.TakeBack.{last_place, last_named}
use Rattle.words.proofs.inner.last_rows.Goals as goal

pub returns : goal.returns
unfolding last_named last_place entry_place row_place
returns c = λ k h. rw c.copy_from_slice.ensures.after (get_or-take _ _ k 0 (omega arith) ∙ get_or-drop _ c.args.desk.now k 0)
