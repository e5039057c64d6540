-- `decide_step` meets its contract: the entry, then the two masks.
use lib.ListN.{length-set}
use Rattle.rules.specs.Decide.{decide_step}
use borrow.Author.Rules.{rules}
use Rattle.deciding.proofs.inner.decide_step.Goals as goal

pub bounds-desk-6-2 : goal.bounds-desk-6-2
bounds-desk-6-2 c = simp length-set (search rules)

pub returns : goal.returns
unfolding decide_step
returns c =
    rw (
      c.enter.ensures,
      c.decision_entry.ensures,
      c.put_if-truths.ensures,
      c.is_positive.ensures,
      c.mask-bit.ensures,
    )
