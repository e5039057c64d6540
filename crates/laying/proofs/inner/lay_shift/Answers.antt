-- `lay_shift` meets its contract: l2 is what the second row holds beside not l1.
use Rattle.laying.proofs.Laying.{shift-laid}
use Rattle.laying.proofs.inner.lay_shift.Goals as goal

pub returns : goal.returns
returns c =
    shift-laid _ _ _ _ c.remnant-one.ensures c.remnant.ensures
    c.negated.ensures c.less-two.ensures c.negated-2.ensures c.together.ensures
    c.lay_two.ensures
