-- `fork_end` meets its contract: a is where the chain leads, b and c are what the next two rows hold beside its negation.
use Rattle.rules.specs.Rewrite.{forked}
use Rattle.remnants.specs.Rows.{link_of}
use Rattle.remnants.specs.Rows.{fork_end}
use Rattle.remnants.proofs.inner.Naming.fork_end.Goals as goal

pub returns : goal.returns
unfolding fork_end forked link_of
returns c =
    rw (
      c.together-other.ensures,
      c.together-one.ensures,
      c.negated.ensures,
      c.together-bc.ensures,
      c.less-c.ensures,
      c.remnant-2.ensures,
      c.less-b.ensures,
      c.remnant.ensures,
      c.negated-no.ensures,
      c.follow.ensures,
    )
