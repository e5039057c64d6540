-- `fork` meets its contract: the code is the definition, over what is called.
use Rattle.rules.specs.Rewrite.{forks, forked}
use Rattle.remnants.specs.Rows.{link_of}
use Rattle.fitting.proofs.fork.Goals as goal

pub returns : goal.returns
unfolding forks forked link_of
returns c =
    rw (
      c.shows-3.ensures,
      c.negated-2.ensures,
      c.negated.ensures,
      c.shows-2.ensures,
      c.shows.ensures,
      c.less-c.ensures,
      c.less-b.ensures,
      c.remnant-three.ensures,
      c.remnant-two.ensures,
      c.remnant-one.ensures,
      c.negated-no.ensures,
      c.follow-link.ensures,
    )
