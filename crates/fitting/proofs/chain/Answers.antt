-- `chain` meets its contract: the code is the definition, over what is called.
use Rattle.rules.specs.Rewrite.{chains}
use Rattle.remnants.specs.Rows.{link_of}
use Rattle.fitting.proofs.chain.Goals as goal

pub returns : goal.returns
unfolding chains link_of
returns c =
    rw (
      c.is_same.ensures,
      c.negated.ensures,
      c.remnant.ensures,
      c.follow-link.ensures,
    )
