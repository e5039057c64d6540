-- `shows` meets its contract: the code is the definition, over what is called.
use Rattle.masks.specs.Masks.{none}
use Rattle.rules.specs.Rewrite.{shows}
use Rattle.remnants.proofs.inner.shows.Goals as goal

pub returns : goal.returns
unfolding shows none
returns c =
    rw (
      c.is_same.ensures,
      c.together.ensures,
      c.variables-2.ensures,
      c.variables.ensures,
      c.is_one-2.ensures,
      c.is_one.ensures,
    )
