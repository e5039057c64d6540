-- `merges` meets its contract: the code is the definition, over what is called.
use Rattle.remnants.specs.Rows.{merges_two}
use Rattle.remnants.proofs.inner.merges.Goals as goal

pub returns : goal.returns
unfolding merges_two
returns c =
    rw (
      c.is_same.ensures,
      c.apart_from-2.ensures,
      c.apart_from.ensures,
      c.count.ensures,
      c.clash-v.ensures,
    )
