-- `apart_from` meets its contract: each mask is what `without` ensures.
use Rattle.rules.specs.Rewrite.{apart_from}
use Rattle.remnants.proofs.inner.apart_from.Goals as goal

pub returns : goal.returns
unfolding apart_from
returns c = rw (c.without-positive.ensures, c.without-negative.ensures)
