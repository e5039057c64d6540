-- `out_of_reach` meets its contract: a literal's size is at least 1, and the code is the definition.
use native.Mathlib.Omega.{arith}
use Rattle.literals.proofs.Opposites.{literal-sized}
use Rattle.deciding.specs.Order.{out_of_reach}
use Rattle.deciding.proofs.out_of_reach.Goals as goal

pub overflow_sub-v : goal.overflow_sub-v
overflow_sub-v c = omega (arith, c.size-v.ensures, (literal-sized _ c.requires).some)

pub returns : goal.returns
unfolding out_of_reach
returns c =
    rw (
      c.has.ensures,
      c.word-2.ensures,
      c.word.ensures,
      c.size-v.ensures,
    )
