-- `Lits::is_one` meets its contract: it adds the two counts, which are at most 64 each.
use native.Mathlib.Omega.{arith}
use Rattle.masks.proofs.Counts.{count-le}
use Rattle.literals.specs.Lits.{is_one}
use Rattle.literals.proofs.Lits.is_one.Goals as goal

pub overflow_add-result : goal.overflow_add-result
overflow_add-result c = record { fits = omega (arith, count-le c.args.self.positive, count-le c.args.self.negative, c.count-positive.ensures, c.count-negative.ensures) }

pub returns : goal.returns
unfolding is_one
returns c = rw (c.count-positive.ensures, c.count-negative.ensures)
