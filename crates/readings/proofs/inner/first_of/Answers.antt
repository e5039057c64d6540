-- `first_of` meets its contract: the next bit less one, or all 64.
use mathlib.Core.Path.{◌≡◌, ◌∙◌}
use native.Mathlib.Omega.{arith}
use lib.Pow.{pow_pos}
use Rattle.masks.proofs.Sets.{single-pow}
use Rattle.literals.specs.Literal.{most_variables}
use Rattle.readings.proofs.inner.first_of.Goals as goal

pub overflow_sub-result : goal.overflow_sub-result
overflow_sub-result c =
    let pow = c.single-next.ensures ∙ single-pow c.args.n c.if-n-lt-MOST.true in
    omega (arith, pow, pow_pos c.args.n)

pub returns-then-n-lt-MOST : goal.returns-then-n-lt-MOST
returns-then-n-lt-MOST c = rw (c.single-next.ensures, single-pow c.args.n c.if-n-lt-MOST.true)

pub returns-else-n-lt-MOST : goal.returns-else-n-lt-MOST
returns-else-n-lt-MOST c =
    let all : c.args.n ≡ most_variables = omega arith in
    rw all
