-- `choice_of` meets its contract: whether the number is 0 chooses.
use borrow.Author.Tests.{eq-eqb, ne_eqb}
use Rattle.rules.specs.Choice.{choice_of}
use Rattle.c_searches.proofs.choice_of.Goals as goal

pub returns-then-n-eq0 : goal.returns-then-n-eq0
unfolding choice_of
returns-then-n-eq0 c = rw (eq-eqb c.args.n 0 c.if-n-eq0.true)

pub returns-else-n-eq0 : goal.returns-else-n-eq0
unfolding choice_of
returns-else-n-eq0 c = rw (ne_eqb c.args.n 0 c.if-n-eq0.false)
