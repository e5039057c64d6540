-- `closed` meets its contract: the line ends there, or it does not.
use native.Mathlib.Omega.{arith}
use Rattle.std.proofs.lemmas.Grind.{common_steps}
use Rattle.wcnf_pieces.specs.Clauses.{closed_at}
use Rattle.wcnf_pieces.proofs.clauses.closed.Goals as goal

pub returns-then-ended : goal.returns-then-ended
unfolding closed_at
returns-then-ended c = grind (arith, common_steps)

pub returns : goal.returns
unfolding closed_at
returns c = grind (arith, common_steps)
