-- `Literal::is_positive` meets its contract: the value that is compared is the number.
use mathlib.Core.Path.{ap}
use lib.IntN.{pos}
use lib.Signed.{lt_z}
use Rattle.literals.specs.Literal.{is_positive}
use Rattle.literals.proofs.Signed.{back}
use Rattle.literals.proofs.Literal.is_positive.Goals as goal

pub returns : goal.returns
unfolding is_positive
returns c = ap (lt_z (pos 0)) (back c.args.self.value (record { sfits = c.struct_told-1.given.0.1 }))
