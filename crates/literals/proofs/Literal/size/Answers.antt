-- `Literal::size` meets its contract: the library's size of a number is the definition's.
use Rattle.std.proofs.Common.{rules}
use mathlib.Core.Path.{ap, ◌∙◌}
use lib.IntN.{nat_abs}
use mir.Syntax.{w64}
use mir.Val.{SFits}
use Rattle.literals.specs.Literal.{size}
use Rattle.literals.proofs.Signed.{back}
use Rattle.literals.proofs.Literal.size.Goals as goal

pub returns : goal.returns
unfolding size
returns c =
    let in-range : SFits w64 c.args.self.value = search rules in
    c.unsigned_abs.ensures.value ∙ ap nat_abs (back c.args.self.value in-range)
