-- `Literal::new` meets its contract: it refuses by the definition's test, and the value it keeps is the number.
use mathlib.Core.Path.{◌≡◌, sym, ap, ◌∙◌}
use mathlib.Core.Bool.{true, false}
use Rattle.literals.specs.Literal.{is_literal, offered}
use Rattle.literals.proofs.Signed.{back}
use Rattle.literals.proofs.Literal.new.Goals as goal

pub returns-then-is_literal : goal.returns-then-is_literal
unfolding offered
returns-then-is_literal c =
    let same = back c.args.value c.ranges.value in
    let yes : is_literal c.args.value ≡ true = ap is_literal (sym same) ∙ sym c.is_literal.ensures ∙ c.if-is_literal.true in
    rw (same, yes)

pub returns-else-is_literal : goal.returns-else-is_literal
unfolding offered
returns-else-is_literal c =
    let same = back c.args.value c.ranges.value in
    let no : is_literal c.args.value ≡ false = ap is_literal (sym same) ∙ sym c.is_literal.ensures ∙ c.if-is_literal.false in
    rw no
