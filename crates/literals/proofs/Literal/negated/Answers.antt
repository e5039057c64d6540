-- `Literal::negated` meets its contract: a literal is far from the ends of the type, so its negation is in range; anything else stays.
use mathlib.Core.Path.{◌≡◌, sym, ap, ◌∙◌}
use mathlib.Core.Bool.{true}
use lib.IntN.{neg_ℤ}
use Rattle.literals.specs.Literal.{is_literal}
use Rattle.literals.proofs.Signed.{again, back, turned}
use Rattle.literals.proofs.Opposites.{opposite-literal, opposite-other, opposite-fits}
use Rattle.literals.proofs.Literal.negated.Goals as goal

pub overflow_sub-n : goal.overflow_sub-n
overflow_sub-n c =
    let yes : is_literal c.args.self.value ≡ true = sym c.is_literal.ensures ∙ c.if-is_literal.true in
    rw (turned c.args.self.value (record { sfits = c.struct_told-1.given.0.1 })) (opposite-fits c.args.self.value yes)

pub returns-then-is_literal : goal.returns-then-is_literal
returns-then-is_literal c =
    let yes : is_literal c.args.self.value ≡ true = sym c.is_literal.ensures ∙ c.if-is_literal.true in
    let turns = turned c.args.self.value (record { sfits = c.struct_told-1.given.0.1 }) in
    ap again turns ∙ back (neg_ℤ c.args.self.value) (opposite-fits c.args.self.value yes) ∙ sym (opposite-literal c.args.self.value yes)

pub returns-else-is_literal : goal.returns-else-is_literal
returns-else-is_literal c = sym (opposite-other c.args.self.value (sym c.is_literal.ensures ∙ c.if-is_literal.false))
