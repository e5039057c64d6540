-- `variable_at` meets its contract: no number, a number that is no variable, one that is not above the last, or a literal.
use Rattle.std.specs.Prelude.{Some}
use Prim.Native.Nat.{ℕ}
use mathlib.Core.Path.{◌≡◌, sym, ap, ◌∙◌}
use mathlib.Core.List.{List}
use native.Mathlib.Omega.{arith}
use lib.IntN.{pos}
use mir.Syntax.{w64}
use mir.Val.{SFits}
use Rattle.literals.specs.Literal.{offered}
use Rattle.literals.proofs.Signed.{back}
use Rattle.rules.specs.Reader.{number_at}
use Rattle.text_laws.proofs.Matched.{matched}
use Rattle.text_laws.proofs.Numbers.{number-found}
use Rattle.text_laws.proofs.Branches.{literal-broken}
use Rattle.lists_read.specs.Literals.{literal_read}
use Rattle.lists_read.proofs.Signs.{no-literal, not-above, above}
use Rattle.lists_read.proofs.variable_at.Goals as goal

-- a number of a text fits a signed word
fits : (s : List ℕ) (at v next : ℕ) → number_at s at ≡ Some (v, next) → SFits w64 (pos v)
fits s at v next e = record { sfits = omega (arith, (number-found s at v next e).small) }

pub returns-in_err-value : goal.returns-in_err-value
returns-in_err-value c =
    c.from_residual.ensures ∙ sym (ap literal_read (literal-broken _ c.args.last _ (matched c.number_at.ensures c.in_err-value.was)))

pub overflow_cast-value : goal.overflow_cast-value
overflow_cast-value c = fits _ _ _ _ (matched c.number_at.ensures c.in_ok-value.was)

pub returns-in_err-literal : goal.returns-in_err-literal
returns-in_err-literal c =
    let number = matched c.number_at.ensures c.in_ok-value.was in
    let refused = matched (c.new.ensures ∙ ap offered (back _ (fits _ _ _ _ number))) c.in_err-literal.was in
    c.from_residual-in_err-literal.ensures ∙ no-literal c.args.last _ _ _ number refused

pub returns-then-last-value : goal.returns-then-last-value
returns-then-last-value c =
    let number = matched c.number_at.ensures c.in_ok-value.was in
    let fine = matched (c.new.ensures ∙ ap offered (back _ (fits _ _ _ _ number))) c.in_ok-literal.was in
    above c.args.last _ _ _ number _ fine c.if-last-value.true

pub returns-else-last-value : goal.returns-else-last-value
returns-else-last-value c = not-above c.args.last _ _ _ (matched c.number_at.ensures c.in_ok-value.was) c.if-last-value.false
