-- `bad_last` meets its contract: the kind decides who judges.
use mathlib.Core.Path.{◌≡◌, ap, ◌∙◌}
use native.Mathlib.Omega.{arith}
use borrow.Author.Tests.{ne_eqb, lt-ltb, le-ltb}
use Rattle.rules.specs.TakeBack.{bad_last, last_kind}
use Rattle.kinds.specs.Numbers.{number}
use Rattle.kinds.proofs.Numbers.{number-known, rewriting-some}
use Rattle.last_entry.proofs.Lasts.{step-stands, kind-word}
use Rattle.last_entry.proofs.inner.bad_last.Goals as goal

pub last_word-requires-clause-step_stands : goal.last_word-requires-clause-step_stands
last_word-requires-clause-step_stands c = step-stands _ c.requires

pub returns-in_default : goal.returns-in_default
unfolding bad_last
returns-in_default c =
    let k = c.last_word.ensures ∙ kind-word c.args.desk.now in
    rw (lt-ltb 4 (last_kind c.args.desk.now) (omega (arith, k, c.in_default.ensures)))

pub returns-in-Decision : goal.returns-in-Decision
unfolding bad_last
returns-in-Decision c =
    let k : number c.in-Some.kind ≡ last_kind c.args.desk.now = c.in-Some.ensures ∙ c.last_word.ensures ∙ kind-word c.args.desk.now in
    let none : last_kind c.args.desk.now ≡ 0 = omega (arith, k, ap number c.in-Decision.is) in
    rw none c.bad_decision.ensures

pub bad_rewriting-requires : goal.bad_rewriting-requires
bad_rewriting-requires c =
    let k : number c.in-Some.kind ≡ last_kind c.args.desk.now = c.in-Some.ensures ∙ c.last_word.ensures ∙ kind-word c.args.desk.now in
    record {
      stands = c.requires;
      kind_told = k;
      some = omega (arith, k, rewriting-some c.in-Some.kind c.in_default-kind.not-Decision);
    }

pub returns-in_default-kind : goal.returns-in_default-kind
unfolding bad_last
returns-in_default-kind c =
    let k : number c.in-Some.kind ≡ last_kind c.args.desk.now = c.in-Some.ensures ∙ c.last_word.ensures ∙ kind-word c.args.desk.now in
    let some = rewriting-some c.in-Some.kind c.in_default-kind.not-Decision in
    rw (
      le-ltb 4 (last_kind c.args.desk.now) (omega (arith, k, number-known c.in-Some.kind)),
      ne_eqb (last_kind c.args.desk.now) 0 (λ e. omega (arith, k, some)),
    )
    c.bad_rewriting.ensures
