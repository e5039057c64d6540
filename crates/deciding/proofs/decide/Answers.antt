-- `decide` meets its contract: refused by 10 or 11, by the constructor of a literal, by its reach, or decided. A refusal leaves the words as
-- found, and what is not refused has an entry left.
use mathlib.Core.Path.{◌≡◌, sym, ap, ◌∙◌}
use Rattle.std.specs.Prelude.{Err}
use Rattle.masks.proofs.Choice.{handed-on, some-of-ok, none-of-err}
use Rattle.literals.specs.declared.Literal.{Literal}
use Rattle.literals.specs.Literal.{is_literal, offered}
use Rattle.literals.proofs.Offers.{offered-fine}
use Rattle.literals.proofs.Signed.{back}
use Rattle.rules.specs.declared.Refusal.TheVariants.{BadLiteral}
use Rattle.deciding.proofs.Deciding.{decide-room, decide-early, decide-no-literal, decide-out, decide-in, decide-done}
use Rattle.deciding.proofs.decide.Goals as goal

pub returns-in_err-step_why : goal.returns-in_err-step_why
returns-in_err-step_why c =
    let told = decide-early c.args.desk.now c.args.literal _ c.step_why.ensures _ c.in_err-step_why.was in
    record {
      value = handed-on c.from_residual.result c.in_err-step_why.field-0.0 c.from_residual.ensures.1 ∙ sym c.in_err-step_why.was ∙ told.0;
      desk_after = told.1;
    }

pub returns-in_err-l : goal.returns-in_err-l
returns-in_err-l c =
    let met : c.new.result ≡ offered c.args.literal = c.new.ensures ∙ ap offered (back c.args.literal c.ranges.literal) in
    let none = none-of-err c.new.result BadLiteral c.ok_or.result c.in_err-l.field-0.0 c.ok_or.ensures.value c.in_err-l.was in
    let told = decide-no-literal c.args.desk.now c.args.literal _ c.step_why.ensures c.in_ok-step_why.was (sym met ∙ none.0) in
    record {
      value = handed-on c.from_residual-in_err-l.result c.in_err-l.field-0.0 c.from_residual-in_err-l.ensures.1 ∙ ap Err none.1 ∙ told.0;
      desk_after = told.1;
    }

pub out_of_reach-requires : goal.out_of_reach-requires
out_of_reach-requires c =
    let met : c.new.result ≡ offered c.args.literal = c.new.ensures ∙ ap offered (back c.args.literal c.ranges.literal) in
    let is = offered-fine c.args.literal _ (sym met ∙ some-of-ok c.new.result BadLiteral c.ok_or.result _ c.ok_or.ensures.value c.in_ok-l.was) in
    ap (λ (l : Literal). is_literal l.value) is.1 ∙ is.0

pub returns-then-out_of_reach : goal.returns-then-out_of_reach
returns-then-out_of_reach c =
    let met : c.new.result ≡ offered c.args.literal = c.new.ensures ∙ ap offered (back c.args.literal c.ranges.literal) in
    let told =
    let made = sym met ∙ some-of-ok c.new.result BadLiteral c.ok_or.result _ c.ok_or.ensures.value c.in_ok-l.was in
    decide-out c.args.desk.now c.args.literal _ c.step_why.ensures c.in_ok-step_why.was _ made _
    c.out_of_reach.ensures c.if-out_of_reach.true
    in record { value = told.0; desk_after = told.1 }

pub decide_step-requires : goal.decide_step-requires
decide_step-requires c =
    let met : c.new.result ≡ offered c.args.literal = c.new.ensures ∙ ap offered (back c.args.literal c.ranges.literal) in
    let made = sym met ∙ some-of-ok c.new.result BadLiteral c.ok_or.result _ c.ok_or.ensures.value c.in_ok-l.was in
    decide-room c.args.desk.now c.args.literal
    (decide-in c.args.desk.now c.args.literal _ c.step_why.ensures c.in_ok-step_why.was _ made _
    c.out_of_reach.ensures c.if-out_of_reach.false)

pub returns : goal.returns
returns c =
    let met : c.new.result ≡ offered c.args.literal = c.new.ensures ∙ ap offered (back c.args.literal c.ranges.literal) in
    let told =
    let made = sym met ∙ some-of-ok c.new.result BadLiteral c.ok_or.result _ c.ok_or.ensures.value c.in_ok-l.was in
    decide-done c.args.desk.now c.args.literal _ c.step_why.ensures c.in_ok-step_why.was _ made _
    c.out_of_reach.ensures _ c.if-out_of_reach.false c.decide_step.ensures
    in record { value = told.0; desk_after = told.1 }
