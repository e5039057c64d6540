-- `take_back_step` meets its contract: the kind decides what is undone.
use mathlib.Core.Path.{sym, ◌∙◌}
use native.Mathlib.Omega.{arith}
use borrow.Author.Tests.{eq-eqb, ne_eqb}
use Rattle.rules.specs.TakeBack.{take_back_step, last_kind}
use Rattle.last_entry.proofs.Lasts.{kind-word}
use Rattle.taking_back.proofs.Undo.{steps-still}
use Rattle.taking_back.proofs.inner.take_back_step.Goals as goal

pub last_word-requires : goal.last_word-requires
last_word-requires c =
    record {
      step_stands = steps-still _ c.requires;
      k_lt_entry_words = omega arith;
    }

pub undo_decision-requires : goal.undo_decision-requires
undo_decision-requires c =
    record {
      desk_value = c.requires;
      desk_value_2 = sym (c.last_word.ensures ∙ kind-word c.args.desk.now) ∙ c.if-last_word-eq0.true;
    }

pub returns-then-last_word-eq0 : goal.returns-then-last_word-eq0
unfolding take_back_step
returns-then-last_word-eq0 c =
    let k =
    sym (c.last_word.ensures ∙ kind-word c.args.desk.now) ∙ c.if-last_word-eq0.true in
    rw (eq-eqb (last_kind c.args.desk.now) 0 k) c.undo_decision.ensures

pub undo_rewriting-requires : goal.undo_rewriting-requires
undo_rewriting-requires c =
    let k = c.last_word.ensures ∙ kind-word c.args.desk.now in
    record {
      desk_value = c.requires;
      desk_nonzero = omega (arith, k, c.if-last_word-eq0.false);
    }

pub returns : goal.returns
unfolding take_back_step
returns c =
    let k = c.last_word.ensures ∙ kind-word c.args.desk.now in
    rw (ne_eqb (last_kind c.args.desk.now) 0 (λ e. c.if-last_word-eq0.false (k ∙ e))) c.undo_rewriting.ensures
