-- `bad_decision` meets its contract: variable 0 is never decided.
use mathlib.Core.Path.{sym, ◌∙◌}
use native.Mathlib.Omega.{arith}
use borrow.Author.Tests.{eq-eqb, ne_eqb}
use Rattle.rules.specs.TakeBack.{bad_decision, last_variable}
use Rattle.last_entry.proofs.Lasts.{step-stands}
use Rattle.last_entry.proofs.inner.bad_decision.Goals as goal

pub last_word-v-requires : goal.last_word-v-requires
last_word-v-requires c =
    record {
      step_stands = step-stands _ c.requires;
      k_lt_entry_words = omega arith;
    }

pub returns-then-v-eq0 : goal.returns-then-v-eq0
unfolding bad_decision last_variable
returns-then-v-eq0 c = rw (eq-eqb _ 0 (sym c.last_word-v.ensures ∙ c.if-v-eq0.true))

pub returns : goal.returns
unfolding bad_decision last_variable
returns c = rw (ne_eqb _ 0 (λ e. c.if-v-eq0.false (c.last_word-v.ensures ∙ e)), c.has.ensures, c.word.ensures, c.last_word-v.ensures)
