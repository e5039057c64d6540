-- `undo_decision` meets its contract: the bit leaves both masks, then the entry is withdrawn.
use mathlib.Core.Path.{ap, ◌∙◌}
use native.Mathlib.Omega.{arith}
use lib.ListN.{length, length-set}
use Rattle.rules.specs.TakeBack.{undo_decision, last_variable}
use Rattle.step_laws.proofs.Entries.{length-withdrawn}
use Rattle.taking_back.proofs.Undo.{steps-still, head-fits, variable-some, still-by-two}
use Rattle.taking_back.proofs.inner.undo_decision.Goals as goal

pub last_word-requires : goal.last_word-requires
last_word-requires c =
    record {
      step_stands = steps-still _ c.requires.desk_value;
      k_lt_entry_words = omega arith;
    }

pub overflow_sub-last_word : goal.overflow_sub-last_word
unfolding last_variable
overflow_sub-last_word c = omega (arith, c.last_word.ensures, variable-some _ c.requires.desk_value c.requires.desk_value_2)

pub bounds-desk-5 : goal.bounds-desk-5
bounds-desk-5 c = omega (arith, head-fits _ c.requires.desk_value)

pub bounds-desk-6 : goal.bounds-desk-6
bounds-desk-6 c = omega (arith, head-fits _ c.requires.desk_value)

pub bounds-desk-5-2 : goal.bounds-desk-5-2
bounds-desk-5-2 c = omega (arith, head-fits _ c.requires.desk_value)

pub bounds-desk-6-2 : goal.bounds-desk-6-2
bounds-desk-6-2 c = simp length-set (omega (arith, head-fits _ c.requires.desk_value))

pub withdraw-requires : goal.withdraw-requires
withdraw-requires c = still-by-two _ 5 6 _ _ (λ e. omega arith) (λ e. omega arith) (λ e. omega arith) (λ e. omega arith) (steps-still _ c.requires.desk_value)

pub shape_of-desk : goal.shape_of-desk
shape_of-desk c = ap length c.withdraw.ensures ∙ length-withdrawn _ ∙ simp length-set

pub returns : goal.returns
unfolding undo_decision last_variable
returns c =
    rw (
      c.withdraw.ensures,
      c.without-truths.ensures,
      c.without-decided.ensures,
      c.single-v.ensures,
      c.last_word.ensures,
    )
