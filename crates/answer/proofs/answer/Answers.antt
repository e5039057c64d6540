-- `answer` meets its contract: the lines of what the input came to are stored as any text.
use mathlib.Core.Path.{sym, ◌∙◌, subst}
use Rattle.readings.specs.Line.{Counted}
use Rattle.answer.proofs.Lengths.{outcome-counted}
use Rattle.answer.proofs.Answering.{lines_are}
use Rattle.answer.proofs.answer.Goals as goal

pub invariant_of-text : goal.invariant_of-text
invariant_of-text c = record { few = λ o e. (subst Counted (sym c.outcome_of.ensures ∙ e) (outcome-counted _)).0 }

pub returns : goal.returns
returns c =
    let lines = lines_are c.args.input.now _ c.outcome_of.ensures in
    record { answer = rw lines at c.store.ensures.answer; bytes = rw lines at c.store.ensures.bytes }
