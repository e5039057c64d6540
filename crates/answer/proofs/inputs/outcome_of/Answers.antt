-- `outcome_of` meets its contract: too long, not read, or searched. A text that is read keeps its figures within their limits, and its
-- words stand behind those of the head.
use Prim.Native.Nat.{ℕ, ◌+◌, ◌*◌}
use mathlib.Core.Path.{◌≡◌, refl, sym, ap, ◌∙◌}
use mathlib.Core.List.{[], ◌++◌, append-nil}
use native.Mathlib.Omega.{arith}
use lib.ListN.{length, take, replicate}
use Rattle.masks.proofs.Choice.{handed-on}
use Rattle.rules.specs.Table.{row_words}
use Rattle.rules.specs.Desk.{head_words}
use Rattle.rules.specs.Program.{most_input_rows}
use Rattle.text_laws.proofs.Matched.{matched}
use Rattle.text_laws.proofs.Found.{ReadFine, read-fine, front-words}
use Rattle.outcomes.proofs.Heads.{first_read}
use Rattle.answer.proofs.Answering.{too_long, not-read, read}
use Rattle.answer.proofs.inputs.outcome_of.Goals as goal

pub returns-then-input-gt-MOST_INPUT : goal.returns-then-input-gt-MOST_INPUT
returns-then-input-gt-MOST_INPUT c = too_long c.args.input.now c.if-input-gt-MOST_INPUT.true

pub overflow_cast-budget : goal.overflow_cast-budget
overflow_cast-budget c =
    let fine : ReadFine most_input_rows c.args.input.now (row_words * most_input_rows)
    c.in_ok-variables.field-0.variables c.in_ok-variables.field-0.budget c.in_ok-variables.field-0.rows = read-fine _ _ _ _ _ _ (matched c.read_up_to.ensures.answer c.in_ok-variables.was) in
    omega (arith, fine.budget)

pub slice_bounds-search_read-end : goal.slice_bounds-search_read-end
slice_bounds-search_read-end c =
    let long : length (replicate {A = ℕ} head_words 0 ++ (c.read_up_to.new.table ++ [])) ≡ head_words + row_words * most_input_rows = omega (arith, c.read_up_to.auto.table, ap length (append-nil c.read_up_to.new.table)) in
    sym long

pub search_read-requires : goal.search_read-requires
search_read-requires c =
    let fine : ReadFine most_input_rows c.args.input.now (row_words * most_input_rows)
    c.in_ok-variables.field-0.variables c.in_ok-variables.field-0.budget c.in_ok-variables.field-0.rows = read-fine _ _ _ _ _ _ (matched c.read_up_to.ensures.answer c.in_ok-variables.was) in
    let long : length (replicate {A = ℕ} head_words 0 ++ (c.read_up_to.new.table ++ [])) ≡ head_words + row_words * most_input_rows = omega (arith, c.read_up_to.auto.table, ap length (append-nil c.read_up_to.new.table)) in
    omega (arith, fine.few, long)

pub returns-in_err-variables : goal.returns-in_err-variables
returns-in_err-variables c =
    let told = matched c.read_up_to.ensures.answer c.in_err-variables.was in
    handed-on c.from_residual.result c.in_err-variables.field-0.0 c.from_residual.ensures.1
    ∙ not-read c.args.input.now c.if-input-gt-MOST_INPUT.false _ _ refl told

pub returns : goal.returns
returns c =
    let told = matched c.read_up_to.ensures.answer c.in_ok-variables.was in
    let table = replicate {A = ℕ} (row_words * most_input_rows) 0 in
    let stored = ap (take (row_words * c.in_ok-variables.field-0.rows)) c.read_up_to.ensures.words ∙ front-words most_input_rows c.args.input.now table _ _ _ told in
    let words = first_read (row_words * c.in_ok-variables.field-0.rows) _ ∙ stored in
    c.search_read.ensures ∙ read c.args.input.now c.if-input-gt-MOST_INPUT.false _ _ _ _ _ refl told words
