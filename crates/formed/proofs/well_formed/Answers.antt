-- `well_formed` meets its contract: the first of (a) to (e) that fails decides.
use mathlib.Core.Path.{◌≡◌, sym, ◌∙◌}
use mathlib.Core.Bool.{true}
use native.Mathlib.Omega.{arith}
use borrow.Author.Tests.{not-true, not-false}
use lib.Dec.{ltb}
use Rattle.rules.specs.Table.{most_weight}
use Rattle.rules.specs.Desk.{rows_sound, weight_on, reaches, in_limits}
use Rattle.formed.proofs.Branches.{Counted, counted, fits_not, fits-so, not_a, not-b, not-c, not-d, then-e}
use Rattle.formed.proofs.well_formed.Goals as goal

pub returns-then-not-reaches : goal.returns-then-not-reaches
returns-then-not-reaches c = sym (not_a c.args.desk.now (sym c.reaches.ensures ∙ not-true _ c.if-not-reaches.true-raw))

pub returns-then-not-in_limits : goal.returns-then-not-in_limits
returns-then-not-in_limits c =
    let a-holds : reaches c.args.desk.now ≡ true = sym c.reaches.ensures ∙ not-false _ c.if-not-reaches.false-raw in
    sym (not-b c.args.desk.now a-holds (sym c.in_limits.ensures ∙ not-true _ c.if-not-in_limits.true-raw))

pub rows_sound-requires : goal.rows_sound-requires
rows_sound-requires c =
    let a-holds : reaches c.args.desk.now ≡ true = sym c.reaches.ensures ∙ not-false _ c.if-not-reaches.false-raw in
    let b-holds : in_limits c.args.desk.now ≡ true = sym c.in_limits.ensures ∙ not-false _ c.if-not-in_limits.false-raw in
    let numbers : Counted c.args.desk.now = counted _ a-holds b-holds in
    let n = numbers in
    omega (arith, c.word-n.ensures)

pub returns-then-not-rows_sound : goal.returns-then-not-rows_sound
unfolding rows_sound
returns-then-not-rows_sound c =
    let a-holds : reaches c.args.desk.now ≡ true = sym c.reaches.ensures ∙ not-false _ c.if-not-reaches.false-raw in
    let b-holds : in_limits c.args.desk.now ≡ true = sym c.in_limits.ensures ∙ not-false _ c.if-not-in_limits.false-raw in
    let c-told : c.rows_sound.result ≡ rows_sound c.args.desk.now = rw (← c.word-n.ensures, ← c.word.ensures) c.rows_sound.ensures in
    sym (not-c c.args.desk.now a-holds b-holds (sym c-told ∙ not-true _ c.if-not-rows_sound.true-raw))

pub over-requires : goal.over-requires
over-requires c =
    let a-holds : reaches c.args.desk.now ≡ true = sym c.reaches.ensures ∙ not-false _ c.if-not-reaches.false-raw in
    let b-holds : in_limits c.args.desk.now ≡ true = sym c.in_limits.ensures ∙ not-false _ c.if-not-in_limits.false-raw in
    let numbers : Counted c.args.desk.now = counted _ a-holds b-holds in
    let n = numbers in
    omega (arith, c.word-n.ensures)

pub returns-then-over : goal.returns-then-over
unfolding rows_sound weight_on
returns-then-over c =
    let a-holds : reaches c.args.desk.now ≡ true = sym c.reaches.ensures ∙ not-false _ c.if-not-reaches.false-raw in
    let b-holds : in_limits c.args.desk.now ≡ true = sym c.in_limits.ensures ∙ not-false _ c.if-not-in_limits.false-raw in
    let c-told : c.rows_sound.result ≡ rows_sound c.args.desk.now = rw (← c.word-n.ensures, ← c.word.ensures) c.rows_sound.ensures in
    let d-told : c.over.result ≡ ltb most_weight (weight_on c.args.desk.now) = rw (← c.word-n.ensures, ← c.word-2.ensures) c.over.ensures in
    sym
    (not-d c.args.desk.now a-holds b-holds
    (sym c-told ∙ not-false _ c.if-not-rows_sound.false-raw)
    (fits_not c.args.desk.now (sym d-told ∙ c.if-over.true)))

pub returns : goal.returns
unfolding rows_sound weight_on
returns c =
    let a-holds : reaches c.args.desk.now ≡ true = sym c.reaches.ensures ∙ not-false _ c.if-not-reaches.false-raw in
    let b-holds : in_limits c.args.desk.now ≡ true = sym c.in_limits.ensures ∙ not-false _ c.if-not-in_limits.false-raw in
    let c-told : c.rows_sound.result ≡ rows_sound c.args.desk.now = rw (← c.word-n.ensures, ← c.word.ensures) c.rows_sound.ensures in
    let d-told : c.over.result ≡ ltb most_weight (weight_on c.args.desk.now) = rw (← c.word-n.ensures, ← c.word-2.ensures) c.over.ensures in
    c.masks_nest.ensures
    ∙ sym
    (then-e c.args.desk.now a-holds b-holds
    (sym c-told ∙ not-false _ c.if-not-rows_sound.false-raw)
    (fits-so c.args.desk.now (sym d-told ∙ c.if-over.false)))
