-- `rewrite_why` meets its contract: each return has the tests that led there, and what fits adds the rows of its kind.
use Prim.Native.Nat.{◌+◌}
use mathlib.Core.Path.{◌≡◌, sym, ◌∙◌}
use mathlib.Core.Bool.{true, false}
use native.Mathlib.Omega.{arith}
use borrow.Author.Tests.{le-leb, lt-leb, lt-ltb, le-ltb}
use lib.ListN.{length}
use lib.Dec.{leb}
use Rattle.rules.specs.Desk.{standing, capacity, in_use, most_steps, well_formed}
use Rattle.rules.specs.Rewrite.{given, well_fitted}
use Rattle.rules.specs.Steps.{stored}
use Rattle.kinds.specs.Numbers.{number}
use Rattle.desk_laws.proofs.Formed.{formed}
use Rattle.remnants.specs.Rows.{added_rows}
use Rattle.remnants.proofs.Counts.{few-named}
use Rattle.fitting.proofs.Judged.{desk-bad, steps-many, naming-bad, fit-bad, desk-full, all-fine}
use Rattle.fitting.proofs.Namings.{names, on-desk, added-few, added-stored, fitted-fits}
use Rattle.fitting.proofs.rewrite_why.Goals as goal

pub returns-then-not-well_formed : goal.returns-then-not-well_formed
returns-then-not-well_formed c = desk-bad _ _ _ (sym c.well_formed-2.ensures ∙ c.if-not-well_formed.true)

pub returns-then-word-ge-MOST_STEPS : goal.returns-then-word-ge-MOST_STEPS
returns-then-word-ge-MOST_STEPS c =
    let whole : well_formed c.args.desk.now ≡ true = sym c.well_formed-2.ensures ∙ c.if-not-well_formed.false in
    steps-many _ _ _ whole (le-leb most_steps (standing c.args.desk.now) (omega (arith, c.word.ensures)))

pub returns-in_default : goal.returns-in_default
returns-in_default c =
    let whole : well_formed c.args.desk.now ≡ true = sym c.well_formed-2.ensures ∙ c.if-not-well_formed.false in
    let few : leb most_steps (standing c.args.desk.now) ≡ false = lt-leb most_steps (standing c.args.desk.now) (omega (arith, c.word.ensures)) in
    naming-bad _ _ _ whole few c.in_default.ensures

pub invariant_of-rows : goal.invariant_of-rows
invariant_of-rows c =
    let whole : well_formed c.args.desk.now ≡ true = sym c.well_formed-2.ensures ∙ c.if-not-well_formed.false in
    record { on_desk = on-desk _ _ (formed _ whole) (names _ _ _ c.in-Some.ensures.1).used }

pub well_fitted-requires : goal.well_fitted-requires
well_fitted-requires c = rw c.in-Some.ensures.0 (names _ _ _ c.in-Some.ensures.1).count

pub returns-then-not-well_fitted : goal.returns-then-not-well_fitted
returns-then-not-well_fitted c =
    let whole : well_formed c.args.desk.now ≡ true = sym c.well_formed-2.ensures ∙ c.if-not-well_formed.false in
    let few : leb most_steps (standing c.args.desk.now) ≡ false = lt-leb most_steps (standing c.args.desk.now) (omega (arith, c.word.ensures)) in
    let fits : c.well_fitted.result ≡ well_fitted c.args.desk.now c.args.n c.args.named.now = rw c.in-Some.ensures.0 at c.well_fitted.ensures in
    fit-bad _ _ _ whole few c.in-Some.ensures.1 (sym fits ∙ c.if-not-well_fitted.true)

pub added-requires : goal.added-requires
added-requires c = rw c.in-Some.ensures.0 (names _ _ _ c.in-Some.ensures.1).count

pub overflow_add-word : goal.overflow_add-word
overflow_add-word c =
    let whole : well_formed c.args.desk.now ≡ true = sym c.well_formed-2.ensures ∙ c.if-not-well_formed.false in
    let f = formed _ whole in
    omega (
      arith,
      c.word-3.ensures,
      c.added.ensures,
      added-few c.args.desk.now (number c.in-Some.kind) c.args.named.now,
      few-named _ _ (names _ _ _ c.in-Some.ensures.1).count,
      f.fitting,
      f.roomy,
    )

pub returns-then-word-added : goal.returns-then-word-added
returns-then-word-added c =
    let whole : well_formed c.args.desk.now ≡ true = sym c.well_formed-2.ensures ∙ c.if-not-well_formed.false in
    let few : leb most_steps (standing c.args.desk.now) ≡ false = lt-leb most_steps (standing c.args.desk.now) (omega (arith, c.word.ensures)) in
    let told : c.well_fitted.result ≡ well_fitted c.args.desk.now c.args.n c.args.named.now = rw c.in-Some.ensures.0 at c.well_fitted.ensures in
    let fits : well_fitted c.args.desk.now c.args.n c.args.named.now ≡ true = sym told ∙ c.if-not-well_fitted.false in
    let adds : c.added.result ≡ added_rows c.args.desk.now c.args.n c.args.named.now = rw c.in-Some.ensures.0 at c.added.ensures in
    let sum : c.added.result ≡ length (stored (given c.args.desk.now c.args.n c.args.named.now)) =
    adds ∙ added-stored _ _ _ (formed _ whole) (names _ _ _ c.in-Some.ensures.1) (fitted-fits _ _ _ fits) in
    desk-full _ _ _ whole few c.in-Some.ensures.1 fits
    (lt-ltb (capacity c.args.desk.now) (in_use c.args.desk.now + length (stored (given c.args.desk.now c.args.n c.args.named.now)))
    (omega (arith, c.word-3.ensures, c.word-2.ensures, sum)))

pub returns : goal.returns
returns c =
    let whole : well_formed c.args.desk.now ≡ true = sym c.well_formed-2.ensures ∙ c.if-not-well_formed.false in
    let few : leb most_steps (standing c.args.desk.now) ≡ false = lt-leb most_steps (standing c.args.desk.now) (omega (arith, c.word.ensures)) in
    let told : c.well_fitted.result ≡ well_fitted c.args.desk.now c.args.n c.args.named.now = rw c.in-Some.ensures.0 at c.well_fitted.ensures in
    let fits : well_fitted c.args.desk.now c.args.n c.args.named.now ≡ true = sym told ∙ c.if-not-well_fitted.false in
    let adds : c.added.result ≡ added_rows c.args.desk.now c.args.n c.args.named.now = rw c.in-Some.ensures.0 at c.added.ensures in
    let sum : c.added.result ≡ length (stored (given c.args.desk.now c.args.n c.args.named.now)) =
    adds ∙ added-stored _ _ _ (formed _ whole) (names _ _ _ c.in-Some.ensures.1) (fitted-fits _ _ _ fits) in
    let room = le-ltb (capacity c.args.desk.now) (in_use c.args.desk.now + length (stored (given c.args.desk.now c.args.n c.args.named.now)))
    (omega (arith, c.word-3.ensures, c.word-2.ensures, sum)) in
    (c.in-Some.ensures.0, all-fine _ _ _ whole few c.in-Some.ensures.1 fits room)
