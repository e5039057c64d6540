-- `conceded_by` meets its contract: a merge that added no row, or the kind.
use Prim.Native.Nat.{◌≤◌}
use mathlib.Core.Path.{◌≡◌, sym, ◌∙◌}
use mathlib.Core.Bool.{false, ◌&&◌}
use native.Mathlib.Nat.{mul-one, mul-zero, mul-le-mul_left}
use native.Mathlib.Omega.{arith}
use lib.Dec.{eqb}
use borrow.Author.Tests.{eq-eqb, ne_eqb}
use Rattle.rules.specs.Desk.{in_use}
use Rattle.rules.specs.TakeBack.{last_kind, last_first, last_conceded, merged_empty, last_weight}
use Rattle.kinds.specs.Numbers.{number}
use Rattle.kinds.proofs.Conceding.{concedes-once, concedes-none}
use Rattle.kinds.proofs.Numbers.{not-merge}
use Rattle.last_entry.proofs.Lasts.{step-stands, kind-word, first_word}
use Rattle.last_entry.proofs.inner.conceded_by.Goals as goal
use Rattle.last_entry.proofs.inner.conceded_by.Goals.{in_default-kind-via-in-Merge+else-none_added, in_default-kind-via-in_default-kind}

pub last_word-requires-clause-step_stands : goal.last_word-requires-clause-step_stands
last_word-requires-clause-step_stands c = step-stands _ c.requires

pub returns-in_default : goal.returns-in_default
unfolding last_conceded merged_empty
returns-in_default c =
    let k = c.last_word.ensures ∙ kind-word c.args.desk.now in
    rw (
      ne_eqb (last_kind c.args.desk.now) 1 (λ e. omega (arith, k, c.in_default.ensures)),
      concedes-none (last_kind c.args.desk.now) (omega (arith, k, c.in_default.ensures)),
      mul-zero,
    )

pub last_word-w-requires-clause-step_stands : goal.last_word-w-requires-clause-step_stands
last_word-w-requires-clause-step_stands c = step-stands _ c.requires

pub last_word-requires-2-clause-step_stands : goal.last_word-requires-2-clause-step_stands
last_word-requires-2-clause-step_stands c = step-stands _ c.requires

pub returns-in-Merge : goal.returns-in-Merge
unfolding last_conceded last_weight merged_empty
returns-in-Merge c =
    let k : number c.in-Some.kind ≡ last_kind c.args.desk.now = c.in-Some.ensures ∙ c.last_word.ensures ∙ kind-word c.args.desk.now in
    let same : in_use c.args.desk.now ≡ last_first c.args.desk.now =
    sym c.word.ensures ∙ c.if-none_added.true ∙ c.last_word-2.ensures ∙ first_word c.args.desk.now in
    rw (← k, c.in-Merge.is, eq-eqb (in_use c.args.desk.now) (last_first c.args.desk.now) same, mul-one) c.last_word-w.ensures

pub overflow_mul-result : goal.overflow_mul-result
overflow_mul-result c =
    let w = c.last_word-w.result in
    let once : c.concedes.result ≤ 1 = omega (arith, c.concedes.ensures, concedes-once (number c.in-Some.kind)) in
    record { fits = omega (arith, mul-le-mul_left w once, mul-one w, c.last_word-w.type_inv) }

pub returns-in_default-kind : goal.returns-in_default-kind
unfolding last_conceded last_weight merged_empty
returns-in_default-kind c =
    let k : number c.in-Some.kind ≡ last_kind c.args.desk.now = c.in-Some.ensures ∙ c.last_word.ensures ∙ kind-word c.args.desk.now in
    let first = c.last_word-2.ensures ∙ first_word c.args.desk.now in
    let some : (eqb (last_kind c.args.desk.now) 1 && eqb (in_use c.args.desk.now) (last_first c.args.desk.now)) ≡ false =
    elim c.in_default-kind.branch [
      | in_default-kind-via-in-Merge+else-none_added w ↦ rw (
        ← k,
        w.in-Merge.is,
        ne_eqb (in_use c.args.desk.now) (last_first c.args.desk.now) (λ e. w.if-none_added.false (c.word.ensures ∙ e ∙ sym first)),
      )
      | in_default-kind-via-in_default-kind w ↦ rw (← k, not-merge c.in-Some.kind w.in_default-kind.not-Merge)
    ] in
    rw (some, ← k, c.last_word-w.ensures, c.concedes.ensures)
