-- `rows_added` meets its contract: the sum with the first new row, which may be any word, is never made.
use Prim.Native.Nat.{◌+◌}
use mathlib.Core.Path.{◌≡◌}
use mathlib.Core.Bool.{false}
use native.Mathlib.Omega.{arith}
use lib.Dec.{eqb}
use borrow.Author.Tests.{ne_eqb}
use Rattle.rules.specs.Steps.{fewer_added}
use Rattle.rules.specs.Desk.{in_use}
use Rattle.kinds.specs.Numbers.{number}
use Rattle.kinds.proofs.Numbers.{not-merge}
use Rattle.last_entry.specs.Last.{added_well}
use Rattle.last_entry.proofs.Lasts.{whole, added-up, fewer-few}
use Rattle.last_entry.proofs.inner.rows_added.Goals as goal
use Rattle.last_entry.proofs.inner.rows_added.Goals.{then-n-total+else-total-n, else-n-total}

pub overflow_add-total : goal.overflow_add-total
overflow_add-total c =
    let f = whole _ c.requires in
    omega (arith, c.word-in_use.ensures, c.fewer_added.ensures, fewer-few (number c.args.kind), f.fitting, f.roomy)

pub returns-then-total-n : goal.returns-then-total-n
unfolding added_well
returns-then-total-n c =
    let t : c.word-in_use.result + c.fewer_added.result ≡ in_use c.args.desk.now + fewer_added (number c.args.kind) =
    rw (c.word-in_use.ensures, c.fewer_added.ensures) in
    rw (added-up (in_use c.args.desk.now + fewer_added (number c.args.kind)) c.args.n c.args.first (omega (arith, t)) (omega (arith, t, c.if-total-n.true)))

pub returns-in-Merge : goal.returns-in-Merge
unfolding added_well
returns-in-Merge c =
    let t : c.word-in_use.result + c.fewer_added.result ≡ in_use c.args.desk.now + fewer_added (number c.args.kind) =
    rw (c.word-in_use.ensures, c.fewer_added.ensures) in
    let no : eqb (in_use c.args.desk.now + fewer_added (number c.args.kind)) (c.args.first + c.args.n) ≡ false =
    ne_eqb (in_use c.args.desk.now + fewer_added (number c.args.kind)) (c.args.first + c.args.n)
    (λ e. elim c.if-n-total.branch [ then-n-total+else-total-n w ↦ omega (arith, t, e) | else-n-total w ↦ omega (arith, t, e) ]) in
    rw (no, c.in-Merge.is, c.word-in_use.ensures)

pub returns-in_default : goal.returns-in_default
unfolding added_well
returns-in_default c =
    let t : c.word-in_use.result + c.fewer_added.result ≡ in_use c.args.desk.now + fewer_added (number c.args.kind) =
    rw (c.word-in_use.ensures, c.fewer_added.ensures) in
    let no : eqb (in_use c.args.desk.now + fewer_added (number c.args.kind)) (c.args.first + c.args.n) ≡ false =
    ne_eqb (in_use c.args.desk.now + fewer_added (number c.args.kind)) (c.args.first + c.args.n)
    (λ e. elim c.if-n-total.branch [ then-n-total+else-total-n w ↦ omega (arith, t, e) | else-n-total w ↦ omega (arith, t, e) ]) in
    rw (no, not-merge c.args.kind c.in_default.not-Merge)
