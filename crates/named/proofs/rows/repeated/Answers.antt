use mathlib.Core.Path.{◌≡◌, sym, ◌∙◌, subst}
use mathlib.Core.Bool.{true}
use Prim.Native.Nat.{ℕ}
use native.Mathlib.Omega.{arith}
use lib.ListN.{length}
use Rattle.masks.specs.Sums.{every}
use Rattle.masks.proofs.Sums.{every-empty, every_more}
use Rattle.masks.proofs.Choice.{both}
use Rattle.named.proofs.Pairs.{row, fresh, same_before, none_before, none_found}
use Rattle.named.proofs.rows.repeated.Goals as goal

pub loop-j-init : goal.loop-j-init
loop-j-init c = every-empty _

pub returns-then-contains : goal.returns-then-contains
returns-then-contains c = sym (same_before c.args.named.now c.loop-j.j (omega arith) (rw c.if-contains.true at c.contains.ensures.cases))

pub loop-j-preserved : goal.loop-j-preserved
loop-j-preserved c =
    every_more c.loop-j.j (λ b. every b (fresh (row c.args.named.now) b))
    ∙ both c.loop-j.invariant (none_before c.args.named.now c.loop-j.j (omega arith) (rw c.if-contains.false at c.contains.ensures.cases))

pub returns : goal.returns
returns c =
    let e : c.loop-j.j ≡ length c.args.named.now = omega arith in
    sym (none_found (length c.args.named.now) (row c.args.named.now) (subst (λ (k : ℕ). every k (λ b. every b (fresh (row c.args.named.now) b)) ≡ true) e c.loop-j.invariant))
