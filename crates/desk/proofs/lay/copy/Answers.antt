use Prim.Native.Nat.{ℕ}
use mathlib.Core.Path.{◌≡◌, refl, ap, ◌∙◌}
use native.Mathlib.Omega.{arith}
use lib.ListN.{length, take, length-set}
use lib.Seq.{sets, take-length}
use Rattle.masks.proofs.Words.{copied_more}
use Rattle.desk.proofs.lay.copy.Goals as goal

pub loop-i-init : goal.loop-i-init
loop-i-init c = (omega arith, refl, refl)

pub loop-i-preserved : goal.loop-i-preserved
loop-i-preserved c = (omega arith, rw c.loop-i.invariant.1 (copied_more c.args.desk.now c.args.table.now c.args.at c.loop-i.i (omega arith)), simp length-set (omega arith))

pub returns : goal.returns
returns c =
    let n : c.loop-i.i ≡ length c.args.table.now = omega arith in
    c.loop-i.invariant.1 ∙ ap (sets c.args.desk.now c.args.at) (ap (λ (k : ℕ). take k c.args.table.now) n ∙ take-length c.args.table.now)
