-- `release` meets its contract: two words of the head, then the entry.
use mathlib.Core.Path.{ap, ◌∙◌}
use native.Mathlib.Omega.{arith}
use lib.ListN.{length, length-set}
use Rattle.step_laws.proofs.Entries.{length-withdrawn}
use Rattle.taking_back.proofs.Undo.{still-by-two}
use Rattle.taking_back.proofs.inner.release.Goals as goal

pub bounds-desk-4 : goal.bounds-desk-4
bounds-desk-4 c = simp length-set (omega arith)

pub withdraw-requires : goal.withdraw-requires
withdraw-requires c =
    still-by-two c.args.desk.now 1 4 c.args.in_use c.args.conceded (λ e. omega arith) (λ e. omega arith) (λ e. omega arith)
    (λ e. omega arith) c.requires

pub shape_of-desk : goal.shape_of-desk
shape_of-desk c = ap length c.withdraw.ensures ∙ length-withdrawn _ ∙ simp length-set
