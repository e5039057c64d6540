-- `settle` meets its contract: two words of the head, then the entry.
use mathlib.Core.Path.{ap, ◌∙◌}
use native.Mathlib.Omega.{arith}
use lib.ListN.{length, length-set}
use Rattle.step_laws.proofs.Entries.{length-entered}
use Rattle.rewrites.proofs.Writing.{left-still}
use Rattle.rewrites.proofs.inner.settle.Goals as goal

pub bounds-desk-4 : goal.bounds-desk-4
bounds-desk-4 c = simp length-set (omega arith)

pub enter-requires : goal.enter-requires
enter-requires c = left-still c.args.desk.now c.args.in_use c.args.conceded c.requires

pub shape_of-desk : goal.shape_of-desk
shape_of-desk c = ap length c.enter.ensures ∙ length-entered _ _ ∙ simp length-set
