-- `parted_at` meets its contract: no gap, or the number behind it.
use mathlib.Core.Path.{sym, ◌∙◌}
use native.Mathlib.Omega.{arith}
use lib.ListN.{length}
use Rattle.text_laws.proofs.Matched.{matched}
use Rattle.gaps_read.proofs.Spaces.{run_inside, parted-not, parted-is}
use Rattle.gaps_read.proofs.parted_at.Goals as goal

pub returns-then-gap-eq0 : goal.returns-then-gap-eq0
returns-then-gap-eq0 c = sym (parted-not c.args.s.now c.args.at (matched c.space_run-gap.ensures c.if-gap-eq0.true))

pub overflow_add-from : goal.overflow_add-from
overflow_add-from c = omega (arith, c.space_run-gap.ensures, run_inside (length c.args.s.now) c.args.s.now c.args.at (omega (arith, c.space_run-gap.ensures, c.if-gap-eq0.false)))

pub returns : goal.returns
returns c = c.number_at.ensures ∙ sym (parted-is c.args.s.now c.args.at _ c.space_run-gap.ensures c.if-gap-eq0.false)
