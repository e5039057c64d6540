-- `member_at` meets its contract: no gap, or the signed number behind it.
use mathlib.Core.Path.{sym, ◌∙◌}
use native.Mathlib.Omega.{arith}
use lib.ListN.{length}
use Rattle.text_laws.proofs.Matched.{matched}
use Rattle.gaps_read.proofs.Spaces.{run_inside}
use Rattle.wcnf_pieces.proofs.Members.{member-not, member_is}
use Rattle.wcnf_pieces.proofs.clauses.member_at.Goals as goal

pub returns-then-gap-eq0 : goal.returns-then-gap-eq0
returns-then-gap-eq0 c = sym (member-not c.args.s.now c.args.at (matched c.space_run-gap.ensures c.if-gap-eq0.true))

pub overflow_add-from : goal.overflow_add-from
overflow_add-from c = omega (arith, c.space_run-gap.ensures, run_inside (length c.args.s.now) c.args.s.now c.args.at (omega (arith, c.space_run-gap.ensures, c.if-gap-eq0.false)))

pub returns : goal.returns
returns c = c.signed_at.ensures ∙ sym (member_is c.args.s.now c.args.at _ c.space_run-gap.ensures c.if-gap-eq0.false)
