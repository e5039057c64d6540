use mathlib.Core.Path.{◌≡◌}
use native.Mathlib.Omega.{arith}
use Rattle.pieces_written.proofs.Storing.{stored-none, stored-both}
use Rattle.spaced_written.proofs.Pieces.{spaced-none, spaced-step, spaced-length}
use Rattle.spaced_written.proofs.inner.put_spaced_lits.Goals as goal

pub loop-v-init : goal.loop-v-init
loop-v-init c = rw spaced-none stored-none

pub put_literal-next-requires : goal.put_literal-next-requires
put_literal-next-requires c = (omega (arith, spaced-length c.loop-v.v c.args.l, c.loop-v.invariant.place), omega arith)

pub loop-v-preserved : goal.loop-v-preserved
loop-v-preserved c = rw (spaced-step c.loop-v.v c.args.l) (stored-both c.loop-v.invariant c.put_literal-next.ensures)

pub returns : goal.returns
returns c =
    let all : c.loop-v.v ≡ c.args.n = omega arith in
    rw (← all) c.loop-v.invariant
