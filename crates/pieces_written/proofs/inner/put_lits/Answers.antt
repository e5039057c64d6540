use mathlib.Core.Path.{◌≡◌, ap}
use Prim.Native.Nat.{ℕ, ◌+◌}
use lib.ListN.{length}
use lib.Dec.{eqb}
use native.Mathlib.Omega.{arith}
use Rattle.rules.specs.Text.{lits_text}
use Rattle.text_laws.proofs.Pieces.{lits-none, lits-step, lits-length}
use Rattle.pieces_written.proofs.Storing.{stored-none, stored-both}
use Rattle.pieces_written.proofs.inner.put_lits.Goals as goal

pub loop-v-init : goal.loop-v-init
loop-v-init c = rw lits-none stored-none

pub put_literal-next-requires : goal.put_literal-next-requires
put_literal-next-requires c = (omega (arith, lits-length c.loop-v.v c.args.l, c.loop-v.invariant.place), omega arith)

pub loop-v-preserved : goal.loop-v-preserved
loop-v-preserved c =
    let first : eqb c.loop-v.next c.args.at ≡ eqb (c.args.at + length (lits_text c.loop-v.v c.args.l)) c.args.at =
    ap (λ (n : ℕ). eqb n c.args.at) c.loop-v.invariant.place in
    rw (lits-step c.args.at c.loop-v.v c.args.l, ← first) (stored-both c.loop-v.invariant c.put_literal-next.ensures)

pub returns : goal.returns
returns c =
    let all : c.loop-v.v ≡ c.args.n = omega arith in
    rw (← all) c.loop-v.invariant
