use mathlib.Core.Path.{sym, ◌∙◌}
use native.Mathlib.Nat.{add-zero}
use native.Mathlib.Omega.{arith}
use Rattle.text_laws.proofs.Writing.{key-turn, key-end}
use Rattle.pieces_written.proofs.inner.put_key.Goals as goal

pub loop-b-init : goal.loop-b-init
loop-b-init c = (sym (add-zero _), rw add-zero)

pub loop-b-preserved : goal.loop-b-preserved
loop-b-preserved c = (
  omega (arith, c.put-next.ensures.place),
  rw (c.put-next.ensures.bytes, c.loop-b.invariant.0)
      (key-turn c.loop-b.out c.args.at c.args.key.now c.loop-b.b-index (omega arith) ∙ c.loop-b.invariant.1),
)

pub returns : goal.returns
returns c =
    record {
      place = omega arith;
      bytes = sym (key-end c.loop-b.out c.args.at c.args.key.now c.loop-b.b-index (omega arith)) ∙ c.loop-b.invariant.1;
    }
