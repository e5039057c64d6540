-- `put` meets its contract: where there is no room, storing changes nothing, in the list as in the bytes.
use mathlib.Core.Path.{◌≡◌, refl, sym, ap, ◌∙◌}
use lib.ListN.{length, set, length-set}
use lib.Seq.{set_out}
use Rattle.pieces_written.proofs.inner.put.Goals as goal
use Rattle.pieces_written.proofs.inner.put.Goals.{then-at-out, else-at-out}

pub shape_of-out : goal.shape_of-out
shape_of-out c =
    let stored : c.if-at-out.out ≡ set c.args.out.now c.args.at c.args.b =
    elim c.if-at-out.branch [
      | then-at-out w ↦ w.out-is
      | else-at-out w ↦ w.out-is ∙ sym (set_out c.args.out.now c.args.at c.args.b w.if-at-out.false)
    ] in
    ap length stored ∙ length-set c.args.out.now c.args.at c.args.b

pub returns : goal.returns
returns c =
    let stored : c.if-at-out.out ≡ set c.args.out.now c.args.at c.args.b =
    elim c.if-at-out.branch [
      | then-at-out w ↦ w.out-is
      | else-at-out w ↦ w.out-is ∙ sym (set_out c.args.out.now c.args.at c.args.b w.if-at-out.false)
    ] in
    record { place = refl; bytes = stored }
