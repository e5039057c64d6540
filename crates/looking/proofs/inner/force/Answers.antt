-- `force` meets its contract: one variable more is decided, so that there is room for its entry behind the last.
use Prim.Native.Nat.{◌<◌}
use native.Mathlib.Omega.{arith}
use borrow.Author.Rules.{rules}
use Rattle.units.proofs.Ones.{left_one}
use Rattle.looking.proofs.Looking.{one_more, room-left, forced-stored, forced-roomy}
use Rattle.looking.proofs.inner.force.Goals as goal

pub offset_bounds-masks-n : goal.offset_bounds-masks-n
offset_bounds-masks-n c =
    let room : c.args.t.entries < 64 = omega (arith, c.requires.roomy.short, room-left c.args.l c.args.t.q (search rules) c.requires.l_value.0 c.requires.l_value.1) in
    omega (arith, room)

pub bounds-masks-n : goal.bounds-masks-n
bounds-masks-n c =
    let room : c.args.t.entries < 64 = omega (arith, c.requires.roomy.short, room-left c.args.l c.args.t.q (search rules) c.requires.l_value.0 c.requires.l_value.1) in
    omega (arith, room, c.requires.roomy.lent.masks)

pub offset_bounds-rows-n : goal.offset_bounds-rows-n
offset_bounds-rows-n c =
    let room : c.args.t.entries < 64 = omega (arith, c.requires.roomy.short, room-left c.args.l c.args.t.q (search rules) c.requires.l_value.0 c.requires.l_value.1) in
    omega (arith, room)

pub bounds-rows-n : goal.bounds-rows-n
bounds-rows-n c =
    let room : c.args.t.entries < 64 = omega (arith, c.requires.roomy.short, room-left c.args.l c.args.t.q (search rules) c.requires.l_value.0 c.requires.l_value.1) in
    omega (arith, room, c.requires.roomy.lent.rows)

pub overflow_add-entries : goal.overflow_add-entries
overflow_add-entries c =
    let room : c.args.t.entries < 64 = omega (arith, c.requires.roomy.short, room-left c.args.l c.args.t.q (search rules) c.requires.l_value.0 c.requires.l_value.1) in
    omega (arith, room)

pub returns : goal.returns
returns c =
    let room : c.args.t.entries < 64 = omega (arith, c.requires.roomy.short, room-left c.args.l c.args.t.q (search rules) c.requires.l_value.0 c.requires.l_value.1) in
    let one = (left_one c.args.l.positive c.args.l.negative (search rules) c.requires.l_value.0).0 in
    let grown = one_more c.args.l c.args.t.q (search rules) c.requires.l_value.0 c.requires.l_value.1 in
    record {
      rows_after = forced-stored c.args.t c.args.masks.now c.args.rows.now c.args.i c.args.l c.requires.roomy room _ c.made_true-q.ensures;
      roomy_2 = forced-roomy c.args.t c.args.masks.now c.args.rows.now c.args.i c.args.l c.requires.roomy room _ c.made_true-q.ensures one grown;
    }
