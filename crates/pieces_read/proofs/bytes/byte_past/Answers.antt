-- `byte_past` meets its contract: past the end the list answers 0 too.
use mathlib.Core.Path.{sym}
use Prim.Native.Nat.{◌+◌, ◌≤◌}
use lib.ListN.{length, get_or-eq_default}
use native.Mathlib.Omega.{arith}
use Rattle.pieces_read.proofs.bytes.byte_past.Goals as goal

pub returns-else-i-s : goal.returns-else-i-s
returns-else-i-s c =
    let past : length c.args.s.now ≤ c.args.at + c.args.i = omega arith in
    sym (get_or-eq_default c.args.s.now 0 past)

pub returns-else-at-s : goal.returns-else-at-s
returns-else-at-s c =
    let past : length c.args.s.now ≤ c.args.at + c.args.i = omega arith in
    sym (get_or-eq_default c.args.s.now 0 past)
