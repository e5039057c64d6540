-- `put_values` meets its contract: nothing, or the key, a literal for each variable and the end of line.
use native.Mathlib.Omega.{arith}
use Rattle.pieces_written.proofs.Storing.{stored-both}
use Rattle.spaced_written.proofs.Pieces.{spaced-length}
use Rattle.wcnf_lines.proofs.Written.{values-some}
use Rattle.wcnf_lines.proofs.inner.put_values.Goals as goal

pub put-requires : goal.put-requires
put-requires c = omega (arith, c.put_spaced_lits-end.ensures.place, c.put-from.ensures.place, spaced-length c.args.variables c.literals_of-lits.result)

pub returns-in-Some : goal.returns-in-Some
returns-in-Some c =
    rw (values-some c.args.variables c.args.best _ _ c.literals_of-lits.result c.in-Some.is c.literals_of-lits.ensures)
    (stored-both c.put-from.ensures (stored-both c.put_spaced_lits-end.ensures c.put.ensures))
