-- `put_literal` meets its contract: what parts it, its sign and its number, one behind the other.
use native.Mathlib.Omega.{arith}
use Rattle.text_laws.proofs.Matched.{matched}
use Rattle.text_laws.proofs.Pieces.{parting-length, literal-positive, literal-negative, literal-none}
use Rattle.pieces_written.proofs.Storing.{stored-none, stored-both}
use Rattle.pieces_written.proofs.inner.put_literal.Goals as goal

pub put_number-requires : goal.put_number-requires
put_number-requires c = omega (arith, c.put_parting-from.ensures.place, parting-length c.args.first)

pub returns-then-has : goal.returns-then-has
returns-then-has c =
    rw (literal-positive c.args.first c.args.v c.args.l (matched c.has.ensures c.if-has.true))
    (stored-both c.put_parting-from.ensures c.put_number.ensures)

pub put-from-requires : goal.put-from-requires
put-from-requires c = omega (arith, c.put_parting-sign.ensures.place, parting-length c.args.first)

pub put_number-requires-then-has-2 : goal.put_number-requires-then-has-2
put_number-requires-then-has-2 c = omega (arith, c.put-from.ensures.place, c.put_parting-sign.ensures.place, parting-length c.args.first)

pub returns-then-has-2 : goal.returns-then-has-2
returns-then-has-2 c =
    rw
    (literal-negative c.args.first c.args.v c.args.l
    (matched c.has.ensures c.if-has.false)
    (matched c.has-2.ensures c.if-has-2.true))
    (stored-both c.put_parting-sign.ensures (stored-both c.put-from.ensures c.put_number-then-has-2.ensures))

pub returns : goal.returns
returns c =
    rw
    (literal-none c.args.first c.args.v c.args.l
    (matched c.has.ensures c.if-has.false)
    (matched c.has-2.ensures c.if-has-2.false))
    stored-none
