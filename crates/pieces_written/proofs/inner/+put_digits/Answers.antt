-- What comes in front of the last digit was stored by the call of itself, and the last behind it.
use Prim.Native.Nat.{◌-◌, ◌/◌, ◌<◌}
use native.Mathlib.Nat.{pos_of_ne-zero}
use native.Mathlib.Omega.{arith}
use Rattle.text_laws.proofs.Numbers.{digits-none, digits-one, digits-two, digits-length}
use Rattle.pieces_written.proofs.Storing.{stored-none, stored-both}
use Rattle.pieces_written.proofs.inner.+put_digits.Goals as goal

pub returns-then-most-eq0 : goal.returns-then-most-eq0
returns-then-most-eq0 t c = rw (digits-none c.args.most c.args.n c.if-most-eq0.true) stored-none

pub returns-then-n-lt10 : goal.returns-then-n-lt10
returns-then-n-lt10 t c = rw (digits-one c.args.most c.args.n c.if-most-eq0.false c.if-n-lt10.true) c.put.ensures

pub put-requires-2 : goal.put-requires-2
put-requires-2 t c =
    let most : 0 < c.args.most = pos_of_ne-zero c.if-most-eq0.false in
    omega (arith, c.requires, c.put_digits-next.ensures.place, digits-length (c.args.most - 1) (c.args.n / 10))

pub returns : goal.returns
returns t c =
    rw (digits-two c.args.most c.args.n c.if-most-eq0.false c.if-n-lt10.false) (stored-both c.put_digits-next.ensures c.put-2.ensures)
