-- `lay_head` meets its contract: eight stores, one behind the other.
use mathlib.Core.Path.{refl}
use native.Mathlib.Omega.{arith}
use lib.ListN.{length-set}
use Rattle.desk.specs.Lay.{head_for}
use Rattle.desk.proofs.lay.lay_head.Goals as goal

pub bounds-desk-1 : goal.bounds-desk-1
bounds-desk-1 c = simp length-set (omega arith)

pub bounds-desk-2 : goal.bounds-desk-2
bounds-desk-2 c = simp length-set (omega arith)

pub bounds-desk-3 : goal.bounds-desk-3
bounds-desk-3 c = simp length-set (omega arith)

pub bounds-desk-4 : goal.bounds-desk-4
bounds-desk-4 c = simp length-set (omega arith)

pub bounds-desk-5 : goal.bounds-desk-5
bounds-desk-5 c = simp length-set (omega arith)

pub bounds-desk-6 : goal.bounds-desk-6
bounds-desk-6 c = simp length-set (omega arith)

pub bounds-desk-7 : goal.bounds-desk-7
bounds-desk-7 c = simp length-set (omega arith)

pub shape_of-desk : goal.shape_of-desk
shape_of-desk c = simp length-set

pub returns : goal.returns
unfolding head_for
returns c = refl
