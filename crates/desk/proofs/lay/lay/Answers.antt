-- `lay` meets its contract: three runs of stores, each behind the one before it.
use Prim.Native.Nat.{ℕ, ◌+◌, ◌-◌}
use mathlib.Core.Path.{ap, ◌∙◌}
use mathlib.Core.List.{List}
use lib.ListN.{length}
use lib.Seq.{sets, length-sets}
use Rattle.masks.specs.Words.{zeroed}
use Rattle.rules.specs.Table.{row_count}
use Rattle.desk.proofs.Laid.{laid-whole}
use native.Mathlib.Omega.{arith}
use Rattle.rules.specs.Desk.{desk_words, row_place}
use Rattle.desk.proofs.lay.lay.Goals as goal

pub lay_head-requires : goal.lay_head-requires
unfolding desk_words row_place
lay_head-requires c = omega arith

pub copy-requires : goal.copy-requires
unfolding desk_words row_place
copy-requires c = omega (arith, simp length-sets at (ap length c.lay_head.ensures))

pub overflow_sub-end : goal.overflow_sub-end
unfolding desk_words row_place
overflow_sub-end c = omega (arith, c.desk_words-end.ensures)

pub zero-requires : goal.zero-requires
unfolding desk_words row_place
zero-requires c =
    let one = simp length-sets at (ap length c.lay_head.ensures) in
    let two = simp length-sets at (ap length c.copy.ensures) in
    omega (arith, one, two, c.desk_words-end.ensures)

pub returns : goal.returns
unfolding row_count
returns c =
    c.zero.ensures
    ∙ ap (λ (e : List ℕ). zeroed e (8 + length c.args.table.now) (c.desk_words-end.result - (8 + length c.args.table.now))) (c.copy.ensures ∙ ap (λ (e : List ℕ). sets e 8 c.args.table.now) c.lay_head.ensures)
    ∙ rw c.desk_words-end.ensures (laid-whole c.args.variables c.args.capacity c.args.table.now c.args.desk.now c.requires.table_len_bound c.requires.capacity_in_bounds)
