use Prim.Native.Nat.{◌*◌, ◌<◌}
use mathlib.Core.Path.{refl, ap, ◌∙◌}
use native.Mathlib.Nat.{sub-zero}
use native.Mathlib.Omega.{arith}
use lib.ListN.{length}
use lib.Seq.{length-sets}
use Rattle.rules.specs.Table.{row_words, row_words_of}
use Rattle.text_laws.proofs.Matched.{matched}
use Rattle.wcnf_reader.proofs.Turns.{left-broken, left-stored, left-none}
use Rattle.wcnf_reader.proofs.clauses.store_rows.Goals as goal

pub loop-i-init : goal.loop-i-init
loop-i-init c = (refl, rw sub-zero)

pub shape_of-table-in_default : goal.shape_of-table-in_default
shape_of-table-in_default c = c.loop-i.invariant.0

pub returns-in_default : goal.returns-in_default
returns-in_default c =
    let clause = matched c.clause_at.ensures c.in_default.is in
    matched (left-broken c.args.top c.args.s.now c.args.rows c.loop-i.i c.loop-i.at c.loop-i.table _ (omega arith) clause) c.loop-i.invariant.1

pub overflow_mul-i : goal.overflow_mul-i
overflow_mul-i c = omega (arith, c.loop-i.invariant.0)

pub set_row_in-requires : goal.set_row_in-requires
set_row_in-requires c = omega (arith, c.loop-i.invariant.0)

pub loop-i-preserved : goal.loop-i-preserved
loop-i-preserved c =
    let clause = matched c.clause_at.ensures c.in-Some.is in
    let left : c.loop-i.i < c.args.rows = omega arith in
    let words =
    left-stored c.args.top c.args.s.now _ c.loop-i.i c.loop-i.at c.loop-i.table _ _ _ _ _ c.clause_row-row.result left clause c.clause_row-row.ensures
    in (
      ap length c.set_row_in.ensures ∙ length-sets c.loop-i.table (row_words * c.loop-i.i) (row_words_of c.clause_row-row.result) ∙ c.loop-i.invariant.0,
      rw c.set_row_in.ensures (words ∙ c.loop-i.invariant.1),
    )

pub shape_of-table : goal.shape_of-table
shape_of-table c = c.loop-i.invariant.0

pub returns : goal.returns
returns c = matched (left-none c.args.top c.args.s.now c.args.rows c.loop-i.i c.loop-i.at c.loop-i.table (omega arith)) c.loop-i.invariant.1
