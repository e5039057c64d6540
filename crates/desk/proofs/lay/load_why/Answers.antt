-- `load_why` meets its contract: each return has the tests that led there.
use mathlib.Core.Path.{sym, ◌∙◌}
use borrow.Author.Tests.{lt-ltb, le-ltb, ltb-false}
use lib.Dec.{ltb}
use Prim.Native.Nat.{◌/◌}
use lib.ListN.{length}
use Rattle.masks.proofs.Choice.{or_right}
use Rattle.literals.specs.Literal.{most_variables}
use Rattle.rules.specs.Table.{row_words, row_count}
use Rattle.rules.specs.Desk.{most_capacity, load_why}
use Rattle.tables.specs.Judge.{rows_and_sum_why}
use Rattle.desk.proofs.lay.load_why.Goals as goal

pub returns-then-variables-gt-MOST : goal.returns-then-variables-gt-MOST
unfolding load_why
returns-then-variables-gt-MOST c = rw (lt-ltb most_variables c.args.variables c.if-variables-gt-MOST.true)

pub returns-then-bad_table : goal.returns-then-bad_table
unfolding load_why
returns-then-bad_table c = rw (le-ltb most_variables c.args.variables c.if-variables-gt-MOST.false, sym c.bad_table.ensures ∙ c.if-bad_table.true)

pub returns-then-capacity-table : goal.returns-then-capacity-table
unfolding load_why row_count
returns-then-capacity-table c =
    rw (
      le-ltb most_variables c.args.variables c.if-variables-gt-MOST.false,
      sym c.bad_table.ensures
          ∙ c.if-bad_table.false,
      c.if-capacity-table.true,
    )

pub desk_words-requires : goal.desk_words-requires
desk_words-requires c = ltb-false most_capacity c.args.capacity (or_right (ltb c.args.capacity (length c.args.table.now / row_words)) (ltb most_capacity c.args.capacity) c.if-capacity-table.false)

pub returns-then-desk-desk_words : goal.returns-then-desk-desk_words
unfolding load_why row_count
returns-then-desk-desk_words c =
    let room = lt-ltb (length c.args.desk.now) c.desk_words.result c.if-desk-desk_words.true in
    rw (
      le-ltb most_variables c.args.variables c.if-variables-gt-MOST.false,
      sym c.bad_table.ensures
          ∙ c.if-bad_table.false,
      c.if-capacity-table.false,
      ← c.desk_words.ensures,
      room,
    )

pub returns : goal.returns
unfolding load_why row_count rows_and_sum_why
returns c =
    let room = le-ltb (length c.args.desk.now) c.desk_words.result c.if-desk-desk_words.false in
    rw (
      le-ltb most_variables c.args.variables c.if-variables-gt-MOST.false,
      sym c.bad_table.ensures
          ∙ c.if-bad_table.false,
      c.if-capacity-table.false,
      ← c.desk_words.ensures,
      room,
    )
    c.rows_and_sum.ensures
