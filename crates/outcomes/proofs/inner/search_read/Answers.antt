-- `search_read` meets its contract: head and rows are lent, and no more.
use Prim.Native.Nat.{◌+◌, ◌*◌}
use mathlib.Core.Path.{◌≡◌, sym, ap, ◌∙◌}
use native.Mathlib.Omega.{arith}
use lib.ListN.{length, take}
use lib.Seq.{length-take-le}
use Rattle.rules.specs.Table.{row_words}
use Rattle.rules.specs.Desk.{head_words}
use Rattle.rules.specs.Program.{table_outcome}
use Rattle.outcomes.proofs.Heads.{behind-head}
use Rattle.outcomes.proofs.inner.search_read.Goals as goal

pub slice_bounds-search_rows-end-2 : goal.slice_bounds-search_rows-end-2
slice_bounds-search_rows-end-2 c =
    let lengths : length (take (head_words + row_words * c.args.rows) c.args.words.now) ≡ head_words + row_words * c.args.rows = length-take-le (head_words + row_words * c.args.rows) c.args.words.now c.requires in
    sym lengths

pub search_rows-requires : goal.search_rows-requires
search_rows-requires c =
    let lengths : length (take (head_words + row_words * c.args.rows) c.args.words.now) ≡ head_words + row_words * c.args.rows = length-take-le (head_words + row_words * c.args.rows) c.args.words.now c.requires in
    lengths

pub returns : goal.returns
returns c =
    let first = behind-head (row_words * c.args.rows) c.args.words.now (omega (arith, c.requires)) in
    c.search_rows.ensures ∙ ap (table_outcome c.args.variables c.args.budget c.args.rows) first
