-- `again` meets its contract: a text that is read keeps its figures within their limits, and its words, which stand at the front of the
-- table, are what is written.
use Prim.Native.Nat.{◌*◌}
use mathlib.Core.Path.{sym, ap, ◌∙◌}
use native.Mathlib.Omega.{arith}
use lib.ListN.{take, replicate, length-take}
use Rattle.rules.specs.Table.{row_words, most_rows}
use Rattle.text_laws.proofs.Found.{read-fine, front-words}
use Rattle.copy.specs.Copied.{length_of}
use Rattle.copy.proofs.Copies.{not-read, read, length-or-none}
use Rattle.copy.proofs.again.Goals as goal

pub overflow_mul-n : goal.overflow_mul-n
overflow_mul-n c =
    let fine = read-fine _ _ _ _ _ _ (sym c.read.ensures.answer ∙ c.in-Ok.is) in
    omega (arith, fine.few)

pub overflow_cast-said : goal.overflow_cast-said
overflow_cast-said c =
    let fine = read-fine _ _ _ _ _ _ (sym c.read.ensures.answer ∙ c.in-Ok.is) in
    omega (arith, fine.budget)

pub slice_bounds-table-end : goal.slice_bounds-table-end
slice_bounds-table-end c =
    let fine = read-fine _ _ _ _ _ _ (sym c.read.ensures.answer ∙ c.in-Ok.is) in
    omega (arith, fine.few, c.read.auto.table)

pub slice_bounds-write-end : goal.slice_bounds-write-end
slice_bounds-write-end c =
    let fine = read-fine _ _ _ _ _ _ (sym c.read.ensures.answer ∙ c.in-Ok.is) in
    simp length-take (omega (arith, fine.few, c.read.auto.table))

pub returns-in_default : goal.returns-in_default
returns-in_default c =
    let by = not-read c.args.input.now c.args.output.now _ (sym c.read.ensures.answer ∙ c.in_default.is) in
    record { length = by.0; bytes = by.1 }

pub returns : goal.returns
returns c =
    let h = sym c.read.ensures.answer ∙ c.in-Ok.is in
    let front = front-words most_rows c.args.input.now (replicate (row_words * most_rows) 0) _ _ _ h in
    let words = ap (take (row_words * c.in-Ok.said.rows)) c.read.ensures.words ∙ front in
    let by = read c.args.input.now c.args.output.now _ _ _ _ h words in
    record {
      length = c.unwrap_or.ensures ∙ length-or-none c.write.result ∙ ap length_of c.write.ensures.answer ∙ by.0;
      bytes = c.write.ensures.bytes ∙ by.1;
    }
