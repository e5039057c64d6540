-- The round trip: what the writer writes of a table that the form holds, as of each admissible one, is read back as that table. The text stands at its
-- own start, so each line is read as it was written, the three of the head and the three of each row, and the last row ends where the text does.
use Rattle.std.specs.Prelude.{Ok}
use Prim.Native.Nat.{ℕ, ◌+◌, ◌*◌, ◌≤◌}
use mathlib.Core.Path.{◌≡◌, refl, sym, ap, ◌∙◌}
use mathlib.Core.Bool.{true}
use mathlib.Core.List.{List}
use native.Mathlib.Nat.{lt_of_lt_of_le}
use native.Mathlib.Omega.{arith}
use borrow.Author.Tests.{eq-eqb}
use lib.Pow.{pow_mono}
use lib.ListN.{length}
use Rattle.masks.proofs.Bits.{below-lt}
use Rattle.literals.specs.Literal.{most_variables}
use Rattle.rules.specs.declared.Row.{Row}
use Rattle.rules.proofs.Judging.{is_fine, is-fine}
use Rattle.rules.specs.Walk.{most_budget}
use Rattle.rules.specs.Table.{row_count, row_of, table_why, row_words, most_rows}
use Rattle.rules.specs.Text.{rows_text, table_text}
use Rattle.rules.specs.Reader.{first_row_line, text_says, three_lines, stands, head_at, rows, rows_at, rest_why, head_why, read_why, read_words, text_read}
use Rattle.rules.proofs.Admissible.{RowFine, table-fine}
use Rattle.text_laws.specs.Lines.{RowHeld, Held}
use Rattle.text_laws.proofs.Stands.{stands_self}
use Rattle.text_laws.proofs.Rows.{rows-read-back}
use Rattle.text_laws.proofs.Heads.{head_text, head_end, head-length, table-text, head-reads}
use Rattle.text_laws.proofs.Reading.{to-rest}

fine-held : (n : ℕ) (row : Row) → n ≤ most_variables → RowFine n row → RowHeld row
fine-held n row h f =
    record {
      positive = lt_of_lt_of_le (below-lt row.lits.positive n f.positive) (pow_mono h);
      negative = lt_of_lt_of_le (below-lt row.lits.negative n f.negative) (pow_mono h);
      apart = f.apart;
      light = omega (arith, f.light);
      mark = f.mark;
    }

pub record ReadBack (most : ℕ) (text : List ℕ) (room n b : ℕ) (table : List ℕ) : Type 0 where
  pub answer : text_read most text room ≡ Ok (text_says n b (row_count table))
  pub fine : read_why most text room ≡ Ok tt
  pub words : read_words text ≡ table

-- from what the parts are read as
put-together : (most : ℕ) (s : List ℕ) (room n b m : ℕ) (table : List ℕ) (next : ℕ) → head_at s ≡ Ok (three_lines n b m next)
    → n ≤ most_variables → b ≤ most_budget → m ≤ most → row_words * m ≤ room
    → rows_at m s next first_row_line ≡ rows table (length s)
    → (text_read most s room ≡ Ok (text_says n b m)) × (read_why most s room ≡ Ok tt) × (read_words s ≡ table)
unfolding text_read read_why read_words
put-together most s room n b m table next head ln lb lm lr body =
    let rest : rest_why s m (rows_at m s next first_row_line) ≡ (Ok tt) = rw (body, eq-eqb (length s) (length s) refl) in
    let why : head_why most s room (Ok (three_lines n b m next)) ≡ (Ok tt) = to-rest most s room n b m next ln lb lm lr ∙ rest in
    (rw (head, why), rw head why, rw (head, body))

-- whatever the form holds is read back, where its figures keep their limits
pub held-trip : (most n b : ℕ) (table : List ℕ) (room : ℕ) → Held n b table → n ≤ most_variables → b ≤ most_budget → row_count table ≤ most
    → length table ≤ room → ReadBack most (table_text n b table) room n b table
held-trip most n b table room held ln lb lm lr =
    let m = row_count table in
    let s = table_text n b table in
    let text = rows_text table m in
    let stand : stands s 0 (head_text n b m text) ≡ true = rw (← table-text n b table) (stands_self s) in
    let head = head-reads s n b m text held.variables-digits held.budget-digits held.rows-digits stand in
    let end : head_end n b m + length text ≡ length s = sym (ap length (table-text n b table) ∙ head-length n b m text) in
    let body : rows_at m s (head_end n b m) first_row_line ≡ rows table (length s) =
    rows-read-back m s (head_end n b m) first_row_line table held.whole held.rows head.1 ∙ ap (rows table) end in
    let w = put-together most s room n b m table (head_end n b m) head.0 ln lb lm (omega (arith, held.whole)) body in
    record { answer = w.0; fine = w.1; words = w.2 }

-- an admissible table is held
pub round_trip : (n b : ℕ) (table : List ℕ) (room : ℕ) → is_fine (table_why n table) ≡ true → b ≤ most_budget → length table ≤ room
    → ReadBack most_rows (table_text n b table) room n b table
round_trip n b table room ok lb lr =
    let fine = table-fine n table (is-fine (table_why n table) ok) in
    let held : Held n b table =
    record {
      variables-digits = omega (arith, fine.variables);
      budget-digits = omega arith;
      rows-digits = omega (arith, fine.few);
      whole = fine.whole;
      rows = λ j l. fine-held n (row_of table j) fine.variables (fine.rows j l);
    } in
    held-trip most_rows n b table room held fine.variables lb fine.few lr
