-- A whole text read: what the head's figures must be for the rest to be judged, what is stored, and what is answered. Where all is fine there
-- is room for the words, so that storing them one by one is putting them in front of the rest.
use Rattle.std.specs.Prelude.{Result, Ok, Err}
use Prim.Native.Nat.{ℕ, zero, suc, ◌+◌, ◌*◌, ◌<◌, ◌≤◌}
use mathlib.Core.Path.{◌≡◌, refl, ap, ◌∙◌}
use mathlib.Core.List.{List}
use native.Mathlib.Nat.{zero-add}
use native.Mathlib.Omega.{arith}
use borrow.Author.Tests.{ltb-false, lt-ltb, le-ltb}
use lib.Dec.{ltb}
use lib.ListN.{length, length-append}
use lib.Seq.{sets, sets-eq}
use Rattle.literals.specs.Literal.{most_variables}
use Rattle.rules.specs.declared.Refusal.{Refusal}
use Rattle.rules.specs.declared.Refusal.TheVariants.{TooManyVariables, BadTable, NoRoom, BadBudget, BadText}
use Rattle.rules.specs.Reader.{row_at, RowsRead, rows, broken_at, on_row, in_front, rows_at, head_at, rest_why, head_why, text_says, three_lines}
use Rattle.rules.specs.Reader.{read_why, words_of, read_words, read_step, read_table, text_read, first_row_line, row_lines}
use Rattle.rules.specs.Table.{row_words_of, row_words}
use Rattle.rules.specs.Walk.{most_budget}
use Rattle.rules.proofs.Judging.{refuse-fine}
use Rattle.rules.specs.declared.Row.{Row}
use Rattle.rules.specs.declared.HeadRead.{HeadRead}
use Rattle.rules.specs.declared.TextRead.{TextRead}
use Rattle.masks.proofs.Choice.{ok-same}

-- ---- what is read as the same says the same

pub same_head : {h k : HeadRead} → ◌≡◌ {A = Result HeadRead ℕ} (Ok h) (Ok k)
    → (h.variables ≡ k.variables) × (h.budget ≡ k.budget) × (h.rows ≡ k.rows) × (h.next ≡ k.next)
same_head {h} {k} e =
    let p : h ≡ k = ok-same e in
    (ap (λ (x : HeadRead). x.variables) p, ap (λ (x : HeadRead). x.budget) p, ap (λ (x : HeadRead). x.rows) p, ap (λ (x : HeadRead). x.next) p)

pub same_text : {t u : TextRead} → ◌≡◌ {A = Result TextRead Refusal} (Ok t) (Ok u)
    → (t.variables ≡ u.variables) × (t.budget ≡ u.budget) × (t.rows ≡ u.rows)
same_text {t} {u} e =
    let p : t ≡ u = ok-same e in
    (ap (λ (x : TextRead). x.variables) p, ap (λ (x : TextRead). x.budget) p, ap (λ (x : TextRead). x.rows) p)

-- ---- the head's figures, in order

module _ (most : ℕ) (s : List ℕ) (room n b m next : ℕ) where
  pub over-variables : most_variables < n → head_why most s room (Ok (three_lines n b m next)) ≡ Err TooManyVariables
  over-variables h = rw (lt-ltb most_variables n h)

  pub over-budget : n ≤ most_variables → most_budget < b → head_why most s room (Ok (three_lines n b m next)) ≡ Err BadBudget
  over-budget g h = rw (le-ltb most_variables n g, lt-ltb most_budget b h)

  pub over-rows : n ≤ most_variables → b ≤ most_budget → most < m → head_why most s room (Ok (three_lines n b m next)) ≡ Err BadTable
  over-rows g h i = rw (le-ltb most_variables n g, le-ltb most_budget b h, lt-ltb most m i)

  pub over-room : n ≤ most_variables → b ≤ most_budget → m ≤ most → room < row_words * m → head_why most s room (Ok (three_lines n b m next)) ≡ Err NoRoom
  over-room g h i j = rw (le-ltb most_variables n g, le-ltb most_budget b h, le-ltb most m i, lt-ltb room (row_words * m) j)

  pub to-rest : n ≤ most_variables → b ≤ most_budget → m ≤ most → row_words * m ≤ room
      → head_why most s room (Ok (three_lines n b m next)) ≡ rest_why s m (rows_at m s next first_row_line)
  to-rest g h i j = rw (le-ltb most_variables n g, le-ltb most_budget b h, le-ltb most m i, le-ltb room (row_words * m) j)

-- what a fine head says
pub record HeadFine (most : ℕ) (s : List ℕ) (room n b m next : ℕ) : Type 0 where
  pub variables : n ≤ most_variables
  pub budget : b ≤ most_budget
  pub few : m ≤ most
  pub fits : row_words * m ≤ room
  pub rest : rest_why s m (rows_at m s next first_row_line) ≡ Ok tt

pub head-fine : (most : ℕ) (s : List ℕ) (room n b m next : ℕ) → head_why most s room (Ok (three_lines n b m next)) ≡ Ok tt → HeadFine most s room n b m next
head-fine most s room n b m next e =
    let p1 = refuse-fine (ltb most_variables n) TooManyVariables _ e in
    let p2 = refuse-fine (ltb most_budget b) BadBudget _ p1.1 in
    let p3 = refuse-fine (ltb most m) BadTable _ p2.1 in
    let p4 = refuse-fine (ltb room (row_words * m)) NoRoom _ p3.1 in
    record {
      variables = ltb-false most_variables n p1.0;
      budget = ltb-false most_budget b p2.0;
      few = ltb-false most m p3.0;
      fits = ltb-false room (row_words * m) p4.0;
      rest = p4.1;
    }

-- ---- the words

front_length : (words : List ℕ) (k : ℕ) (r : RowsRead) → length words ≡ row_words → length (words_of r) ≤ row_words * k
    → length (words_of (in_front words r)) ≤ row_words * suc k
front_length words k (rows more next) e l = rw (length-append words more) (omega arith)
front_length words k (broken_at line) e l = omega arith

pub words-length : (m : ℕ) (s : List ℕ) (at line : ℕ) → length (words_of (rows_at m s at line)) ≤ row_words * m
unfolding rows_at row_words_of
words-length zero s at line = omega arith
words-length (suc m) s at line = go (row_at s at line) (λ next. words-length m s next (line + row_lines))
  where
    go : (r : Result (Row × ℕ) ℕ) → ((next : ℕ) → length (words_of (rows_at m s next (line + row_lines))) ≤ row_words * m)
        → length (words_of (on_row r (λ row next. in_front (row_words_of row) (rows_at m s next (line + row_lines))))) ≤ row_words * suc m
    go (Ok (row, next)) ih = front_length (row_words_of row) m (rows_at m s next (line + row_lines)) refl (ih next)
    go (Err b) ih = omega arith

-- ---- the answer, and the lent words

module _ (most : ℕ) (s : List ℕ) (table : List ℕ) where
  pub read-broken : (line : ℕ) → head_at s ≡ Err line
      → (Err (BadText line) ≡ text_read most s (length table)) × (table ≡ read_table most s table)
  unfolding text_read read_table read_why
  read-broken line e = (rw e, rw e)

  pub read-refused : (n b m next : ℕ) (r : Refusal) → head_at s ≡ Ok (three_lines n b m next)
      → head_why most s (length table) (Ok (three_lines n b m next)) ≡ Err r
      → (Err r ≡ text_read most s (length table)) × (table ≡ read_table most s table)
  unfolding text_read read_table read_why
  read-refused n b m next r e h = (rw (e, h), rw (e, h))

  pub read-fine : (n b m next : ℕ) → head_at s ≡ Ok (three_lines n b m next)
      → head_why most s (length table) (Ok (three_lines n b m next)) ≡ Ok tt
      → (Ok (text_says n b m) ≡ text_read most s (length table)) × (sets table 0 (words_of (rows_at m s next first_row_line)) ≡ read_table most s table)
  unfolding text_read read_table read_why read_step read_words
  read-fine n b m next e h =
      let words = words_of (rows_at m s next first_row_line) in
      let fits : 0 + length words ≤ length table = omega (arith, words-length m s next first_row_line, (head-fine most s (length table) n b m next h).fits) in
      (rw (e, h), rw (e, h) (sets-eq words table 0 fits ∙ rw (zero-add (length words))))
