-- The converse: a text that is read is the one that the writer writes of what was read. Each line that was read stands there as it is written,
-- one behind the other from the start, and nothing follows, so the text is no longer than they are. So the form has one spelling.
use Rattle.std.specs.Prelude.{Result, Ok, Err}
use Prim.Native.Nat.{ℕ, ◌+◌, ◌*◌}
use mathlib.Core.Path.{◌≡◌, refl, sym, ap, ◌∙◌}
use mathlib.Core.Bool.{not}
use mathlib.Core.List.{List}
use native.Mathlib.Omega.{arith}
use borrow.Author.Tests.{eqb-true, not-false}
use lib.Dec.{eqb}
use lib.ListN.{length}
use Rattle.masks.proofs.Choice.{impossible}
use Rattle.rules.specs.declared.HeadRead.{HeadRead}
use Rattle.rules.specs.declared.Refusal.TheVariants.{BadText}
use Rattle.rules.specs.Refusals.{Judged}
use Rattle.rules.specs.Table.{row_count, row_words}
use Rattle.rules.specs.Text.{rows_text, table_text}
use Rattle.rules.specs.Reader.{first_row_line, row_lines, text_says, three_lines}
use Rattle.rules.specs.Reader.{head_at, RowsRead, rows, broken_at, rows_at, rest_why, head_why, read_why, words_of, read_words, text_read, text_read_as}
use Rattle.rules.proofs.Judging.{refuse-fine}
use Rattle.text_laws.proofs.Stands.{stands-whole}
use Rattle.text_laws.proofs.Rows.{rows-found}
use Rattle.text_laws.proofs.Heads.{head_text, head-length, table-text, head-found}
use Rattle.text_laws.proofs.Reading.{same_text, head-fine}

pub count_of : (words : List ℕ) (m : ℕ) → length words ≡ row_words * m → row_count words ≡ m
unfolding row_count
count_of words m e = omega arith

-- rows that are fine are words, and end where the text does
pub rest-words : (s : List ℕ) (m : ℕ) (r : RowsRead) → rest_why s m r ≡ Ok tt → r ≡ rows (words_of r) (length s)
rest-words s m (rows words next) e =
    let t = refuse-fine (not (eqb next (length s))) (BadText (first_row_line + row_lines * m)) (Ok tt) e in
    ap (rows words) (eqb-true next (length s) (not-false (eqb next (length s)) t.0))
rest-words s m (broken_at b) e = impossible (cc)

-- the text of its head and its rows
pub head-and-rows : (s : List ℕ) (n b m next : ℕ) (words : List ℕ) → head_at s ≡ Ok (three_lines n b m next)
    → rows_at m s next first_row_line ≡ rows words (length s) → s ≡ table_text n b words
head-and-rows s n b m next words e f =
    let head = head-found s n b m next e in
    let body = rows-found m s next first_row_line words (length s) f in
    let count = count_of words m body.long in
    let text : table_text n b words ≡ head_text n b m (rows_text words m) = table-text n b words ∙ ap (λ (k : ℕ). head_text n b k (rows_text words k)) count in
    let end = body.end ∙ ap (λ (k : ℕ). k + length (rows_text words m)) head.end in
    let long : length (table_text n b words) ≡ length s = ap length text ∙ head-length n b m (rows_text words m) ∙ sym end in
    stands-whole s (table_text n b words) (rw text (head.stand (rows_text words m) body.stand)) long

judged : (most : ℕ) (s : List ℕ) (room : ℕ) (head : HeadRead) → head_at s ≡ Ok head → (j : Judged) → head_why most s room (Ok head) ≡ j
    → (n b m : ℕ) → text_read_as j (Ok head) ≡ Ok (text_says n b m) → s ≡ table_text n b (read_words s)
unfolding read_words
judged most s room head e (Ok _) why n b m h =
    let same = same_text h in
    let found = rows_at head.rows s head.next first_row_line in
    let fine = head-fine most s room head.variables head.budget head.rows head.next why in
    let body = rest-words s head.rows found fine.rest in
    rw (e, ← same.0, ← same.1) (head-and-rows s head.variables head.budget head.rows head.next (words_of found) e body)
judged most s room head e (Err r) why n b m h = impossible (cc)

pub converse : (most : ℕ) (s : List ℕ) (room n b m : ℕ) → text_read most s room ≡ Ok (text_says n b m) → s ≡ table_text n b (read_words s)
unfolding text_read read_why
converse most s room n b m h = go (head_at s) refl
  where
    go : (x : Result HeadRead ℕ) → head_at s ≡ x → s ≡ table_text n b (read_words s)
    go (Ok head) e =
        let h2 : text_read_as (head_why most s room (Ok head)) (Ok head) ≡ Ok (text_says n b m) = rw e at h in
        judged most s room head e (head_why most s room (Ok head)) refl n b m h2
    go (Err bad) e =
        let h2 : Err (BadText bad) ≡ Ok (text_says n b m) = rw e at h in
        impossible (cc)

-- and there are as many words as the rows say
pub word_count : (most : ℕ) (s : List ℕ) (room n b m : ℕ) → text_read most s room ≡ Ok (text_says n b m) → length (read_words s) ≡ row_words * m
unfolding text_read read_why read_words
word_count most s room n b m h = go (head_at s) refl
  where
    counted : (head : HeadRead) (j : Judged) → head_why most s room (Ok head) ≡ j → text_read_as j (Ok head) ≡ Ok (text_says n b m)
        → length (words_of (rows_at head.rows s head.next first_row_line)) ≡ row_words * m
    counted head (Ok _) why q =
        let found = rows_at head.rows s head.next first_row_line in
        let body = rest-words s head.rows found (head-fine most s room head.variables head.budget head.rows head.next why).rest in
        (rows-found head.rows s head.next first_row_line (words_of found) (length s) body).long ∙ ap (λ (x : ℕ). row_words * x) (same_text q).2
    counted head (Err r) why q = impossible (cc)

    go : (x : Result HeadRead ℕ) → head_at s ≡ x → length (read_words s) ≡ row_words * m
    go (Ok head) e =
        let h2 : text_read_as (head_why most s room (Ok head)) (Ok head) ≡ Ok (text_says n b m) = rw e at h in
        rw e (counted head (head_why most s room (Ok head)) refl h2)
    go (Err bad) e =
        let h2 : Err (BadText bad) ≡ Ok (text_says n b m) = rw e at h in
        impossible (cc)

-- so no two texts are read as the same variables, budget and words
pub one-spelling : (most : ℕ) (s t : List ℕ) (room other n b m : ℕ) → text_read most s room ≡ Ok (text_says n b m)
    → text_read most t other ≡ Ok (text_says n b m) → read_words s ≡ read_words t → s ≡ t
one-spelling most s t room other n b m p q e = converse most s room n b m p ∙ ap (table_text n b) e ∙ sym (converse most t other n b m q)
