-- Rows. A row is three lines; the rows of a table, one behind the other, are read as its words, and words that are read are those of rows
-- that stand there, one behind the other.
use Rattle.std.specs.Prelude.{Option, Some, None, Result, Ok, Err}
use Prim.Native.Nat.{ℕ, zero, suc, ◌+◌, ◌*◌, ◌^◌, ◌<◌, ◌≤◌}
use mathlib.Core.Path.{◌≡◌, refl, sym, ap, subst, ◌∙◌}
use mathlib.Core.Logic.{⊎_elim}
use mathlib.Core.Bool.{true, false}
use mathlib.Core.List.{List, [], ◌∷◌, ◌++◌, append_assoc, append-nil}
use native.Mathlib.Nat.{add-zero}
use native.Mathlib.Omega.{arith}
use lib.Bits.{bit_and}
use lib.ListN.{length, drop, length-append, drop_of_length-le}
use Rattle.masks.proofs.Choice.{cases, impossible, ok-pair}
use Rattle.literals.specs.declared.Lits.{Lits}
use Rattle.literals.specs.Literal.{most_variables}
use Rattle.rules.specs.declared.Row.{Row}
use Rattle.rules.specs.Table.{row_of, row_words_of, row_words, marked_row}
use Rattle.rules.specs.Text.{lits_text, row_text, rows_text, line_feed}
use Rattle.rules.specs.Reader.{row_lines, stands, number_line, mark_line, lits_line, row_at, RowsRead, rows, broken_at, in_front, rows_at}
use Rattle.text_laws.specs.Pieces.{line_text, list_text}
use Rattle.text_laws.specs.Keys.{weight_key, hard_key, lits_key}
use Rattle.text_laws.specs.Lines.{RowHeld}
use Rattle.text_laws.proofs.Pieces.{row-text}
use Rattle.text_laws.proofs.RowWords.{row_words_lem, row-front, row-past, row_drop}
use Rattle.text_laws.proofs.Stands.{stands-none, first-stands, second-stands, both-stand}
use Rattle.text_laws.proofs.Branches.{line-of-lits, line-no-lits, row-no-weight, row-no-mark, row-no-lits, row_is, rows_next}
use Rattle.text_laws.proofs.Lines.{line_reads, line-found}
use Rattle.text_laws.proofs.Marks.{mark-reads, mark-found}
use Rattle.text_laws.proofs.Lists.{lits-read}
use Rattle.text_laws.proofs.ListsFound.{lits-spelt}

-- ---- a line of literals

list-end : (at : ℕ) (l : Lits) → at + length (list_text l) ≡ at + length lits_key + length (lits_text most_variables l ++ (line_feed ∷ []))
list-end at l = rw (length-append lits_key (lits_text most_variables l ++ (line_feed ∷ []))) (omega arith)

pub list-reads : (s : List ℕ) (at : ℕ) (l : Lits) → l.positive < 2 ^ most_variables → l.negative < 2 ^ most_variables → bit_and l.positive l.negative ≡ 0
    → stands s at (list_text l) ≡ true → lits_line s at ≡ Some (l, at + length (list_text l))
list-reads s at l p n a e =
    let rest = lits_text most_variables l ++ (line_feed ∷ []) in
    line-of-lits s at (first-stands s at lits_key rest e) ∙ lits-read s (at + length lits_key) l p n a (second-stands s at lits_key rest e) ∙ rw (list-end at l)

pub record ListHeld (s : List ℕ) (at : ℕ) (l : Lits) (next : ℕ) : Type 0 where
  pub stand : stands s at (list_text l) ≡ true
  pub end : next ≡ at + length (list_text l)
  pub positive : l.positive < 2 ^ most_variables
  pub negative : l.negative < 2 ^ most_variables
  pub both : bit_and l.positive l.negative ≡ 0

pub list-found : (s : List ℕ) (at : ℕ) (l : Lits) (next : ℕ) → lits_line s at ≡ Some (l, next) → ListHeld s at l next
list-found s at l next e =
    ⊎_elim
    (λ (t : stands s at lits_key ≡ true).
    let f = lits-spelt s (at + length lits_key) l next (sym (line-of-lits s at t) ∙ e) in
    record {
      stand = both-stand s at lits_key (lits_text most_variables l ++ (line_feed ∷ [])) t f.stand;
      end = f.end ∙ sym (list-end at l);
      positive = f.positive;
      negative = f.negative;
      both = f.both;
    })
    (λ (t : stands s at lits_key ≡ false).
    let b = line-no-lits s at t in
    impossible (cc))
    (cases (stands s at lits_key))

-- ---- a row

pub row_reads : (s : List ℕ) (at ln : ℕ) (row : Row) → RowHeld row → stands s at (row_text row) ≡ true
    → row_at s at ln ≡ Ok (row, at + length (row_text row))
row_reads s at ln row w e =
    let one = line_text weight_key row.weight in
    let two = line_text hard_key row.mark in
    let three = list_text row.lits in
    let e1 : stands s at (one ++ (two ++ three)) ≡ true = rw (row-text row) at e in
    let e2 = second-stands s at one (two ++ three) e1 in
    let weight = line_reads s at weight_key row.weight w.light (first-stands s at one (two ++ three) e1) in
    let mid = at + length one in
    let mark = mark-reads s mid row.mark w.mark (first-stands s mid two three e2) in
    let past = mid + length two in
    let lits = list-reads s past row.lits w.positive w.negative w.apart (second-stands s mid two three e2) in
    let end : past + length three ≡ at + length (row_text row) = rw (row-text row, length-append one (two ++ three), length-append two three) (omega arith) in
    row_is s at ln row.weight mid row.mark past weight mark row.lits (past + length three) lits ∙ ap (λ next. Ok (row, next)) end

-- a row that is read: it stands there, and the form holds it
abbrev Standing : List ℕ → ℕ → Row → ℕ → Type 0
Standing s at row next = (stands s at (row_text row) ≡ true) × (next ≡ at + length (row_text row)) × RowHeld row

pub row-held : (s : List ℕ) (at w mid m past : ℕ) (l : Lits) (end : ℕ) → number_line s at weight_key ≡ Some (w, mid) → mark_line s mid ≡ Some (m, past)
    → lits_line s past ≡ Some (l, end) → RowHeld (marked_row l w m)
row-held s at w mid m past l end p o q =
    let found = list-found s past l end q in
    record {
      positive = found.positive;
      negative = found.negative;
      apart = found.both;
      light = (line-found s at weight_key w mid p).small;
      mark = (mark-found s mid m past o).small;
    }

row-stands : (s : List ℕ) (at w mid m past : ℕ) (l : Lits) (end : ℕ) → number_line s at weight_key ≡ Some (w, mid) → mark_line s mid ≡ Some (m, past)
    → lits_line s past ≡ Some (l, end) → Standing s at (marked_row l w m) end
row-stands s at w mid m past l end p o q =
    let f = line-found s at weight_key w mid p in
    let g = line-found s mid hard_key m past (mark-found s mid m past o).line in
    let h = list-found s past l end q in
    let one = line_text weight_key w in
    let two = line_text hard_key m in
    let three : stands s (mid + length two) (list_text l) ≡ true = rw (← g.end) h.stand in
    let rest : stands s (at + length one) (two ++ list_text l) ≡ true = rw (← f.end) (both-stand s mid two (list_text l) g.stand three) in
    rw (row-text (marked_row l w m)) (
      both-stand s at one (two ++ list_text l) f.stand rest,
      h.end ∙ rw (g.end, f.end, length-append one (two ++ list_text l), length-append two (list_text l)) (omega arith),
      row-held s at w mid m past l end p o q,
    )

pub row-found : (s : List ℕ) (at ln : ℕ) (row : Row) (next : ℕ) → row_at s at ln ≡ Ok (row, next) → Standing s at row next
row-found s at ln row next e = weighed (number_line s at weight_key) refl
  where
    listed : (w mid m past : ℕ) → number_line s at weight_key ≡ Some (w, mid) → mark_line s mid ≡ Some (m, past)
        → (r : Option (Lits × ℕ)) → lits_line s past ≡ r → Standing s at row next
    listed w mid m past p o None q =
        let b = row-no-lits s at ln w mid m past p o q in
        impossible (cc)
    listed w mid m past p o (Some (l, end)) q =
        let same = ok-pair (sym (row_is s at ln w mid m past p o l end q) ∙ e) in
        rw (← same.0, ← same.1) (row-stands s at w mid m past l end p o q)

    marked : (w mid : ℕ) → number_line s at weight_key ≡ Some (w, mid) → (r : Option (ℕ × ℕ)) → mark_line s mid ≡ r → Standing s at row next
    marked w mid p None q =
        let b = row-no-mark s at ln w mid p q in
        impossible (cc)
    marked w mid p (Some (m, past)) q = listed w mid m past p q (lits_line s past) refl

    weighed : (r : Option (ℕ × ℕ)) → number_line s at weight_key ≡ r → Standing s at row next
    weighed None p =
        let b = row-no-weight s at ln p in
        impossible (cc)
    weighed (Some (w, mid)) p = marked w mid p (mark_line s mid) refl

-- ---- the rows of a table from row i on

unfoldable pub rows_from : ℕ → ℕ → List ℕ → List ℕ
rows_from zero i table = []
rows_from (suc d) i table = row_text (row_of table i) ++ rows_from d (suc i) table

unfoldable pub words_from : ℕ → ℕ → List ℕ → List ℕ
words_from zero i table = []
words_from (suc d) i table = row_words_of (row_of table i) ++ words_from d (suc i) table

rows_split : (table : List ℕ) (d i : ℕ) → rows_text table (i + d) ≡ rows_text table i ++ rows_from d i table
unfolding rows_from rows_text
rows_split table zero i = rw (add-zero i, append-nil (rows_text table i))
rows_split table (suc d) i =
    let p : i + suc d ≡ suc i + d = omega arith in
    rw p (rows_split table d (suc i) ∙ append_assoc (rows_text table i) (row_text (row_of table i)) (rows_from d (suc i) table))

pub rows_all : (table : List ℕ) (m : ℕ) → rows_text table m ≡ rows_from m 0 table
unfolding rows_text
rows_all table m = let p : m ≡ 0 + m = omega arith in ap (rows_text table) p ∙ rows_split table m 0

-- the words of all rows are the table
words-drop : (d i : ℕ) (table : List ℕ) → length table ≡ row_words * (i + d) → words_from d i table ≡ drop (row_words * i) table
unfolding words_from row_of
words-drop zero i table e = let past : length table ≤ row_words * i = omega arith in sym (drop_of_length-le table past)
words-drop (suc d) i table e =
    let more : row_words * suc i ≡ row_words * i + row_words = omega arith in
    rw (words-drop d (suc i) table (omega arith), more, row_drop table (row_words * i) (omega arith))

pub words-all : (m : ℕ) (table : List ℕ) → length table ≡ row_words * m → words_from m 0 table ≡ table
words-all m table e = words-drop m 0 table (omega arith)

-- rows that are read one by one
rows-read : (d : ℕ) (s : List ℕ) (at ln i : ℕ) (table : List ℕ) → ((j : ℕ) → i ≤ j → j < i + d → RowHeld (row_of table j))
    → stands s at (rows_from d i table) ≡ true → rows_at d s at ln ≡ rows (words_from d i table) (at + length (rows_from d i table))
unfolding rows_from words_from rows_at
rows-read zero s at ln i table w e = rw (add-zero at)
rows-read (suc d) s at ln i table w e =
    let one = row_text (row_of table i) in
    let more = rows_from d (suc i) table in
    let row = row_reads s at ln (row_of table i) (w i (omega arith) (omega arith)) (first-stands s at one more e) in
    let ih = rows-read d s (at + length one) (ln + row_lines) (suc i) table (λ j l h. w j (omega arith) (omega arith)) (second-stands s at one more e) in
    rw (row, ih) (ap (rows (row_words_of (row_of table i) ++ words_from d (suc i) table)) (rw (length-append one more) (omega arith)))

-- ---- rows that are found

-- past its first row, words have the rows of what is left
pub rows-shift : (d : ℕ) (row : Row) (more : List ℕ) (i : ℕ) → rows_from d (suc i) (row_words_of row ++ more) ≡ rows_from d i more
unfolding rows_from row_of
rows-shift zero row more i = refl
rows-shift (suc d) row more i =
    let next : row_words * suc i ≡ row_words + row_words * i = omega arith in
    rw (next, row-past row more (row_words * i), rows-shift d row more (suc i))

pub first-row : (row : Row) (more : List ℕ) → row_of (row_words_of row ++ more) 0 ≡ row
unfolding row_of
first-row row more = row-front row more

pub later-row : (row : Row) (more : List ℕ) (i : ℕ) → row_of (row_words_of row ++ more) (suc i) ≡ row_of more i
unfolding row_of
later-row row more i =
    let next : row_words * suc i ≡ row_words + row_words * i = omega arith in
    rw (next, row-past row more (row_words * i))

-- what holds of each row
pub each_more : (P : Row → Type 0) (d : ℕ) (row : Row) (more : List ℕ) → P row → ((i : ℕ) → i < d → P (row_of more i))
    → (i : ℕ) → i < suc d → P (row_of (row_words_of row ++ more) i)
each_more P d row more p ps zero l = subst P (sym (first-row row more)) p
each_more P d row more p ps (suc i) l = subst P (sym (later-row row more i)) (ps i (omega arith))

pub record RowsFound (d : ℕ) (s : List ℕ) (at : ℕ) (words : List ℕ) (next : ℕ) : Type 0 where
  pub long : length words ≡ row_words * d
  pub stand : stands s at (rows_text words d) ≡ true
  pub end : next ≡ at + length (rows_text words d)
  pub held : (i : ℕ) → i < d → RowHeld (row_of words i)

Run : ℕ → List ℕ → ℕ → List ℕ → ℕ → Type 0
Run d s at words next =
    (length words ≡ row_words * d) × (stands s at (rows_from d 0 words) ≡ true) × (next ≡ at + length (rows_from d 0 words))
    × ((i : ℕ) → i < d → RowHeld (row_of words i))

run_more : (d : ℕ) (s : List ℕ) (at ln : ℕ) (row : Row) (mid : ℕ) (more : List ℕ) (next : ℕ) → row_at s at ln ≡ Ok (row, mid)
    → Run d s mid more next → Run (suc d) s at (row_words_of row ++ more) next
unfolding Run rows_from
run_more d s at ln row mid more next e w =
    let f = row-found s at ln row mid e in
    let text = row_text row in
    let rest = rows_from d 0 more in
    let whole : rows_from (suc d) 0 (row_words_of row ++ more) ≡ text ++ rest = rw (first-row row more, rows-shift d row more 0) in
    let there : stands s (at + length text) rest ≡ true = rw (← f.1) w.1 in
    let end : next ≡ at + length (text ++ rest) = w.2 ∙ rw (f.1, length-append text rest) (omega arith) in (
      rw (length-append (row_words_of row) more, row_words_lem row) (omega (arith, w.0)),
      rw whole (both-stand s at text rest f.0 there),
      rw whole end,
      each_more RowHeld d row more f.2 w.3,
    )

runs : (d : ℕ) (s : List ℕ) (at ln : ℕ) (words : List ℕ) (next : ℕ) → rows_at d s at ln ≡ rows words next → Run d s at words next
unfolding rows_at Run rows_from
runs zero s at ln words next e =
    let w : [] ≡ words = cc in
    let n : at ≡ next = cc in
    rw (← w, ← n) (omega arith, stands-none s at, sym (add-zero at), λ i l. absurd (omega arith))
runs (suc d) s at ln words next e = on_row (row_at s at ln) refl (λ mid more end. runs d s mid (ln + row_lines) more end)
  where
    behind-row : (row : Row) (mid : ℕ) → row_at s at ln ≡ Ok (row, mid) → (r : RowsRead) → rows_at d s mid (ln + row_lines) ≡ r
        → ((more : List ℕ) (end : ℕ) → rows_at d s mid (ln + row_lines) ≡ rows more end → Run d s mid more end) → Run (suc d) s at words next
    behind-row row mid p (broken_at b) q ih =
        let r = rows_next s d at ln row mid p in
        let z : in_front (row_words_of row) (rows_at d s mid (ln + row_lines)) ≡ broken_at b = rw q in
        impossible (cc)
    behind-row row mid p (rows more end) q ih =
        let r = rows_next s d at ln row mid p in
        let z : in_front (row_words_of row) (rows_at d s mid (ln + row_lines)) ≡ rows (row_words_of row ++ more) end = rw q in
        let w : row_words_of row ++ more ≡ words = cc in
        let n : end ≡ next = cc in
        rw (← w, ← n) (run_more d s at ln row mid more end p (ih more end q))

    on_row : (r : Result (Row × ℕ) ℕ) → row_at s at ln ≡ r
        → ((mid : ℕ) (more : List ℕ) (end : ℕ) → rows_at d s mid (ln + row_lines) ≡ rows more end → Run d s mid more end) → Run (suc d) s at words next
    on_row (Err b) p ih =
        let z : rows_at (suc d) s at ln ≡ broken_at b = rw p in
        impossible (cc)
    on_row (Ok (row, mid)) p ih = behind-row row mid p (rows_at d s mid (ln + row_lines)) refl (ih mid)

-- ---- the rows' two laws

pub rows-read-back : (m : ℕ) (s : List ℕ) (at ln : ℕ) (table : List ℕ) → length table ≡ row_words * m → ((j : ℕ) → j < m → RowHeld (row_of table j))
    → stands s at (rows_text table m) ≡ true → rows_at m s at ln ≡ rows table (at + length (rows_text table m))
rows-read-back m s at ln table l w e =
    let all = rows_all table m in
    rows-read m s at ln 0 table (λ j a b. w j (omega arith)) (rw all at e) ∙ rw (words-all m table l, all)

pub rows-found : (m : ℕ) (s : List ℕ) (at ln : ℕ) (words : List ℕ) (next : ℕ) → rows_at m s at ln ≡ rows words next → RowsFound m s at words next
unfolding Run
rows-found m s at ln words next e =
    let w = runs m s at ln words next e in
    let all = rows_all words m in
    record { long = w.0; stand = rw all w.1; end = rw all w.2; held = w.3 }
