-- The first line that breaks the form is the one that the reader finds. A line that is read is a line of a written text, so what is read so far goes on to
-- some written text; and a line that is not read is a line of none, for there it would be read.
use Rattle.std.specs.Prelude.{Option, Some, None, Ok, Err}
use Prim.Native.Nat.{ℕ, zero, suc, ◌+◌, ◌*◌, ◌^◌, ◌<◌, ◌≤◌}
use mathlib.Core.Path.{◌≡◌, refl, sym, ap, ap₂, ◌∙◌}
use mathlib.Core.Bool.{Bool, true, false, not}
use mathlib.Core.List.{List, [], ◌∷◌, ◌++◌, append_assoc}
use native.Mathlib.Omega.{arith}
use borrow.Author.Tests.{eqb-false}
use lib.Dec.{eqb}
use lib.ListN.{length, drop, length-drop, length-append}
use Rattle.masks.proofs.Choice.{impossible}
use Rattle.literals.specs.declared.Lits.{Lits}
use Rattle.literals.specs.Literal.{most_variables}
use Rattle.literals.specs.Lits.{no_lits}
use Rattle.rules.specs.declared.Row.{Row}
use Rattle.rules.specs.declared.Refusal.TheVariants.{BadText}
use Rattle.rules.specs.Refusals.{Judged, refuse}
use Rattle.rules.specs.Table.{row_words, hard_mark, marked_row, row_of, row_words_of}
use Rattle.rules.specs.Text.{line_feed, most_digits, number_text, lits_text, row_text}
use Rattle.rules.specs.Reader.{row_lines, stands, number_line, mark_line, lits_line, row_at, RowsRead, rows, broken_at, in_front, rows_at}
use Rattle.text_laws.specs.Pieces.{line_text, list_text}
use Rattle.text_laws.specs.Keys.{weight_key, hard_key, lits_key}
use Rattle.text_laws.specs.Lines.{Line, ended, missing, first_line, first_lines, NoFeed, RowHeld}
use Rattle.text_laws.proofs.Cuts.{no-feed-append, number-no-feed, lits-no-feed, lines-ended, missing-is, LineAt, line-at, at-line}
use Rattle.text_laws.proofs.Pieces.{row-text}
use Rattle.text_laws.proofs.RowWords.{row_words_lem}
use Rattle.text_laws.proofs.Lines.{line_reads, line-found}
use Rattle.text_laws.proofs.Marks.{mark-reads, mark-found}
use Rattle.text_laws.proofs.Branches.{row-no-weight, row-no-mark, row-no-lits, row_is, rows-broken, rows_next}
use Rattle.text_laws.proofs.Rows.{list-reads, list-found, row-held, rows_from, rows-shift, first-row, each_more}

-- ---- a line of a key and a number, a line of literals

abbrev pub number_bytes : List ℕ → ℕ → List ℕ
number_bytes key v = key ++ number_text v

abbrev pub lits_bytes : Lits → List ℕ
lits_bytes l = lits_key ++ lits_text most_variables l

number-line : (key : List ℕ) (v : ℕ) → line_text key v ≡ number_bytes key v ++ (line_feed ∷ [])
unfolding line_text
number-line key v = sym (append_assoc key (number_text v) (line_feed ∷ []))

lits-line : (l : Lits) → list_text l ≡ lits_bytes l ++ (line_feed ∷ [])
lits-line l = sym (append_assoc lits_key (lits_text most_variables l) (line_feed ∷ []))

pub bytes-no-feed : (key : List ℕ) (v : ℕ) → NoFeed key → NoFeed (number_bytes key v)
bytes-no-feed key v p = no-feed-append key (number_text v) p (number-no-feed v)

lits-bytes-no-feed : (l : Lits) → NoFeed (lits_bytes l)
lits-bytes-no-feed l = no-feed-append lits_key (lits_text most_variables l) (refl, (refl, (refl, (refl, (refl, tt))))) (lits-no-feed most_variables l)

-- read, it is a line at the place
pub number_at : (s : List ℕ) (at : ℕ) (key : List ℕ) (v next : ℕ) → number_line s at key ≡ Some (v, next) → LineAt s at (number_bytes key v) next
number_at s at key v next e =
    let f = line-found s at key v next e in
    line-at s at (number_bytes key v) next (rw (number-line key v) at f.stand) (rw (number-line key v) at f.end)

list_at : (s : List ℕ) (at : ℕ) (l : Lits) (next : ℕ) → lits_line s at ≡ Some (l, next) → LineAt s at (lits_bytes l) next
list_at s at l next e =
    let f = list-found s at l next e in
    line-at s at (lits_bytes l) next (sym (ap (stands s at) (lits-line l)) ∙ f.stand) (f.end ∙ ap (λ (x : List ℕ). at + length x) (lits-line l))

-- a line at the place is read
pub number_of : (s : List ℕ) (at : ℕ) (key : List ℕ) (v : ℕ) → v < 10 ^ most_digits → first_line (drop at s) ≡ ended (number_bytes key v)
    → number_line s at key ≡ Some (v, at + length (line_text key v))
number_of s at key v l e = line_reads s at key v l (rw (number-line key v) (at-line s at (number_bytes key v) e))

mark-at : (s : List ℕ) (at m next : ℕ) → mark_line s at ≡ Some (m, next) → LineAt s at (number_bytes hard_key m) next
mark-at s at m next e = number_at s at hard_key m next (mark-found s at m next e).line

mark_of : (s : List ℕ) (at : ℕ) (row : Row) → RowHeld row → first_line (drop at s) ≡ ended (number_bytes hard_key row.mark)
    → mark_line s at ≡ Some (row.mark, at + length (line_text hard_key row.mark))
mark_of s at row h e =
    mark-reads s at row.mark h.mark (rw (number-line hard_key row.mark) (at-line s at (number_bytes hard_key row.mark) e))

list_of : (s : List ℕ) (at : ℕ) (row : Row) → RowHeld row → first_line (drop at s) ≡ ended (lits_bytes row.lits)
    → lits_line s at ≡ Some (row.lits, at + length (list_text row.lits))
list_of s at row h e =
    list-reads s at row.lits h.positive h.negative h.apart (rw (lits-line row.lits) (at-line s at (lits_bytes row.lits) e))

-- the lines from a line on, of a text that is read and of one that is written
pub lines_at : (k : ℕ) (s : List ℕ) (at : ℕ) (c : List ℕ) (next : ℕ) → NoFeed c → LineAt s at c next
    → first_lines (suc k) (drop at s) ≡ ended c ∷ first_lines k (drop next s)
lines_at k s at c next p l = ap (first_lines (suc k)) l.cut ∙ lines-ended k c (drop next s) p

pub lines_of : (k : ℕ) (key : List ℕ) (v : ℕ) (r : List ℕ) → NoFeed key
    → first_lines (suc k) (line_text key v ++ r) ≡ ended (number_bytes key v) ∷ first_lines k r
lines_of k key v r p =
    ap (λ (x : List ℕ). first_lines (suc k) (x ++ r)) (number-line key v)
    ∙ ap (first_lines (suc k)) (append_assoc (number_bytes key v) (line_feed ∷ []) r)
    ∙ lines-ended k (number_bytes key v) r (bytes-no-feed key v p)

weight-no-feed : NoFeed weight_key
weight-no-feed = (refl, (refl, (refl, (refl, (refl, (refl, (refl, tt)))))))

mark-no-feed : NoFeed hard_key
mark-no-feed = (refl, (refl, (refl, (refl, (refl, tt)))))

-- the lines of a row that is written, as far as its weight, its mark and its literals
weight-of : (k : ℕ) (row : Row) (r : List ℕ)
    → first_lines (suc k) (row_text row ++ r)
    ≡ ended (number_bytes weight_key row.weight) ∷ first_lines k (line_text hard_key row.mark ++ (list_text row.lits ++ r))
weight-of k row r =
    let one = line_text weight_key row.weight in
    let two = line_text hard_key row.mark in
    let three = list_text row.lits in
    let parted : row_text row ++ r ≡ one ++ (two ++ (three ++ r)) =
    ap (λ (x : List ℕ). x ++ r) (row-text row) ∙ append_assoc one (two ++ three) r ∙ ap (λ (x : List ℕ). one ++ x) (append_assoc two three r) in
    ap (first_lines (suc k)) parted ∙ lines_of k weight_key row.weight (two ++ (three ++ r)) weight-no-feed

marked-of : (k : ℕ) (row : Row) (r : List ℕ)
    → first_lines (suc (suc k)) (row_text row ++ r)
    ≡ ended (number_bytes weight_key row.weight) ∷ ended (number_bytes hard_key row.mark) ∷ first_lines k (list_text row.lits ++ r)
marked-of k row r =
    weight-of (suc k) row r
    ∙ ap (λ (x : List Line). ended (number_bytes weight_key row.weight) ∷ x) (lines_of k hard_key row.mark (list_text row.lits ++ r) mark-no-feed)

lits-of : (k : ℕ) (l : Lits) (r : List ℕ) → first_lines (suc k) (list_text l ++ r) ≡ ended (lits_bytes l) ∷ first_lines k r
lits-of k l r =
    ap (λ (x : List ℕ). first_lines (suc k) (x ++ r)) (lits-line l)
    ∙ ap (first_lines (suc k)) (append_assoc (lits_bytes l) (line_feed ∷ []) r)
    ∙ lines-ended k (lits_bytes l) r (lits-bytes-no-feed l)

-- a row's three lines, and what follows them
abbrev lines_of_row : Row → List Line → List Line
lines_of_row row more = ended (number_bytes weight_key row.weight) ∷ ended (number_bytes hard_key row.mark) ∷ ended (lits_bytes row.lits) ∷ more

row-of : (k : ℕ) (row : Row) (r : List ℕ) → first_lines (suc (suc (suc k))) (row_text row ++ r) ≡ lines_of_row row (first_lines k r)
row-of k row r =
    marked-of (suc k) row r
    ∙ ap (λ (x : List Line). ended (number_bytes weight_key row.weight) ∷ ended (number_bytes hard_key row.mark) ∷ x) (lits-of k row.lits r)

-- ---- rows without literals, for lines that are not read yet

bare : ℕ → ℕ → Row
bare w m = marked_row no_lits w m

bare-held : (w m : ℕ) → w < 10 ^ most_digits → m ≤ hard_mark → RowHeld (bare w m)
unfolding bare no_lits
bare-held w m l h = record { positive = omega arith; negative = omega arith; apart = refl; light = l; mark = h }

pub blank : ℕ → List ℕ
blank zero = []
blank (suc m) = row_words_of (bare 0 0) ++ blank m

pub blank-long : (m : ℕ) → length (blank m) ≡ row_words * m
unfolding blank
blank-long zero = refl
blank-long (suc m) = length-append (row_words_of (bare 0 0)) (blank m) ∙ rw (row_words_lem (bare 0 0), blank-long m) (omega arith)

pub blank-held : (m i : ℕ) → i < m → RowHeld (row_of (blank m) i)
unfolding blank
blank-held zero i l = absurd (omega arith)
blank-held (suc m) i l = each_more RowHeld m (bare 0 0) (blank m) (bare-held 0 0 (omega arith) (omega arith)) (blank-held m) i l

-- ---- the rows, and that nothing follows them

-- from the rows on, j lines are those of rows that are held, and j + 1 are those of none
pub record RestBroken (m : ℕ) (t : List ℕ) (j : ℕ) : Type 0 where
  pub words : List ℕ
  pub long : length words ≡ row_words * m
  pub held : (i : ℕ) → i < m → RowHeld (row_of words i)
  pub alike : first_lines j t ≡ first_lines j (rows_from m 0 words)
  pub none : (table : List ℕ) (i : ℕ) → ((r : ℕ) → i ≤ r → r < i + m → RowHeld (row_of table r))
      → first_lines (suc j) t ≡ first_lines (suc j) (rows_from m i table) → ⊥

-- one row more in front
front-rows : (m : ℕ) (row : Row) (more : List ℕ) → rows_from (suc m) 0 (row_words_of row ++ more) ≡ row_text row ++ rows_from m 0 more
unfolding rows_from
front-rows m row more = rw (first-row row more, rows-shift m row more 0)

front_long : (m : ℕ) (row : Row) (more : List ℕ) → length more ≡ row_words * m → length (row_words_of row ++ more) ≡ row_words * suc m
front_long m row more e = length-append (row_words_of row) more ∙ rw (row_words_lem row, e) (omega arith)

module _ (s : List ℕ) (at m : ℕ) where
  weight-broken : number_line s at weight_key ≡ None → RestBroken (suc m) (drop at s) 0
  unfolding first_lines rows_from
  weight-broken e =
      record {
        words = blank (suc m);
        long = blank-long (suc m);
        held = blank-held (suc m);
        alike = refl;
        none = λ table i h q.
            let first = weight-of 0 (row_of table i) (rows_from m (suc i) table) in
            let line : first_line (drop at s) ≡ ended (number_bytes weight_key (row_of table i).weight) = cc in
            let read = number_of s at weight_key (row_of table i).weight (h i (omega arith) (omega arith)).light line in
            impossible (cc);
      }

  module _ (w mid : ℕ) (read : number_line s at weight_key ≡ Some (w, mid)) where
    weight-lines : (k : ℕ) → first_lines (suc k) (drop at s) ≡ ended (number_bytes weight_key w) ∷ first_lines k (drop mid s)
    weight-lines k = lines_at k s at (number_bytes weight_key w) mid (bytes-no-feed weight_key w weight-no-feed) (number_at s at weight_key w mid read)

    mark-broken : mark_line s mid ≡ None → RestBroken (suc m) (drop at s) 1
    unfolding first_lines rows_from bare
    mark-broken e =
        record {
          words = row_words_of (bare w 0) ++ blank m;
          long = front_long m (bare w 0) (blank m) (blank-long m);
          held = each_more RowHeld m (bare w 0) (blank m) (bare-held w 0 (line-found s at weight_key w mid read).small (omega arith)) (blank-held m);
          alike = weight-lines 0 ∙ sym (ap (first_lines 1) (front-rows m (bare w 0) (blank m)) ∙ weight-of 0 (bare w 0) (rows_from m 0 (blank m)));
          none = λ table i h q.
              let whole = marked-of 0 (row_of table i) (rows_from m (suc i) table) in
              let mine = weight-lines 1 in
              let line : first_line (drop mid s) ≡ ended (number_bytes hard_key (row_of table i).mark) = cc in
              let again = mark_of s mid (row_of table i) (h i (omega arith) (omega arith)) line in
              impossible (cc);
        }

    module _ (mark past : ℕ) (said : mark_line s mid ≡ Some (mark, past)) where
      two-lines : (k : ℕ)
          → first_lines (suc (suc k)) (drop at s) ≡ ended (number_bytes weight_key w) ∷ ended (number_bytes hard_key mark) ∷ first_lines k (drop past s)
      two-lines k =
          weight-lines (suc k)
          ∙ ap (λ (x : List Line). ended (number_bytes weight_key w) ∷ x)
          (lines_at k s mid (number_bytes hard_key mark) past (bytes-no-feed hard_key mark mark-no-feed) (mark-at s mid mark past said))

      lits-broken : lits_line s past ≡ None → RestBroken (suc m) (drop at s) 2
      unfolding first_lines rows_from bare
      lits-broken e =
          let row = bare w mark in
          let light = (line-found s at weight_key w mid read).small in
          record {
            words = row_words_of row ++ blank m;
            long = front_long m row (blank m) (blank-long m);
            held = each_more RowHeld m row (blank m) (bare-held w mark light (mark-found s mid mark past said).small) (blank-held m);
            alike = two-lines 0 ∙ sym (ap (first_lines 2) (front-rows m row (blank m)) ∙ marked-of 0 row (rows_from m 0 (blank m)));
            none = λ table i h q.
                let whole = row-of 0 (row_of table i) (rows_from m (suc i) table) in
                let mine = two-lines 1 in
                let line : first_line (drop past s) ≡ ended (lits_bytes (row_of table i).lits) = cc in
                let again = list_of s past (row_of table i) (h i (omega arith) (omega arith)) line in
                impossible (cc);
          }

      row-then : (l : Lits) (next : ℕ) → lits_line s past ≡ Some (l, next) → (j : ℕ) → RestBroken m (drop next s) j
          → RestBroken (suc m) (drop at s) (suc (suc (suc j)))
      unfolding first_lines rows_from
      row-then l next e j b =
          let row = marked_row l w mark in
          let lines : (k : ℕ) → first_lines (suc (suc (suc k))) (drop at s) ≡ lines_of_row row (first_lines k (drop next s)) =
          λ k.
          two-lines (suc k)
          ∙ ap (λ (x : List Line). ended (number_bytes weight_key w) ∷ ended (number_bytes hard_key mark) ∷ x)
          (lines_at k s past (lits_bytes l) next (lits-bytes-no-feed l) (list_at s past l next e)) in
          record {
            words = row_words_of row ++ b.words;
            long = front_long m row b.words b.long;
            held = each_more RowHeld m row b.words (row-held s at w mid mark past l next read said e) b.held;
            alike =
                lines j
                ∙ ap (lines_of_row row) b.alike
                ∙ sym (ap (first_lines (suc (suc (suc j)))) (front-rows m row b.words) ∙ row-of j row (rows_from m 0 b.words));
            none = λ table i h q.
                let whole = row-of (suc j) (row_of table i) (rows_from m (suc i) table) in
                let mine = lines (suc j) in
                let rest : first_lines (suc j) (drop next s) ≡ first_lines (suc j) (rows_from m (suc i) table) = cc in
                b.none table (suc i) (λ r low high. h r (omega arith) (omega arith)) rest;
          }

-- nothing is due where the last row ends
end-broken : (s : List ℕ) (at : ℕ) → at ≤ length s → (at ≡ length s → ⊥) → RestBroken 0 (drop at s) 0
unfolding first_lines first_line rows_from
end-broken s at l h =
    record {
      words = [];
      long = refl;
      held = λ i z. absurd (omega arith);
      alike = refl;
      none = λ table i g q.
          let line : first_line (drop at s) ≡ missing = cc in
          let none_left : length (drop at s) ≡ 0 = ap length (missing-is (drop at s) line) in
          h (omega (arith, sym (length-drop at s) ∙ none_left));
    }

-- what is said of the rows and of what follows them, where that has this number
abbrev pub end_why : List ℕ → ℕ → RowsRead → Judged
end_why s end (rows words next) = refuse (not (eqb next (length s))) (BadText end) (Ok tt)
end_why s end (broken_at line) = Err (BadText line)

end-front : (s : List ℕ) (end : ℕ) (words : List ℕ) (r : RowsRead) → end_why s end (in_front words r) ≡ end_why s end r
end-front s end words (rows more next) = refl
end-front s end words (broken_at line) = refl

-- the line that is faulted is the first that breaks the form
pub record Placed (m : ℕ) (t : List ℕ) (line k : ℕ) : Type 0 where
  pub lines : ℕ
  pub place : k ≡ line + lines
  pub broken : RestBroken m t lines

same_place : (a k : ℕ) → ◌≡◌ {A = Judged} (Err (BadText a)) (Err (BadText k)) → k ≡ a
same_place a k e = cc

pub rest-placed : (m : ℕ) (s : List ℕ) (at line k : ℕ) → at ≤ length s → end_why s (line + row_lines * m) (rows_at m s at line) ≡ Err (BadText k)
    → Placed m (drop at s) line k
unfolding rows_at
rest-placed zero s at line k l e = go (eqb at (length s)) refl e
  where
    go : (b : Bool) → eqb at (length s) ≡ b → refuse (not b) (BadText (line + row_lines * 0)) (Ok tt) ≡ Err (BadText k) → Placed 0 (drop at s) line k
    go true t q = impossible (cc)
    go false t q =
        record { lines = 0; place = same_place (line + row_lines * 0) k q; broken = end-broken s at l (eqb-false at (length s) t) }
rest-placed (suc m) s at line k l e = on-weight (number_line s at weight_key) refl (λ next h q. rest-placed m s next (line + row_lines) k h q)
  where
    Behind : Type 0
    Behind =
        (next : ℕ) → next ≤ length s → end_why s (line + row_lines + row_lines * m) (rows_at m s next (line + row_lines)) ≡ Err (BadText k)
        → Placed m (drop next s) (line + row_lines) k

    at_place : (place : ℕ) → row_at s at line ≡ Err place → k ≡ place
    at_place place broken = same_place place k (sym (ap (end_why s (line + row_lines * suc m)) (rows-broken s m at line place broken)) ∙ e)

    on-lits : (w mid mark past : ℕ) → number_line s at weight_key ≡ Some (w, mid) → mark_line s mid ≡ Some (mark, past)
        → (r : Option (Lits × ℕ)) → lits_line s past ≡ r → Behind → Placed (suc m) (drop at s) line k
    on-lits w mid mark past p o None q ih =
        record {
          lines = 2;
          place = at_place (line + 2) (row-no-lits s at line w mid mark past p o q);
          broken = lits-broken s at m w mid p mark past o q;
        }
    on-lits w mid mark past p o (Some (lits, next)) q ih =
        let row = marked_row lits w mark in
        let end : line + row_lines * suc m ≡ line + row_lines + row_lines * m = omega arith in
        let more = rows_next s m at line row next (row_is s at line w mid mark past p o lits next q) in
        let said : end_why s (line + row_lines + row_lines * m) (rows_at m s next (line + row_lines)) ≡ Err (BadText k) =
        sym (ap₂ (end_why s) end more ∙ end-front s (line + row_lines + row_lines * m) (row_words_of row) (rows_at m s next (line + row_lines))) ∙ e in
        let rest = ih next (list_at s past lits next q).inside said in
        record {
          lines = suc (suc (suc rest.lines));
          place = omega (arith, rest.place);
          broken = row-then s at m w mid p mark past o lits next q rest.lines rest.broken;
        }

    on-mark : (w mid : ℕ) → number_line s at weight_key ≡ Some (w, mid) → (r : Option (ℕ × ℕ)) → mark_line s mid ≡ r → Behind
        → Placed (suc m) (drop at s) line k
    on-mark w mid p None q ih =
        record { lines = 1; place = at_place (line + 1) (row-no-mark s at line w mid p q); broken = mark-broken s at m w mid p q }
    on-mark w mid p (Some (mark, past)) q ih = on-lits w mid mark past p q (lits_line s past) refl ih

    on-weight : (r : Option (ℕ × ℕ)) → number_line s at weight_key ≡ r → Behind → Placed (suc m) (drop at s) line k
    on-weight None p ih =
        record { lines = 0; place = omega (arith, at_place line (row-no-weight s at line p)); broken = weight-broken s at m p }
    on-weight (Some (w, mid)) p ih = on-mark w mid p (mark_line s mid) refl ih
