-- What a definition of the reader comes to in each of its cases, over plain variables: a law for each way that reading can go. The code's
-- returns and the tokens' laws both cite these, and look into no definition themselves.
use Rattle.std.specs.Prelude.{Option, Some, None, Result, Ok, Err}
use Prim.Native.Nat.{ℕ, suc, ◌+◌, ◌-◌, ◌*◌, ◌<◌, ◌≤◌}
use mathlib.Core.Path.{◌≡◌, refl, sym, ap, ◌∙◌}
use mathlib.Core.Logic.{◌⊎◌, ⊎_elim}
use mathlib.Core.Bool.{Bool, true, false, cond, not, ◌&&◌, ◌||◌}
use mathlib.Core.List.{List, [], ◌++◌}
use native.Mathlib.Omega.{arith}
use borrow.Author.Tests.{eq-eqb, ne_eqb, ltb-true, leb-true, le-leb, lt-leb}
use lib.Dec.{eqb, leb, ltb}
use lib.ListN.{length, get_or}
use lib.Seq.{sets}
use Rattle.masks.proofs.Choice.{cases, and_left, and_right, impossible, some-same}
use Rattle.masks.proofs.Words.{sets-append}
use Rattle.literals.specs.declared.Lits.{Lits}
use Rattle.literals.specs.Lits.{no_lits}
use Rattle.literals.specs.Literal.{most_variables}
use Rattle.rules.specs.declared.Row.{Row}
use Rattle.rules.specs.Text.{bytes, line_feed, space, minus, digit_zero, most_digits}
use Rattle.rules.specs.Reader.{first_row_line, row_lines, three_lines}
use Rattle.rules.specs.Reader.{stands, digit_run, value_of, number_at, number_line, literal_of, literal_at, with_literal, on_literal, lits_from, lits_line}
use Rattle.rules.specs.Reader.{on_number, row_by, mark_line, row_at, RowsRead, rows, broken_at, in_front, rows_at, head_at, rest_why, words_of}
use Rattle.rules.specs.Table.{row_words_of, row_words, hard_mark, marked_row}
use Rattle.text_laws.specs.Keys.{vars_key, budget_key, rows_key, weight_key, hard_key, lits_key}
use Rattle.text_laws.specs.Ends.{unbroken}
use Rattle.text_laws.proofs.RowWords.{row_words_lem}

-- ---- a number

-- one digit, or several of which the first is no 0
abbrev pub spelt : ℕ → ℕ → Bool
spelt n b = eqb n 1 || not (eqb b digit_zero)

-- the test that n digits, of which b is the first, are a number
abbrev pub numeral : ℕ → ℕ → Bool
numeral n b = leb 1 n && (leb n most_digits && spelt n b)

pub numeral-some : (n b : ℕ) → numeral n b ≡ true → 1 ≤ n
numeral-some n b t = leb-true 1 n (and_left (leb 1 n) (leb n most_digits && spelt n b) t)

pub numeral-most : (n b : ℕ) → numeral n b ≡ true → n ≤ most_digits
numeral-most n b t = leb-true n most_digits (and_left (leb n most_digits) (spelt n b) (and_right (leb 1 n) (leb n most_digits && spelt n b) t))

pub number_is : (s : List ℕ) (at n b : ℕ) → n ≡ digit_run s at (suc most_digits) → b ≡ get_or s at 0 → numeral n b ≡ true
    → number_at s at ≡ Some (value_of s at n, at + n)
unfolding number_at
number_is s at n b p q t = rw (← p, ← q, t)

pub number-broken : (s : List ℕ) (at n b : ℕ) → n ≡ digit_run s at (suc most_digits) → b ≡ get_or s at 0 → numeral n b ≡ false → number_at s at ≡ None
unfolding number_at
number-broken s at n b p q t = rw (← p, ← q, t)

-- ---- a line of a key and a number

module _ (s : List ℕ) (at : ℕ) (key : List ℕ) where
  pub line-no-key : stands s at key ≡ false → number_line s at key ≡ None
  unfolding number_line
  line-no-key e = rw e

  pub line-no-number : stands s at key ≡ true → number_at s (at + length key) ≡ None → number_line s at key ≡ None
  unfolding number_line
  line-no-number e h = rw (e, h)

  pub line-is : (v next : ℕ) → stands s at key ≡ true → number_at s (at + length key) ≡ Some (v, next) → get_or s next 0 ≡ line_feed
      → number_line s at key ≡ Some (v, next + 1)
  unfolding number_line
  line-is v next e h f = rw (e, h, eq-eqb (get_or s next 0) line_feed f)

  pub line-unended : (v next : ℕ) → stands s at key ≡ true → number_at s (at + length key) ≡ Some (v, next) → (get_or s next 0 ≡ line_feed → ⊥)
      → number_line s at key ≡ None
  unfolding number_line
  line-unended v next e h f = rw (e, h, ne_eqb (get_or s next 0) line_feed f)

-- ---- a literal

module _ (s : List ℕ) (at last : ℕ) where
  pub with-minus : get_or s at 0 ≡ minus → literal_at s at last ≡ literal_of false last (number_at s (at + 1))
  unfolding literal_at
  with-minus e = rw (eq-eqb (get_or s at 0) minus e)

  pub without-minus : (get_or s at 0 ≡ minus → ⊥) → literal_at s at last ≡ literal_of true last (number_at s at)
  unfolding literal_at
  without-minus e = rw (ne_eqb (get_or s at 0) minus e)

-- by the number that was read
pub literal-broken : (p : Bool) (last : ℕ) (n : Option (ℕ × ℕ)) → n ≡ None → literal_of p last n ≡ None
literal-broken p last n e = rw e

module _ (p : Bool) (last v next : ℕ) (n : Option (ℕ × ℕ)) (e : n ≡ Some (v, next)) where
  pub literal-in : (ltb last v && leb v most_variables) ≡ true → literal_of p last n ≡ Some (p, v, next)
  literal-in t = rw (e, t)

  pub literal-out : (ltb last v && leb v most_variables) ≡ false → literal_of p last n ≡ None
  literal-out t = rw (e, t)

-- what a literal that is read is: a number, above the last
pub record LiteralFound (s : List ℕ) (at last : ℕ) (positive : Bool) (v next : ℕ) : Type 0 where
  pub above : last < v
  pub most : v ≤ most_variables
  pub number : number_at s (cond positive at (at + 1)) ≡ Some (v, next)
  pub sign : cond positive (eqb (get_or s at 0) minus ≡ false) (get_or s at 0 ≡ minus)

literal-by : (s : List ℕ) (at last : ℕ) (p : Bool) (positive : Bool) (v next : ℕ) (n : Option (ℕ × ℕ)) → literal_of p last n ≡ Some (positive, v, next)
    → (last < v) × (v ≤ most_variables) × (n ≡ Some (v, next)) × (p ≡ positive)
literal-by s at last p positive v next None e = impossible (cc)
literal-by s at last p positive v next (Some (w, m)) e = ⊎_elim (λ t. good t) (λ f. absurd (bad f)) (cases (ltb last w && leb w most_variables))
  where
    good : (ltb last w && leb w most_variables) ≡ true
        → (last < v) × (v ≤ most_variables) × (◌≡◌ {A = Option (ℕ × ℕ)} (Some (w, m)) (Some (v, next))) × (p ≡ positive)
    good t =
        let q : ◌≡◌ {A = Option (Bool × ℕ × ℕ)} (Some (p, w, m)) (Some (positive, v, next)) = rw t at e in
        let same : ◌≡◌ {A = Bool × ℕ × ℕ} (p, w, m) (positive, v, next) = some-same q in
        let wv : w ≡ v = ap (λ (x : Bool × ℕ × ℕ). x.1) same in
        let above = ltb-true last w (and_left (ltb last w) (leb w most_variables) t) in
        let most = leb-true w most_variables (and_right (ltb last w) (leb w most_variables) t) in
        (rw (← wv) above, rw (← wv) most, ap (λ (x : Bool × ℕ × ℕ). Some (x.1, x.2)) same, ap (λ (x : Bool × ℕ × ℕ). x.0) same)

    bad : (ltb last w && leb w most_variables) ≡ false → ⊥
    bad t =
        let q : ◌≡◌ {A = Option (Bool × ℕ × ℕ)} None (Some (positive, v, next)) = rw t at e in
        impossible (cc)

pub literal-found : (s : List ℕ) (at last : ℕ) (positive : Bool) (v next : ℕ) → literal_at s at last ≡ Some (positive, v, next)
    → LiteralFound s at last positive v next
unfolding literal_at
literal-found s at last positive v next e = ⊎_elim (λ t. signed t) (λ f. plain f) (cases (eqb (get_or s at 0) minus))
  where
    signed : eqb (get_or s at 0) minus ≡ true → LiteralFound s at last positive v next
    signed t =
        let w = literal-by s at last false positive v next (number_at s (at + 1)) (rw t at e) in
        rw (← w.3) record { above = w.0; most = w.1; number = w.2; sign = borrow.Author.Tests.eqb-true (get_or s at 0) minus t }

    plain : eqb (get_or s at 0) minus ≡ false → LiteralFound s at last positive v next
    plain f =
        let w = literal-by s at last true positive v next (number_at s at) (rw f at e) in
        rw (← w.3) record { above = w.0; most = w.1; number = w.2; sign = f }

-- ---- the literals of a line

-- where the next literal stands: at the place itself for the first, else behind a space
abbrev pub Parted : List ℕ → ℕ → ℕ → ℕ → Type 0
Parted s at last from = ((last ≡ 0) × (from ≡ at)) ⊎ ((last ≡ 0 → ⊥) × (get_or s at 0 ≡ space) × (from ≡ at + 1))

module _ (k : ℕ) (s : List ℕ) (at last : ℕ) (l : Lits) where
  pub lits-none : lits_from 0 s at last l ≡ None
  unfolding lits_from
  lits-none = refl

  pub lits-end : get_or s at 0 ≡ line_feed → lits_from (suc k) s at last l ≡ Some (l, at + 1)
  unfolding lits_from
  lits-end e = rw (eq-eqb (get_or s at 0) line_feed e)

  pub lits-unparted : (get_or s at 0 ≡ line_feed → ⊥) → (last ≡ 0 → ⊥) → (get_or s at 0 ≡ space → ⊥) → lits_from (suc k) s at last l ≡ None
  unfolding lits_from
  lits-unparted e f g = rw (ne_eqb (get_or s at 0) line_feed e, ne_eqb last 0 f, ne_eqb (get_or s at 0) space g)

  pub lits-more : (from : ℕ) → (get_or s at 0 ≡ line_feed → ⊥) → Parted s at last from
      → lits_from (suc k) s at last l ≡ on_literal (literal_at s from last) (λ positive v next. lits_from k s next v (with_literal l positive v))
  unfolding lits_from
  lits-more from e p =
      ⊎_elim
      (λ w. rw (ne_eqb (get_or s at 0) line_feed e, eq-eqb last 0 w.0, w.1))
      (λ w. rw (ne_eqb (get_or s at 0) line_feed e, ne_eqb last 0 w.0, eq-eqb (get_or s at 0) space w.1, w.2))
      p

  pub lits-broken : (from : ℕ) → (get_or s at 0 ≡ line_feed → ⊥) → Parted s at last from → literal_at s from last ≡ None
      → lits_from (suc k) s at last l ≡ None
  lits-broken from e p h = lits-more from e p ∙ rw h

  pub lits-next : (from : ℕ) (positive : Bool) (v next : ℕ) → (get_or s at 0 ≡ line_feed → ⊥) → Parted s at last from
      → literal_at s from last ≡ Some (positive, v, next)
      → lits_from (suc k) s at last l ≡ lits_from k s next v (with_literal l positive v)
  lits-next from positive v next e p h = lits-more from e p ∙ rw h

pub line-of-lits : (s : List ℕ) (at : ℕ) → stands s at lits_key ≡ true → lits_line s at ≡ lits_from (suc most_variables) s (at + length lits_key) 0 no_lits
unfolding lits_line bytes
line-of-lits s at e = rw e

pub line-no-lits : (s : List ℕ) (at : ℕ) → stands s at lits_key ≡ false → lits_line s at ≡ None
unfolding lits_line bytes
line-no-lits s at e = rw e

-- ---- a line of a mark

module _ (s : List ℕ) (at : ℕ) where
  pub mark-no-line : number_line s at hard_key ≡ None → mark_line s at ≡ None
  unfolding mark_line bytes
  mark-no-line e = rw e

  pub mark-over : (m next : ℕ) → number_line s at hard_key ≡ Some (m, next) → hard_mark < m → mark_line s at ≡ None
  unfolding mark_line bytes
  mark-over m next e h = rw (e, lt-leb m hard_mark h)

  pub mark-is : (m next : ℕ) → number_line s at hard_key ≡ Some (m, next) → m ≤ hard_mark → mark_line s at ≡ Some (m, next)
  unfolding mark_line bytes
  mark-is m next e h = rw (e, le-leb m hard_mark h)

-- ---- a row

module _ (s : List ℕ) (at line : ℕ) where
  pub row-no-weight : number_line s at weight_key ≡ None → row_at s at line ≡ Err line
  unfolding row_at bytes
  row-no-weight e = rw e

  pub row-no-mark : (w next : ℕ) → number_line s at weight_key ≡ Some (w, next) → mark_line s next ≡ None
      → row_at s at line ≡ Err (line + 1)
  unfolding row_at bytes
  row-no-mark w next e h = rw (e, h)

  module _ (w next m past : ℕ) (e : number_line s at weight_key ≡ Some (w, next)) (f : mark_line s next ≡ Some (m, past)) where
    pub row-no-lits : lits_line s past ≡ None → row_at s at line ≡ Err (line + 2)
    unfolding row_at bytes
    row-no-lits h = rw (e, f, h)

    pub row_is : (l : Lits) (end : ℕ) → lits_line s past ≡ Some (l, end) → row_at s at line ≡ Ok (marked_row l w m, end)
    unfolding row_at bytes
    row_is l end h = rw (e, f, h)

-- the lines of a row that is read have no part in what is read
same-lits : (a b w m : ℕ) (row : Row) (next : ℕ) (l : Option (Lits × ℕ)) → row_by w m a l ≡ Ok (row, next) → row_by w m b l ≡ Ok (row, next)
same-lits a b w m row next (Some (l, end)) e = e
same-lits a b w m row next None e = impossible (cc)

same-mark : (s : List ℕ) (a b w : ℕ) (row : Row) (next : ℕ) (n : Option (ℕ × ℕ))
    → on_number n (Err (a + 1)) (λ m past. row_by w m (a + 2) (lits_line s past)) ≡ Ok (row, next)
    → on_number n (Err (b + 1)) (λ m past. row_by w m (b + 2) (lits_line s past)) ≡ Ok (row, next)
same-mark s a b w row next (Some (m, past)) e = same-lits (a + 2) (b + 2) w m row next (lits_line s past) e
same-mark s a b w row next None e = impossible (cc)

abbrev marked_from : List ℕ → ℕ → ℕ → ℕ → Result (Row × ℕ) ℕ
marked_from s a w past = on_number (mark_line s past) (Err (a + 1)) (λ m past. row_by w m (a + 2) (lits_line s past))

same_number : (s : List ℕ) (a b : ℕ) (row : Row) (next : ℕ) (n : Option (ℕ × ℕ))
    → on_number n (Err a) (marked_from s a) ≡ Ok (row, next)
    → on_number n (Err b) (marked_from s b) ≡ Ok (row, next)
same_number s a b row next (Some (w, past)) e = same-mark s a b w row next (mark_line s past) e
same_number s a b row next None e = impossible (cc)

pub row_line : (s : List ℕ) (at a b : ℕ) (row : Row) (next : ℕ) → row_at s at a ≡ Ok (row, next) → row_at s at b ≡ Ok (row, next)
unfolding row_at
row_line s at a b row next e = same_number s a b row next (number_line s at (bytes "weight=")) e

-- ---- the rows

unbroken-front : (words : List ℕ) (r : RowsRead) → unbroken (in_front words r) ≡ unbroken r
unbroken-front words (rows more next) = refl
unbroken-front words (broken_at line) = refl

words-front : (words : List ℕ) (r : RowsRead) → unbroken r ≡ true → words_of (in_front words r) ≡ words ++ words_of r
words-front words (rows more next) e = refl
words-front words (broken_at line) e = impossible (cc)

pub rows_none : (s : List ℕ) (at line : ℕ) → rows_at 0 s at line ≡ rows [] at
unfolding rows_at
rows_none s at line = refl

module _ (s : List ℕ) (k at line : ℕ) where
  pub rows-broken : (broken : ℕ) → row_at s at line ≡ Err broken → rows_at (suc k) s at line ≡ broken_at broken
  unfolding rows_at
  rows-broken broken e = rw e

  pub rows_next : (row : Row) (next : ℕ) → row_at s at line ≡ Ok (row, next)
      → rows_at (suc k) s at line ≡ in_front (row_words_of row) (rows_at k s next (line + row_lines))
  unfolding rows_at
  rows_next row next e = rw e

  pub unbroken-next : (row : Row) (next : ℕ) → row_at s at line ≡ Ok (row, next)
      → unbroken (rows_at (suc k) s at line) ≡ unbroken (rows_at k s next (line + row_lines))
  unbroken-next row next e = ap unbroken (rows_next row next e) ∙ unbroken-front (row_words_of row) (rows_at k s next (line + row_lines))

  pub words-next : (row : Row) (next : ℕ) → row_at s at line ≡ Ok (row, next) → unbroken (rows_at (suc k) s at line) ≡ true
      → words_of (rows_at (suc k) s at line) ≡ row_words_of row ++ words_of (rows_at k s next (line + row_lines))
  words-next row next e h =
      ap words_of (rows_next row next e)
      ∙ words-front (row_words_of row) (rows_at k s next (line + row_lines)) (sym (unbroken-next row next e) ∙ h)

  -- a row of unbroken rows is read, whatever line it is said to be on
  pub unbroken-row : (other broken : ℕ) → unbroken (rows_at (suc k) s at line) ≡ true → row_at s at other ≡ Err broken → ⊥
  unbroken-row other broken e h = go (row_at s at line) refl
    where
      go : (r : Result (Row × ℕ) ℕ) → row_at s at line ≡ r → ⊥
      go (Ok (row, next)) p = let q = row_line s at line other row next p in impossible (cc)
      go (Err b) p = let q = ap unbroken (rows-broken b p) in impossible (cc)

-- ---- the rows, and what follows them

pub rest-unbroken : (s : List ℕ) (m : ℕ) (r : RowsRead) → rest_why s m r ≡ Ok tt → unbroken r ≡ true
rest-unbroken s m (rows words next) e = refl
rest-unbroken s m (broken_at line) e = impossible (cc)

-- ---- the first three lines

module _ (s : List ℕ) where
  pub head-no-vars : number_line s 0 vars_key ≡ None → head_at s ≡ Err 1
  unfolding head_at bytes
  head-no-vars e = rw e

  pub head-no-budget : (n a : ℕ) → number_line s 0 vars_key ≡ Some (n, a) → number_line s a budget_key ≡ None → head_at s ≡ Err 2
  unfolding head_at bytes
  head-no-budget n a e f = rw (e, f)

  pub head-no-rows : (n a b c : ℕ) → number_line s 0 vars_key ≡ Some (n, a) → number_line s a budget_key ≡ Some (b, c)
      → number_line s c rows_key ≡ None → head_at s ≡ Err 3
  unfolding head_at bytes
  head-no-rows n a b c e f g = rw (e, f, g)

  pub head-is : (n a b c m next : ℕ) → number_line s 0 vars_key ≡ Some (n, a) → number_line s a budget_key ≡ Some (b, c)
      → number_line s c rows_key ≡ Some (m, next) → head_at s ≡ Ok (three_lines n b m next)
  unfolding head_at bytes
  head-is n a b c m next e f g = rw (e, f, g)

-- ---- storing unbroken rows: the words that are left, behind those of one more row

-- the rows from row i on, of m
abbrev pub rows_left : List ℕ → ℕ → ℕ → ℕ → RowsRead
rows_left s m i at = rows_at (m - i) s at (first_row_line + row_lines * i)

pub left_one : (s : List ℕ) (m i at : ℕ) → i < m → rows_left s m i at ≡ rows_at (suc (m - (i + 1))) s at (first_row_line + row_lines * i)
left_one s m i at h = let left : m - i ≡ suc (m - (i + 1)) = omega arith in rw left

pub left-next : (s : List ℕ) (m i at : ℕ) → rows_at (m - (i + 1)) s at (first_row_line + row_lines * i + row_lines) ≡ rows_left s m (i + 1) at
left-next s m i at = let line : first_row_line + row_lines * i + row_lines ≡ first_row_line + row_lines * (i + 1) = omega arith in rw line

pub left-none : (s : List ℕ) (m i at : ℕ) → m ≤ i → rows_left s m i at ≡ rows [] at
left-none s m i at h = let none : m - i ≡ 0 = omega arith in rw none (rows_none s at (first_row_line + row_lines * i))

module _ (s : List ℕ) (m i at : ℕ) (row : Row) (next : ℕ) (h : i < m) (e : row_at s at (first_row_line + row_lines * i) ≡ Ok (row, next)) where
  pub left-front : rows_left s m i at ≡ in_front (row_words_of row) (rows_left s m (i + 1) next)
  left-front =
      left_one s m i at h
      ∙ rows_next s (m - (i + 1)) at (first_row_line + row_lines * i) row next e
      ∙ ap (in_front (row_words_of row)) (left-next s m i next)

  pub left-unbroken : unbroken (rows_left s m i at) ≡ true → unbroken (rows_left s m (i + 1) next) ≡ true
  left-unbroken u = sym (unbroken-front (row_words_of row) (rows_left s m (i + 1) next)) ∙ ap unbroken (sym left-front) ∙ u

  pub left-stored : (table : List ℕ) → unbroken (rows_left s m i at) ≡ true
      → sets (sets table (row_words * i) (row_words_of row)) (row_words * (i + 1)) (words_of (rows_left s m (i + 1) next))
      ≡ sets table (row_words * i) (words_of (rows_left s m i at))
  left-stored table u =
      let rest = rows_left s m (i + 1) next in
      let all : words_of (rows_left s m i at) ≡ row_words_of row ++ words_of rest =
      ap words_of left-front ∙ words-front (row_words_of row) rest (left-unbroken u) in
      let behind : row_words * (i + 1) ≡ row_words * i + length (row_words_of row) = rw (row_words_lem row) (omega arith) in
      rw (all, behind) (sets-append table (row_words * i) (row_words_of row) (words_of rest))

pub stored-end : (s : List ℕ) (m i at : ℕ) (table : List ℕ) → m ≤ i → sets table (row_words * i) (words_of (rows_left s m i at)) ≡ table
stored-end s m i at table h = rw (left-none s m i at h)
