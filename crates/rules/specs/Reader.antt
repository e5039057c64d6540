-- Document 01, "The text": what is read. A place is an index into the bytes; past their end a byte reads as 0, which the form never holds.
use Rattle.std.specs.Prelude.{Option, Some, None, Result, Ok, Err}
use Rattle.std.specs.Prelude.{ℕ, zero, suc, ◌+◌, ◌-◌, ◌*◌, List, [], ◌∷◌, ◌++◌, Bool, true, false, cond, not, ◌&&◌, ◌||◌, length, get_or, drop, eqb, leb, ltb}
use Rattle.std.specs.Int.Bits.{bit_or}
use Rattle.masks.specs.Masks.{single}
use Rattle.literals.specs.declared.Lits.{Lits}
use Rattle.literals.specs.Literal.{most_variables}
use Rattle.literals.specs.Lits.{no_lits}
use Rattle.rules.specs.declared.Row.{Row}
use Rattle.rules.specs.declared.HeadRead.{HeadRead}
use Rattle.rules.specs.declared.TextRead.{TextRead}
use Rattle.rules.specs.declared.Refusal.TheVariants.{BadText}
use Rattle.rules.specs.Refusals.{Judged, ◌when◌, as_in, first_due, unless_refused}
use Rattle.rules.specs.Table.{hard_mark, marked_row, row_words_of}
use Rattle.rules.specs.Text.{bytes, line_feed, space, minus, digit_zero, most_digits, figures_order}
use Rattle.rules.specs.declared.Refusal.{Refusal}

-- the line on which the rows begin, counted from 1, and the lines of a row
abbrev pub first_row_line : ℕ
first_row_line = 4

abbrev pub row_lines : ℕ
row_lines = 3

-- these bytes stand at the place
unfoldable pub stands : List ℕ → ℕ → List ℕ → Bool
stands s at [] = true
stands s at (b ∷ bs) = eqb (get_or s at 0) b && stands s (suc at) bs

unfoldable pub is_digit : ℕ → Bool
is_digit b = leb digit_zero b && ltb b (digit_zero + 10)

-- how many digits stand from the place on, counted up to k
unfoldable pub digit_run : List ℕ → ℕ → ℕ → ℕ
digit_run s at zero = 0
digit_run s at (suc k) = cond (is_digit (get_or s at 0)) (suc (digit_run s (suc at) k)) 0

-- the number that n digits from the place on make
unfoldable pub value_of : List ℕ → ℕ → ℕ → ℕ
value_of s at zero = 0
value_of s at (suc n) = value_of s at n * 10 + (get_or s (at + n) 0 - digit_zero)

-- "decimal, 1 to 10 digits, with no sign and no leading zero (0 is "0")"
unfoldable pub number_at : List ℕ → ℕ → Option (ℕ × ℕ)
number_at s at =
    let n = digit_run s at (suc most_digits) in
    cond (leb 1 n && (leb n most_digits && (eqb n 1 || not (eqb (get_or s at 0) digit_zero))))
    (Some (value_of s at n, at + n))
    None

-- a number whose line ends behind it
abbrev pub ended : List ℕ → Option (ℕ × ℕ) → Option (ℕ × ℕ)
ended s (Some (value, next)) = cond (eqb (get_or s next 0) line_feed) (Some (value, next + 1)) None
ended s None = None

-- a line of a key and a number
unfoldable pub number_line : List ℕ → ℕ → List ℕ → Option (ℕ × ℕ)
number_line s at key = cond (stands s at key) (ended s (number_at s (at + length key))) None

-- "variables strictly rising from 1 to 64, minus before a negative one": a literal on a variable above the last
abbrev pub literal_of : Bool → ℕ → Option (ℕ × ℕ) → Option (Bool × ℕ × ℕ)
literal_of positive last (Some (v, next)) = cond (ltb last v && leb v most_variables) (Some (positive, v, next)) None
literal_of positive last None = None

unfoldable pub literal_at : List ℕ → ℕ → ℕ → Option (Bool × ℕ × ℕ)
literal_at s at last = cond (eqb (get_or s at 0) minus) (literal_of false last (number_at s (at + 1))) (literal_of true last (number_at s at))

unfoldable pub with_literal : Lits → Bool → ℕ → Lits
with_literal l positive v =
    record {
      positive = cond positive (bit_or l.positive (single (v - 1))) l.positive;
      negative = cond positive l.negative (bit_or l.negative (single (v - 1)));
    }

abbrev pub on_literal : Option (Bool × ℕ × ℕ) → (Bool → ℕ → ℕ → Option (Lits × ℕ)) → Option (Lits × ℕ)
on_literal (Some (positive, v, next)) go = go positive v next
on_literal None go = None

-- The literals from a place to the line's end, behind those with variables up to the last. All but the first have a space in front.
-- The first argument is one more than the literals there can be.
unfoldable pub lits_from : ℕ → List ℕ → ℕ → ℕ → Lits → Option (Lits × ℕ)
lits_from zero s at last l = None
lits_from (suc k) s at last l =
    let from = cond (eqb last 0) at (at + 1) in
    let more = on_literal (literal_at s from last) (λ positive v next. lits_from k s next v (with_literal l positive v)) in
    cond (eqb (get_or s at 0) line_feed) (Some (l, at + 1))
    (cond (eqb last 0 || eqb (get_or s at 0) space) more None)

-- a line of literals; "`lits=` alone is the empty row"
unfoldable pub lits_line : List ℕ → ℕ → Option (Lits × ℕ)
lits_line s at =
    cond (stands s at (bytes "lits=")) (lits_from (suc most_variables) s (at + length (bytes "lits=")) 0 no_lits) None

abbrev pub on_number : {A : Type 0} → Option (ℕ × ℕ) → A → (ℕ → ℕ → A) → A
on_number (Some (value, next)) broken go = go value next
on_number None broken go = broken

abbrev pub row_by : ℕ → ℕ → ℕ → Option (Lits × ℕ) → Result (Row × ℕ) ℕ
row_by w m line (Some (l, next)) = Ok (marked_row l w m, next)
row_by w m line None = Err line

-- "`hard=`, 0 or 1 (else 20)"
unfoldable pub mark_line : List ℕ → ℕ → Option (ℕ × ℕ)
mark_line s at = on_number (number_line s at (bytes "hard=")) None (λ m next. cond (leb m hard_mark) (Some (m, next)) None)

-- a row's three lines, of which the first has this number
unfoldable pub row_at : List ℕ → ℕ → ℕ → Result (Row × ℕ) ℕ
row_at s at line =
    on_number (number_line s at (bytes "weight=")) (Err line) (λ w next.
    on_number (mark_line s next) (Err (line + 1)) (λ m next. row_by w m (line + 2) (lits_line s next)))

-- What the rows of a text come to: their words and the place behind them, or the first line that breaks the form.
pub data RowsRead : Type 0 where
  rows : List ℕ → ℕ → RowsRead
  broken_at : ℕ → RowsRead

abbrev pub on_row : Result (Row × ℕ) ℕ → (Row → ℕ → RowsRead) → RowsRead
on_row (Ok (row, next)) go = go row next
on_row (Err line) go = broken_at line

abbrev pub in_front : List ℕ → RowsRead → RowsRead
in_front words (rows more next) = rows (words ++ more) next
in_front words (broken_at line) = broken_at line

unfoldable pub rows_at : ℕ → List ℕ → ℕ → ℕ → RowsRead
rows_at zero s at line = rows [] at
rows_at (suc m) s at line = on_row (row_at s at line) (λ row next. in_front (row_words_of row) (rows_at m s next (line + row_lines)))

-- what the first three lines say, with the place behind them
abbrev pub three_lines : ℕ → ℕ → ℕ → ℕ → HeadRead
three_lines variables budget m next = record { variables = variables; budget = budget; rows = m; next = next }

-- the first three lines
unfoldable pub head_at : List ℕ → Result HeadRead ℕ
head_at s =
    on_number (number_line s 0 (bytes "vars=")) (Err 1) (λ variables next.
    on_number (number_line s next (bytes "budget=")) (Err 2) (λ budget next.
    on_number (number_line s next (bytes "rows=")) (Err 3) (λ m next. Ok (three_lines variables budget m next))))

-- "the rest": the rows from their first line on; "Nothing follows the last row."
abbrev pub rest_why : List ℕ → ℕ → RowsRead → Judged
rest_why s m (rows words next) = first_due (BadText (first_row_line + row_lines * m) when not (eqb next (length s)) ∷ [])
rest_why s m (broken_at line) = Err (BadText line)

-- Reader: first three lines (20), 1, 9, 2, 4, the rest (20). Its first argument is the most rows that it takes: a program takes fewer than may be
-- loaded.
abbrev pub head_why : ℕ → List ℕ → ℕ → Result HeadRead ℕ → Judged
head_why most s room (Ok head) =
    first_due (figures_order most room head.variables head.budget head.rows ++ (as_in (rest_why s head.rows (rows_at head.rows s head.next first_row_line)) ∷ []))
head_why most s room (Err line) = Err (BadText line)

unfoldable pub read_why : ℕ → List ℕ → ℕ → Judged
read_why most s room = head_why most s room (head_at s)

-- the rows as they stand
abbrev pub words_of : RowsRead → List ℕ
words_of (rows words next) = words
words_of (broken_at line) = []

abbrev pub words_behind : List ℕ → Result HeadRead ℕ → List ℕ
words_behind s (Ok head) = words_of (rows_at head.rows s head.next first_row_line)
words_behind s (Err line) = []

unfoldable pub read_words : List ℕ → List ℕ
read_words s = words_behind s (head_at s)

unfoldable pub read_step : List ℕ → List ℕ → List ℕ
read_step s table =
    let words = read_words s in
    words ++ drop (length words) table

abbrev pub text_says : ℕ → ℕ → ℕ → TextRead
text_says variables budget m = record { variables = variables; budget = budget; rows = m }

abbrev pub text_read_as : Judged → Result HeadRead ℕ → Result TextRead Refusal
text_read_as (Ok _) (Ok head) = Ok (text_says head.variables head.budget head.rows)
text_read_as (Ok _) (Err line) = Err (BadText line)
text_read_as (Err r) head = Err r

-- variables, budget and rows, or the refusal
unfoldable pub text_read : ℕ → List ℕ → ℕ → Result TextRead Refusal
text_read most s room = text_read_as (read_why most s room) (head_at s)

-- the lent words afterwards
unfoldable pub read_table : ℕ → List ℕ → List ℕ → List ℕ
read_table most s table = unless_refused (read_why most s (length table)) (read_step s table) table
