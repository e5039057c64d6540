-- Document 01, "The text": what is written.
use Rattle.std.specs.Prelude.{ℕ, zero, suc, ◌+◌, ◌*◌, ◌/◌, ◌%◌, List, [], ◌∷◌, ◌++◌, cond, length, drop, ltb, Result, Ok, Err}
use Prim.Native.Char.{code}
use Prim.Native.String.{String}
use Prim.Native.String as S
use Rattle.masks.specs.Masks.{has}
use Rattle.literals.specs.declared.Lits.{Lits}
use Rattle.literals.specs.Literal.{most_variables}
use Rattle.rules.specs.declared.Row.{Row}
use Rattle.rules.specs.declared.Refusal.TheVariants.{TooManyVariables, BadTable, NoRoom, BadBudget}
use Rattle.rules.specs.Refusals.{Judged, Rule, ◌when◌, as_in, first_due, unless_refused}
use Rattle.rules.specs.Table.{row_words, row_count, row_of, table_why}
use Rattle.rules.specs.Walk.{most_budget}
use Rattle.rules.specs.declared.Refusal.{Refusal}

-- a text as its bytes
unfoldable pub bytes : String → List ℕ
bytes S.[] = []
bytes (S.◌∷◌ c s) = code c ∷ bytes s

abbrev pub line_feed : ℕ
line_feed = 10

abbrev pub space : ℕ
space = 32

abbrev pub minus : ℕ
minus = 45

abbrev pub digit_zero : ℕ
digit_zero = 48

-- "numbers are decimal, 1 to 10 digits"
abbrev pub most_digits : ℕ
most_digits = 10

-- the digits of n, at most k
unfoldable pub digits : ℕ → ℕ → List ℕ
digits zero n = []
digits (suc k) n =
    let front = digits k (n / 10) in
    cond (ltb n 10) ((digit_zero + n) ∷ []) (front ++ ((digit_zero + n % 10) ∷ []))

unfoldable pub number_text : ℕ → List ℕ
number_text n = digits most_digits n

-- "Every line ends in LF"
unfoldable pub line : String → List ℕ → List ℕ
line key value = bytes key ++ (value ++ (line_feed ∷ []))

-- "Literals are parted by one space"
unfoldable pub behind : List ℕ → List ℕ → List ℕ
behind [] literal = literal
behind (b ∷ before) literal = (b ∷ before) ++ (space ∷ literal)

-- "variables strictly rising", "minus before a negative one": the literals on the first n variables
unfoldable pub lits_text : ℕ → Lits → List ℕ
lits_text zero l = []
lits_text (suc v) l =
    let before = lits_text v l in
    cond (has l.positive v) (behind before (number_text (suc v)))
    (cond (has l.negative v) (behind before (minus ∷ number_text (suc v))) before)

unfoldable pub row_text : Row → List ℕ
row_text row =
    line "weight=" (number_text row.weight) ++ (line "hard=" (number_text row.mark) ++ line "lits=" (lits_text most_variables row.lits))

unfoldable pub rows_text : List ℕ → ℕ → List ℕ
rows_text table zero = []
rows_text table (suc k) = rows_text table k ++ row_text (row_of table k)

-- "Order: vars=, budget=, rows=, then per row weight=[, hard=] and lits=."
unfoldable pub table_text : ℕ → ℕ → List ℕ → List ℕ
table_text variables budget table =
    line "vars=" (number_text variables)
    ++ (line "budget=" (number_text budget)
    ++ (line "rows=" (number_text (row_count table))
    ++ rows_text table (row_count table)))

-- ---- a text put into lent bytes: by either writer, and as an answer

-- what is judged before, then 4: the lent output is too short
unfoldable pub text_why : Judged → List ℕ → List ℕ → Judged
text_why before text out = first_due (as_in before ∷ NoRoom when ltb (length out) (length text) ∷ [])

abbrev pub written_as : Judged → ℕ → Result ℕ Refusal
written_as (Ok _) n = Ok n
written_as (Err r) n = Err r

-- how many bytes it has, or why none was written
unfoldable pub text_written : Judged → List ℕ → List ℕ → Result ℕ Refusal
text_written before text out = written_as (text_why before text out) (length text)

-- the lent bytes afterwards: "An accepted call writes nothing past its output's end."
unfoldable pub text_out : Judged → List ℕ → List ℕ → List ℕ
text_out before text out = unless_refused (text_why before text out) (text ++ drop (length text) out) out

-- Writer: 1, 2, rows, 7, 4.
abbrev pub write_why : ℕ → ℕ → List ℕ → List ℕ → Judged
write_why variables budget table out = text_why (table_why variables table) (table_text variables budget table) out

abbrev pub written : ℕ → ℕ → List ℕ → List ℕ → Result ℕ Refusal
written variables budget table out = text_written (table_why variables table) (table_text variables budget table) out

abbrev pub write_out : ℕ → ℕ → List ℕ → List ℕ → List ℕ
write_out variables budget table out = text_out (table_why variables table) (table_text variables budget table) out

-- Reader: first three lines (20), 1, 9, 2, 4, the rest (20). What the first three lines say is judged by 1, 9, 2, 4; the first argument is the
-- most rows that this reader takes.
abbrev pub figures_order : ℕ → ℕ → ℕ → ℕ → ℕ → List Rule
figures_order most room variables budget m =
    TooManyVariables when ltb most_variables variables ∷ BadBudget when ltb most_budget budget ∷ BadTable when ltb most m
    ∷ NoRoom when ltb room (row_words * m) ∷ []
