-- Document 02, C-11, by the lines of a text: "`c` comment lines first, `p wcnf variables clauses top`, then a line for each clause with weight, literals
-- and a closing 0; numbers as in document 01, parted by one or more spaces". The form is the set of the texts that are made so; a line breaks it where no
-- such text has the same lines up to it. Nothing here knows the reader: that it finds this line is a law of this crate.
use Rattle.std.specs.Prelude.{ℕ, zero, suc, ◌^◌, ◌<◌, ◌≡◌, List, [], ◌∷◌, ◌++◌, ℤ, pos, negsuc, length}
use Rattle.literals.specs.Literal.{size}
use Rattle.rules.specs.Text.{bytes, line_feed, space, minus, digit_zero, most_digits, number_text}
use Rattle.text_laws.specs.Lines.{first_lines, NoFeed}

-- ---- lines

-- "one or more spaces": one, and so many more
unfoldable pub gap : ℕ → List ℕ
gap zero = space ∷ []
gap (suc k) = space ∷ gap k

-- minus before a negative number
abbrev pub signed_text : ℤ → List ℕ
signed_text (pos v) = number_text v
signed_text (negsuc v) = minus ∷ number_text (suc v)

-- the literals of a line, each with the gap before it, and the closing 0 with its gap
unfoldable pub literals_bytes : List (ℕ × ℤ) → ℕ → List ℕ
literals_bytes [] last = gap last ++ (digit_zero ∷ [])
literals_bytes (l ∷ ls) last = gap l.0 ++ (signed_text l.1 ++ literals_bytes ls last)

pub record ClauseLine : Type 0 where
  pub weight : ℕ
  pub literals : List (ℕ × ℤ)
  pub last : ℕ

unfoldable pub clause_bytes : ClauseLine → List ℕ
clause_bytes c = number_text c.weight ++ literals_bytes c.literals c.last

-- the figures of the header, and the gaps before its name and before each of them
pub record HeaderLine : Type 0 where
  pub variables : ℕ
  pub clauses : ℕ
  pub top : ℕ
  pub name-gap : ℕ
  pub variables-gap : ℕ
  pub clauses-gap : ℕ
  pub top-gap : ℕ

unfoldable pub header_bytes : HeaderLine → List ℕ
header_bytes h =
    bytes "p" ++ (gap h.name-gap ++ (bytes "wcnf" ++ (gap h.variables-gap ++ (number_text h.variables
    ++ (gap h.clauses-gap ++ (number_text h.clauses ++ (gap h.top-gap ++ number_text h.top)))))))

-- any bytes behind a c
unfoldable pub comment_bytes : List ℕ → List ℕ
comment_bytes c = bytes "c" ++ c

-- ---- the form

pub record Form : Type 0 where
  pub comments : List (List ℕ)
  pub header : HeaderLine
  pub lines : List ClauseLine

unfoldable pub lines_text : List ClauseLine → List ℕ
lines_text [] = []
lines_text (c ∷ cs) = clause_bytes c ++ (line_feed ∷ lines_text cs)

unfoldable pub under_comments : List (List ℕ) → List ℕ → List ℕ
under_comments [] rest = rest
under_comments (c ∷ cs) rest = comment_bytes c ++ (line_feed ∷ under_comments cs rest)

unfoldable pub form_text : Form → List ℕ
form_text f = under_comments f.comments (header_bytes f.header ++ (line_feed ∷ lines_text f.lines))

abbrev pub Each : {A : Type 0} → (A → Type 0) → List A → Type 0
Each P [] = Unit
Each P (x ∷ xs) = P x × Each P xs

-- "numbers as in document 01": 1 to 10 digits; a literal is no 0
pub record LiteralHeld (l : ℕ × ℤ) : Type 0 where
  pub some : 0 < size l.1
  pub digits : size l.1 < 10 ^ most_digits

pub record ClauseHeld (c : ClauseLine) : Type 0 where
  pub light : c.weight < 10 ^ most_digits
  pub each : Each LiteralHeld c.literals

pub record HeaderHeld (h : HeaderLine) : Type 0 where
  pub variables-digits : h.variables < 10 ^ most_digits
  pub clauses-digits : h.clauses < 10 ^ most_digits
  pub top_digits : h.top < 10 ^ most_digits

-- "a line for each clause"
pub record Held (f : Form) : Type 0 where
  pub comments : Each NoFeed f.comments
  pub header : HeaderHeld f.header
  pub lines : Each ClauseHeld f.lines
  pub whole : length f.lines ≡ f.header.clauses

-- the first k lines are those of a text of the form
pub record InForm (text : List ℕ) (k : ℕ) : Type 0 where
  pub form : Form
  pub held : Held form
  pub alike : first_lines k text ≡ first_lines k (form_text form)

-- "A broken, missing or surplus line is 20 with its line."
pub record FirstBroken (text : List ℕ) (k : ℕ) : Type 0 where
  pub before : (j : ℕ) → j < k → InForm text j
  pub breaks : InForm text k → ⊥

-- ---- what is said

unfoldable pub numbers_of : List (ℕ × ℤ) → List ℤ
numbers_of [] = []
numbers_of (l ∷ ls) = l.1 ∷ numbers_of ls

-- of each clause its weight and its literals
unfoldable pub clauses_said : List ClauseLine → List (ℕ × List ℤ)
clauses_said [] = []
clauses_said (c ∷ cs) = (c.weight, numbers_of c.literals) ∷ clauses_said cs
