-- Document 02, C-11: competition files: what is read. A place is an index into the bytes, as in Reader.antt.
use Rattle.std.specs.Prelude.{Option, None, Result, Ok, Err}
use Rattle.std.specs.Prelude.{ℕ, zero, suc, ◌+◌, ◌-◌, ◌*◌, List, [], ◌∷◌, ◌++◌, Bool, false, cond, not, ◌&&◌, ◌||◌, length, get_or, drop, eqb, leb, ltb, ℤ, pos, neg_ℤ}
use Rattle.literals.specs.declared.Lits.{Lits}
use Rattle.literals.specs.Literal.{most_variables, size, lits_of}
use Rattle.literals.specs.Lits.{no_lits, together}
use Rattle.rules.specs.declared.Row.{Row}
use Rattle.rules.specs.declared.WcnfHead.{WcnfHead}
use Rattle.rules.specs.declared.WcnfRead.{WcnfRead}
use Rattle.rules.specs.declared.Refusal.TheVariants.{TooManyVariables, BadTable, NoRoom, BadLiterals, BadText}
use Rattle.rules.specs.Refusals.{Judged, ◌when◌, as_in, first_due, unless_refused}
use Rattle.rules.specs.Table.{row_words, row_words_of, new_row, hard_row, bad_lits}
use Rattle.rules.specs.Text.{bytes, line_feed, space, minus}
use Rattle.rules.specs.Reader.{stands, number_at, ended, on_number}
use Rattle.rules.specs.declared.Refusal.{Refusal}

-- how many spaces stand from the place on, counted up to k
unfoldable pub space_run : List ℕ → ℕ → ℕ → ℕ
space_run s at zero = 0
space_run s at (suc k) = cond (eqb (get_or s at 0) space) (suc (space_run s (suc at) k)) 0

-- "parted by one or more spaces": a number with such a gap in front
unfoldable pub parted_at : List ℕ → ℕ → Option (ℕ × ℕ)
parted_at s at =
    let gap = space_run s at (length s) in
    cond (eqb gap 0) None (number_at s (at + gap))

-- the place of the first LF among k bytes from a place on, or behind them
unfoldable pub feed_from : ℕ → List ℕ → ℕ → ℕ
feed_from zero s at = at
feed_from (suc k) s at = cond (eqb (get_or s at 0) line_feed) at (feed_from k s (suc at))

-- what the header says, with the place behind it and its line
abbrev pub header_says : ℕ → ℕ → ℕ → ℕ → ℕ → WcnfHead
header_says variables clauses top next line =
    record { variables = variables; clauses = clauses; top = top; next = next; line = line }

-- the header's line
unfoldable pub header_at : List ℕ → ℕ → ℕ → Result WcnfHead ℕ
header_at s at line =
    let name = at + 1 + space_run s (at + 1) (length s) in
    cond (stands s at (bytes "p ") && stands s name (bytes "wcnf"))
    (on_number (parted_at s (name + 4)) (Err line) (λ variables next.
    on_number (parted_at s next) (Err line) (λ clauses next.
    on_number (ended s (parted_at s next)) (Err line) (λ top next. Ok (header_says variables clauses top next line)))))
    (Err line)

-- "`c` comment lines first"; the first argument is one more than the lines there can be
unfoldable pub header_from : ℕ → List ℕ → ℕ → ℕ → Result WcnfHead ℕ
header_from zero s at line = Err line
header_from (suc k) s at line =
    let feed = feed_from (length s - at) s at in
    let more = cond (ltb feed (length s)) (header_from k s (feed + 1) (line + 1)) (Err line) in
    cond (stands s at (bytes "c")) more (header_at s at line)

unfoldable pub header_of : List ℕ → Result WcnfHead ℕ
header_of s = header_from (suc (length s)) s 0 1

-- The signed numbers of a clause up to its closing 0, with the place behind its line; or its line breaks the form.
pub data MembersRead : Type 0 where
  members : List ℤ → ℕ → MembersRead
  broken_line : MembersRead

abbrev pub with_member : ℤ → MembersRead → MembersRead
with_member l (members ls next) = members (l ∷ ls) next
with_member l broken_line = broken_line

-- a signed number: minus before a negative one, which is not 0
abbrev pub on_signed : {A : Type 0} → List ℕ → ℕ → A → (ℤ → ℕ → A) → A
on_signed s at broken go =
    cond (eqb (get_or s at 0) minus)
    (on_number (number_at s (at + 1)) broken (λ v next. cond (eqb v 0) broken (go (neg_ℤ (pos v)) next)))
    (on_number (number_at s at) broken (λ v next. go (pos v) next))

-- the first argument is one more than the numbers there can be
unfoldable pub members_from : ℕ → List ℕ → ℕ → MembersRead
members_from zero s at = broken_line
members_from (suc k) s at =
    let gap = space_run s at (length s) in
    cond (eqb gap 0) broken_line (on_signed s (at + gap) broken_line (λ l next.
    let closed = cond (eqb (get_or s next 0) line_feed) (members [] (next + 1)) broken_line in
    let more = with_member l (members_from k s next) in
    cond (eqb (size l) 0) closed more))

abbrev pub on_members : {A : Type 0} → MembersRead → A → (List ℤ → ℕ → A) → A
on_members (members ls next) broken go = go ls next
on_members broken_line broken go = broken

-- a clause: its weight, and its members
abbrev pub on_clause : {A : Type 0} → List ℕ → ℕ → A → (ℕ → List ℤ → ℕ → A) → A
on_clause s at broken go = on_number (number_at s at) broken (λ w next. on_members (members_from (length s) s next) broken (go w))

-- "Literals come in any order; one given twice counts once."
unfoldable pub lits_of_members : List ℤ → Lits
lits_of_members [] = no_lits
lits_of_members (l ∷ ls) = together (lits_of l) (lits_of_members ls)

-- 5: "A variable both ways or above the header's count"
unfoldable pub some_above : ℕ → List ℤ → Bool
some_above variables [] = false
some_above variables (l ∷ ls) = ltb variables (size l) || some_above variables ls

unfoldable pub bad_members : ℕ → List ℤ → Bool
bad_members variables ls = some_above variables ls || bad_lits variables (lits_of_members ls)

-- "then line by line 20, 5 [..], place being the clause from 0 for the last": m clauses are left, the next is clause i on this line
unfoldable pub clauses_why : ℕ → ℕ → ℕ → List ℕ → ℕ → ℕ → Judged
clauses_why zero i variables s at line = first_due (BadText line when not (eqb at (length s)) ∷ [])
clauses_why (suc m) i variables s at line =
    on_clause s at (Err (BadText line)) (λ w ls next.
    first_due (BadLiterals i when bad_members variables ls ∷ as_in (clauses_why m (suc i) variables s next (line + 1)) ∷ []))

-- "After the header come 1, 2 and 4 by its figures"; the first argument is the most rows that this reader takes
abbrev pub header_why : ℕ → List ℕ → ℕ → Result WcnfHead ℕ → Judged
header_why most s room (Ok head) =
    first_due (TooManyVariables when ltb most_variables head.variables ∷ BadTable when ltb most head.clauses ∷ NoRoom when ltb room (row_words * head.clauses)
    ∷ as_in (clauses_why head.clauses 0 head.variables s head.next (head.line + 1)) ∷ [])
header_why most s room (Err line) = Err (BadText line)

unfoldable pub wcnf_read_why : ℕ → List ℕ → ℕ → Judged
wcnf_read_why most s room = header_why most s room (header_of s)

-- "WCNF reads weights at top or above as hard"
abbrev pub clause_row : ℕ → ℕ → Lits → Row
clause_row top w l = cond (leb top w) (hard_row l) (new_row l w)

-- the table that the clauses make
unfoldable pub clauses_words : ℕ → ℕ → List ℕ → ℕ → List ℕ
clauses_words zero top s at = []
clauses_words (suc m) top s at = on_clause s at [] (λ w ls next. row_words_of (clause_row top w (lits_of_members ls)) ++ clauses_words m top s next)

abbrev pub words_behind_header : List ℕ → Result WcnfHead ℕ → List ℕ
words_behind_header s (Ok head) = clauses_words head.clauses head.top s head.next
words_behind_header s (Err line) = []

unfoldable pub wcnf_words : List ℕ → List ℕ
wcnf_words s = words_behind_header s (header_of s)

abbrev pub file_says : ℕ → ℕ → WcnfRead
file_says variables m = record { variables = variables; rows = m }

abbrev pub wcnf_read_as : Judged → Result WcnfHead ℕ → Result WcnfRead Refusal
wcnf_read_as (Ok _) (Ok head) = Ok (file_says head.variables head.clauses)
wcnf_read_as (Ok _) (Err line) = Err (BadText line)
wcnf_read_as (Err r) head = Err r

-- variables and rows, or the refusal
unfoldable pub wcnf_read : ℕ → List ℕ → ℕ → Result WcnfRead Refusal
wcnf_read most s room = wcnf_read_as (wcnf_read_why most s room) (header_of s)

-- the lent words afterwards
unfoldable pub wcnf_table : ℕ → List ℕ → List ℕ → List ℕ
wcnf_table most s table =
    let words = wcnf_words s in
    unless_refused (wcnf_read_why most s (length table)) (words ++ drop (length words) table) table
