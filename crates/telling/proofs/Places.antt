-- Every place is a row of a table or a line of a text, and those are few: below 2 ^ 32 by far.
use Rattle.std.specs.Prelude.{Option, Some, None, Result, Ok, Err}
use Prim.Native.Nat.{ℕ, zero, suc, ◌+◌, ◌*◌, ◌<◌, ◌≤◌, ◌^◌}
use mathlib.Core.Path.{◌≡◌, refl}
use mathlib.Core.Bool.{Bool, true, false, not, ◌||◌}
use mathlib.Core.List.{List}
use native.Mathlib.Omega.{arith}
use borrow.Author.Tests.{ltb-false}
use lib.IntN.{ℤ}
use lib.Dec.{eqb, leb, ltb}
use lib.ListN.{length}
use Rattle.literals.specs.Literal.{most_variables}
use Rattle.rules.specs.declared.Choice.{Choice}
use Rattle.rules.specs.declared.Refusal.{Refusal}
use Rattle.rules.specs.declared.Refusal.TheVariants.{TooManyVariables, BadTable, BadCapacity, NoRoom, BadLiterals, BadWeight, SumTooLarge}
use Rattle.rules.specs.declared.Refusal.TheVariants.{BadReading, BadBudget, BadDesk, TooManySteps, BadLiteral, BadNaming, BadFit, DeskFull}
use Rattle.rules.specs.declared.Refusal.TheVariants.{NothingStands, InputTooLong, BadText}
use Rattle.rules.specs.declared.HeadRead.{HeadRead}
use Rattle.rules.specs.Refusals.{Judged, number_of, place_of, refuse, in_order}
use Rattle.rules.proofs.Admissible.{whole-rows}
use Rattle.masks.specs.Masks.{below}
use Rattle.rules.specs.Table.{row_words, most_rows, row_of, row_count, bad_table, bad_lits, bad_weight, row_why}
use Rattle.rules.specs.Table.{rows_why, sum_too_large, table_why, weighs, hard_hold, weigh_why, weighed_as, weighed, row_words_of}
use Rattle.rules.specs.Desk.{most_capacity, most_steps, desk_words, in_use, capacity, standing, decisions, well_formed, load_why}
use Rattle.rules.specs.Decide.{bad_literal, decide_why}
use Rattle.rules.specs.Rewrite.{well_fitted, given, rewrite_why}
use Rattle.rules.specs.Steps.{well_named, stored}
use Rattle.rules.specs.TakeBack.{bad_last, take_back_why}
use Rattle.rules.specs.Bound.{desk_why}
use Rattle.rules.specs.Choice.{losses_by, bounded_as, bounded}
use Rattle.rules.specs.Walk.{most_budget, walk_in, found_by, searched_as, searched}
use Rattle.rules.specs.Text.{bytes, table_text, text_why, written_as, text_written, written}
use Rattle.rules.specs.Wcnf.{wcnf_text, wcnf_written}
use Rattle.rules.specs.Reader.{first_row_line, row_lines, three_lines}
use Rattle.rules.specs.Program.{answer, answered}
use Rattle.rules.specs.Reader.{RowsRead, rows, broken_at, number_line, mark_line, lits_line, on_number, row_by, on_row}
use Rattle.rules.specs.Reader.{in_front, row_at, rows_at, head_at, rest_why, head_why, read_why, text_read_as, text_read}
use Rattle.telling.specs.Told.{by_weighed, by_bounded, by_searched, by_text_read, by_written}
use Rattle.telling.specs.Room.{place_in}
use Rattle.literals.specs.declared.Lits.{Lits}
use Rattle.rules.specs.declared.Row.{Row}

abbrev Small : Judged → Type 0
Small j = place_in j < 2 ^ 32

-- a number is from 1 to 255
pub number_small : (r : Refusal) → (1 ≤ number_of r) × (number_of r ≤ 255)
number_small TooManyVariables = (omega arith, omega arith)
number_small BadTable = (omega arith, omega arith)
number_small BadCapacity = (omega arith, omega arith)
number_small NoRoom = (omega arith, omega arith)
number_small (BadLiterals row) = (omega arith, omega arith)
number_small (BadWeight row) = (omega arith, omega arith)
number_small SumTooLarge = (omega arith, omega arith)
number_small BadReading = (omega arith, omega arith)
number_small BadBudget = (omega arith, omega arith)
number_small BadDesk = (omega arith, omega arith)
number_small TooManySteps = (omega arith, omega arith)
number_small BadLiteral = (omega arith, omega arith)
number_small BadNaming = (omega arith, omega arith)
number_small BadFit = (omega arith, omega arith)
number_small DeskFull = (omega arith, omega arith)
number_small NothingStands = (omega arith, omega arith)
number_small InputTooLong = (omega arith, omega arith)
number_small (BadText line) = (omega arith, omega arith)

pub as-small : {j k : Judged} → j ≡ k → Small k → Small j
as-small e s = rw e s

refuse-small : (t : Bool) (r : Refusal) (after : Judged) → place_of r < 2 ^ 32 → (t ≡ false → Small after) → Small (refuse t r after)
refuse-small true r after here then = here
refuse-small false r after here then = then refl

order_small : (first after : Judged) → Small first → Small after → Small (in_order first after)
order_small (Ok _) after here then = then
order_small (Err r) after here then = here

row-place : (n i : ℕ) (t u : Bool) → place_in (refuse t (BadLiterals i) (refuse u (BadWeight i) (Ok tt))) ≤ i
row-place n i true u = omega arith
row-place n i false true = omega arith
row-place n i false false = omega arith

rows-place : (n : ℕ) (table : List ℕ) (k : ℕ) → place_in (rows_why n table k) ≤ k
unfolding rows_why row_why
rows-place n table zero = omega arith
rows-place n table (suc k) =
    by_first
    (rows_why n table k)
    (rows-place n table k)
    (row-place n k (bad_lits n (row_of table k).lits) (bad_weight (row_of table k)))
  where
    by_first : (j : Judged) → place_in j ≤ k → place_in (row_why n k (row_of table k)) ≤ k → place_in (in_order j (row_why n k (row_of table k))) ≤ suc k
    by_first (Ok _) a b = omega (arith, b)
    by_first (Err r) a b = omega (arith, a)

rows-small : (n : ℕ) (table : List ℕ) → bad_table table ≡ false → Small (rows_why n table (row_count table))
rows-small n table e = omega (arith, rows-place n table (row_count table), (whole-rows table e).1)

sum-small : (n : ℕ) (table : List ℕ) → bad_table table ≡ false
    → Small (in_order (rows_why n table (row_count table)) (refuse (sum_too_large table) SumTooLarge (Ok tt)))
sum-small n table e =
    order_small
    (rows_why n table (row_count table))
    _
    (rows-small n table e)
    (refuse-small (sum_too_large table) SumTooLarge (Ok tt) (omega arith) (λ _. omega arith))

table-small : (n : ℕ) (table : List ℕ) → Small (table_why n table)
unfolding table_why
table-small n table =
    refuse-small (ltb most_variables n) TooManyVariables _ (omega arith) (λ _.
    refuse-small (bad_table table) BadTable _ (omega arith) (sum-small n table))

pub load-small : (n : ℕ) (table : List ℕ) (c : ℕ) (d : List ℕ) → Small (load_why n table c d)
unfolding load_why
load-small n table c d =
    refuse-small (ltb most_variables n) TooManyVariables _ (omega arith) (λ _.
    refuse-small (bad_table table) BadTable _ (omega arith) (λ e.
    refuse-small (ltb c (row_count table) || ltb most_capacity c) BadCapacity _ (omega arith) (λ _.
    refuse-small (ltb (length d) (desk_words c)) NoRoom _ (omega arith) (λ _. sum-small n table e))))

desk-small : (d : List ℕ) → Small (desk_why d)
unfolding desk_why
desk-small d = refuse-small (not (well_formed d)) BadDesk (Ok tt) (omega arith) (λ _. omega arith)

pub decide-small : (d : List ℕ) (l : ℤ) → Small (decide_why d l)
unfolding decide_why
decide-small d l =
    refuse-small (not (well_formed d)) BadDesk _ (omega arith) (λ _.
    refuse-small (leb most_steps (standing d)) TooManySteps _ (omega arith) (λ _.
    refuse-small (bad_literal d l) BadLiteral (Ok tt) (omega arith) (λ _. omega arith)))

pub rewrite-small : (d : List ℕ) (kind : ℕ) (named : List ℕ) → Small (rewrite_why d kind named)
unfolding rewrite_why
rewrite-small d kind named =
    refuse-small (not (well_formed d)) BadDesk _ (omega arith) (λ _.
    refuse-small (leb most_steps (standing d)) TooManySteps _ (omega arith) (λ _.
    refuse-small (not (well_named d kind named)) BadNaming _ (omega arith) (λ _.
    refuse-small (not (well_fitted d kind named)) BadFit _ (omega arith) (λ _.
    refuse-small (ltb (capacity d) (in_use d + length (stored (given d kind named)))) DeskFull (Ok tt) (omega arith) (λ _. omega arith)))))

pub take-back-small : (d : List ℕ) → Small (take_back_why d)
unfolding take_back_why
take-back-small d =
    refuse-small (not (well_formed d)) BadDesk _ (omega arith) (λ _.
    refuse-small (eqb (standing d) 0) NothingStands _ (omega arith) (λ _.
    refuse-small (bad_last d) BadDesk (Ok tt) (omega arith) (λ _. omega arith)))

pub weighed-small : (n : ℕ) (table : List ℕ) (reading : ℕ) → Small (by_weighed (weighed n table reading))
unfolding weighed weigh_why
weighed-small n table reading =
    as-judged
    (weigh_why n table reading)
    (order_small
    (table_why n table)
    _
    (table-small n table)
    (refuse-small (not (below reading n)) BadReading (Ok tt) (omega arith) (λ _. omega arith)))
  where
    as-judged : (j : Judged) → Small j → Small (by_weighed (weighed_as j (weighs table reading) (hard_hold table reading)))
    as-judged (Ok _) e = e
    as-judged (Err r) e = e

pub bounded-small : (d : List ℕ) (choice : Choice) → Small (by_bounded (bounded d choice))
unfolding bounded
bounded-small d choice = as-judged (desk_why d) (desk-small d)
  where
    as-judged : (j : Judged) → Small j → Small (by_bounded (bounded_as j (losses_by choice d (decisions d))))
    as-judged (Ok _) e = e
    as-judged (Err r) e = e

pub searched-small : (d : List ℕ) (choice : Choice) (budget : ℕ) → Small (by_searched (searched d choice budget))
unfolding searched
searched-small d choice budget = as-judged (desk_why d) (desk-small d)
  where
    as-judged : (j : Judged) → Small j → Small (by_searched (searched_as j (found_by (walk_in d choice budget))))
    as-judged (Ok _) e = e
    as-judged (Err r) e = e

as_written : (j : Judged) (n : ℕ) → Small j → Small (by_written (written_as j n))
as_written (Ok _) n e = e
as_written (Err r) n e = e

text-small : (before : Judged) (text out : List ℕ) → Small before → Small (by_written (text_written before text out))
unfolding text_written text_why
text-small before text out small =
    as_written
    (text_why before text out)
    (length text)
    (order_small before _ small (refuse-small (ltb (length out) (length text)) NoRoom (Ok tt) (omega arith) (λ _. omega arith)))

pub written_small : (n budget : ℕ) (table out : List ℕ) → Small (by_written (written n budget table out))
written_small n budget table out = text-small (table_why n table) (table_text n budget table) out (table-small n table)

pub wcnf-written-small : (n : ℕ) (table out : List ℕ) → Small (by_written (wcnf_written n table out))
wcnf-written-small n table out = text-small (table_why n table) (wcnf_text n table) out (table-small n table)

pub answered-small : (input output : List ℕ) → Small (by_written (answered input output))
answered-small input output = text-small (Ok tt) (answer input) output (omega arith)

-- lines

abbrev broken_line : RowsRead → ℕ
broken_line (rows words next) = 0
broken_line (broken_at line) = line

abbrev row_line : Result (Row × ℕ) ℕ → ℕ
row_line (Ok (row, next)) = 0
row_line (Err line) = line

row_within : (s : List ℕ) (at line : ℕ) → row_line (row_at s at line) ≤ line + 2
unfolding row_at
row_within s at line = by-weight (number_line s at (bytes "weight="))
  where
    -- what is left of a row behind its weight
    from-mark : ℕ → Option (ℕ × ℕ) → Result (Row × ℕ) ℕ
    from-mark w p = on_number p (Err (line + 1)) (λ m next. row_by w m (line + 2) (lits_line s next))

    by-lits : (w m : ℕ) (l : Option (Lits × ℕ)) → row_line (row_by w m (line + 2) l) ≤ line + 2
    by-lits w m (Some (l, next)) = omega arith
    by-lits w m None = omega arith

    by-mark : (w : ℕ) (p : Option (ℕ × ℕ)) → row_line (from-mark w p) ≤ line + 2
    by-mark w (Some (m, next)) = by-lits w m (lits_line s next)
    by-mark w None = omega arith

    by-weight : (p : Option (ℕ × ℕ)) → row_line (on_number p (Err line) (λ w next. from-mark w (mark_line s next))) ≤ line + 2
    by-weight (Some (value, next)) = by-mark value (mark_line s next)
    by-weight None = omega arith

rows-within : (m : ℕ) (s : List ℕ) (at line : ℕ) → broken_line (rows_at m s at line) ≤ line + row_lines * m
unfolding rows_at
rows-within zero s at line = omega arith
rows-within (suc m) s at line = by_row (row_at s at line) (row_within s at line) (λ next. rows-within m s next (line + row_lines))
  where
    by-rest : (words : List ℕ) (r : RowsRead) → broken_line r ≤ line + row_lines + row_lines * m → broken_line (in_front words r) ≤ line + row_lines * suc m
    by-rest words (rows more next) e = omega arith
    by-rest words (broken_at l) e = omega (arith, e)

    by_row : (r : Result (Row × ℕ) ℕ) → row_line r ≤ line + 2
        → ((next : ℕ) → broken_line (rows_at m s next (line + row_lines)) ≤ line + row_lines + row_lines * m)
        → broken_line (on_row r (λ row next. in_front (row_words_of row) (rows_at m s next (line + row_lines)))) ≤ line + row_lines * suc m
    by_row (Ok (row, next)) e more = by-rest (row_words_of row) (rows_at m s next (line + row_lines)) (more next)
    by_row (Err l) e more = omega (arith, e)

rest-small : (s : List ℕ) (m : ℕ) (r : RowsRead) → m ≤ most_rows → broken_line r ≤ first_row_line + row_lines * m → Small (rest_why s m r)
rest-small s m (rows words next) few e =
    refuse-small (not (eqb next (length s))) (BadText (first_row_line + row_lines * m)) (Ok tt) (omega (arith, few)) (λ _. omega arith)
rest-small s m (broken_at line) few e = omega (arith, few, e)

abbrev head-line : Result HeadRead ℕ → ℕ
head-line (Ok head) = 0
head-line (Err line) = line

head-within : (s : List ℕ) → head-line (head_at s) < first_row_line
unfolding head_at
head-within s = by-vars (number_line s 0 (bytes "vars="))
  where
    -- what is left of the head behind two of its lines, behind one, and all of it
    from-rows : ℕ → ℕ → Option (ℕ × ℕ) → Result HeadRead ℕ
    from-rows v b p = on_number p (Err 3) (λ m next. Ok (three_lines v b m next))

    from-budget : ℕ → Option (ℕ × ℕ) → Result HeadRead ℕ
    from-budget v p = on_number p (Err 2) (λ b next. from-rows v b (number_line s next (bytes "rows=")))

    by_rows : (v b : ℕ) (p : Option (ℕ × ℕ)) → head-line (from-rows v b p) < first_row_line
    by_rows v b (Some (m, next)) = omega arith
    by_rows v b None = omega arith

    by-budget : (v : ℕ) (p : Option (ℕ × ℕ)) → head-line (from-budget v p) < first_row_line
    by-budget v (Some (b, next)) = by_rows v b (number_line s next (bytes "rows="))
    by-budget v None = omega arith

    by-vars : (p : Option (ℕ × ℕ)) → head-line (on_number p (Err 1) (λ v next. from-budget v (number_line s next (bytes "budget=")))) < first_row_line
    by-vars (Some (v, next)) = by-budget v (number_line s next (bytes "budget="))
    by-vars None = omega arith

head_small : (most : ℕ) (s : List ℕ) (room : ℕ) → most ≤ most_rows → (h : Result HeadRead ℕ) → head-line h < first_row_line → Small (head_why most s room h)
head_small most s room l (Ok head) e =
    refuse-small (ltb most_variables head.variables) TooManyVariables _ (omega arith) (λ _.
    refuse-small (ltb most_budget head.budget) BadBudget _ (omega arith) (λ _.
    refuse-small (ltb most head.rows) BadTable _ (omega arith) (λ few.
    refuse-small (ltb room (row_words * head.rows)) NoRoom _ (omega arith) (λ _.
    rest-small s head.rows (rows_at head.rows s head.next first_row_line) (omega (arith, l, ltb-false most head.rows few))
    (rows-within head.rows s head.next first_row_line)))))
head_small most s room l (Err line) e = omega (arith, e)

pub read_small : (most : ℕ) (s : List ℕ) (room : ℕ) → most ≤ most_rows → Small (by_text_read (text_read most s room))
unfolding text_read read_why
read_small most s room l = as-judged (head_at s) (read_why most s room) (head-within s) (head_small most s room l (head_at s) (head-within s))
  where
    as-judged : (h : Result HeadRead ℕ) (j : Judged) → head-line h < first_row_line → Small j → Small (by_text_read (text_read_as j h))
    as-judged (Ok head) (Ok _) w e = e
    as-judged (Err line) (Ok _) w e = omega (arith, w)
    as-judged (Ok head) (Err r) w e = e
    as-judged (Err line) (Err r) w e = e
