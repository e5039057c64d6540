-- What the reader says is what the lines of the text say. Its head gives the first three lines or the first of them that breaks the form, and the figures
-- are those of every written text with these lines; the rest is a line that breaks the form, or the whole text is written.
use Rattle.std.specs.Prelude.{Result, Ok, Err}
use Prim.Native.Nat.{ℕ, ◌+◌, ◌*◌, ◌≤◌}
use mathlib.Core.Path.{◌≡◌, refl, sym, ap, ◌∙◌, subst}
use mathlib.Core.Logic.{◌⊎◌, inl, inr, ⊎_elim}
use mathlib.Core.Bool.{Bool, true, false, not}
use mathlib.Core.List.{List, ◌++◌}
use native.Mathlib.Omega.{arith}
use borrow.Author.Tests.{ltb-false}
use lib.Dec.{eqb, ltb}
use lib.ListN.{length, drop}
use Rattle.literals.specs.Literal.{most_variables}
use Rattle.rules.specs.declared.HeadRead.{HeadRead}
use Rattle.rules.specs.declared.Refusal.{Refusal}
use Rattle.rules.specs.declared.Refusal.TheVariants.{TooManyVariables, BadTable, NoRoom, BadBudget, BadText}
use Rattle.rules.proofs.Judging.{refuse-fine}
use Rattle.rules.specs.Refusals.{Judged, refuse, in_order, first_due}
use Rattle.rules.specs.Table.{row_words, row_count}
use Rattle.rules.specs.Walk.{most_budget}
use Rattle.rules.specs.Text.{table_text}
use Rattle.rules.specs.Reader.{first_row_line, row_lines, three_lines}
use Rattle.rules.specs.Reader.{RowsRead, rows, broken_at, rows_at, head_at, rest_why, head_why, read_why, words_of, read_step}
use Rattle.rules.specs.Text.{figures_order}
use Rattle.rules.specs.Reader.{text_read_as, text_read, read_table}
use Rattle.text_laws.specs.Lines.{Held, InForm, FirstBroken}
use Rattle.text_laws.proofs.RoundTrip.{ReadBack, held-trip}
use Rattle.text_laws.proofs.Converse.{rest-words, head-and-rows}
use Rattle.text_laws.proofs.Places.{HeadLines, HeadSays, head-says, fewer-in-form, one_place, written-in-form, ends-early, goes_on}
use Rattle.telling.specs.Told.{by_text_read}
use Rattle.demands.specs.Lines.{figures_why, Reads, head, figures, rest, whole, ByLines}

-- ---- figures

record Limits (most room n b m : ℕ) : Type 0 where
  variables : n ≤ most_variables
  budget : b ≤ most_budget
  few : m ≤ most
  fits : row_words * m ≤ room

limits : (most room n b m : ℕ) → first_due (figures_order most room n b m) ≡ Ok tt → Limits most room n b m
limits most room n b m fine =
    let e1 = refuse-fine (ltb most_variables n) TooManyVariables _ fine in
    let e2 = refuse-fine (ltb most_budget b) BadBudget _ e1.1 in
    let e3 = refuse-fine (ltb most m) BadTable _ e2.1 in
    let e4 = refuse-fine (ltb room (row_words * m)) NoRoom (Ok tt) e3.1 in
    record {
      variables = ltb-false most_variables n e1.0;
      budget = ltb-false most_budget b e2.0;
      few = ltb-false most m e3.0;
      fits = ltb-false room (row_words * m) e4.0;
    }

-- the same judgement, of equal figures
order_same : (most room n b m x y z : ℕ) → (x ≡ n) × (y ≡ b) × (z ≡ m) → first_due (figures_order most room x y z) ≡ first_due (figures_order most room n b m)
order_same most room n b m x y z e = rw (e.0, e.1, e.2)

-- ---- what is said of a head and of the rest

refuse-then : (t : Bool) (r : Refusal) (j after last : Judged) → after ≡ in_order j last → refuse t r after ≡ in_order (refuse t r j) last
refuse-then true r j after last e = refl
refuse-then false r j after last e = e

lines-said : (s : List ℕ) (most room n b m from : ℕ)
    → head_why most s room (Ok (three_lines n b m from)) ≡ in_order (first_due (figures_order most room n b m)) (rest_why s m (rows_at m s from first_row_line))
lines-said s most room n b m from =
    let last = rest_why s m (rows_at m s from first_row_line) in
    refuse-then (ltb most_variables n) TooManyVariables _ _ last
    (refuse-then (ltb most_budget b) BadBudget _ _ last
    (refuse-then (ltb most m) BadTable _ _ last (refuse-then (ltb room (row_words * m)) NoRoom (Ok tt) last last refl)))

record Faulted (j : Judged) : Type 0 where
  line : ℕ
  said : j ≡ Err (BadText line)

rest-either : (s : List ℕ) (m : ℕ) (r : RowsRead) → (rest_why s m r ≡ Ok tt) ⊎ Faulted (rest_why s m r)
rest-either s m (rows words end) = go (not (eqb end (length s)))
  where
    go : (b : Bool) → (refuse b (BadText (first_row_line + row_lines * m)) (Ok tt) ≡ Ok tt)
        ⊎ Faulted (refuse b (BadText (first_row_line + row_lines * m)) (Ok tt))
    go true = inr (record { line = first_row_line + row_lines * m; said = refl })
    go false = inl refl
rest-either s m (broken_at line) = inr (record { line = line; said = refl })

module _ (s : List ℕ) (most room n b m from : ℕ) (e : head_at s ≡ Ok (three_lines n b m from)) (lines : HeadLines s n b m from) where
  abbrev rest-judged : Judged
  rest-judged = rest_why s m (rows_at m s from first_row_line)

  abbrev mine : Judged
  mine = first_due (figures_order most room n b m)

  abbrev words : List ℕ
  words = words_of (rows_at m s from first_row_line)

  text-whole : rest-judged ≡ Ok tt → s ≡ table_text n b words
  text-whole fine = head-and-rows s n b m from words e (rest-words s m (rows_at m s from first_row_line) fine)

  figures-mine : (f : InForm s 3) → figures_why most room f ≡ mine
  figures-mine f = order_same most room n b m f.variables f.budget (row_count f.table) (lines.same f)

  -- the first direction
  rest-reads : mine ≡ Ok tt → Reads s most room rest-judged
  rest-reads due =
      ⊎_elim
      (λ (fine : rest-judged ≡ Ok tt).
      let same = subst (λ (k : ℕ). first_due (figures_order most room n b k) ≡ Ok tt) (sym (lines.count fine)) due in
      subst (Reads s most room) (sym fine) (whole n b words (lines.held fine) (text-whole fine) same))
      (λ (f : Faulted rest-judged).
      let place = lines.faulted f.line f.said in
      subst (Reads s most room) (sym f.said) (rest lines.form (figures-mine lines.form ∙ due) f.line place.1 place.0))
      (rest-either s m (rows_at m s from first_row_line))

  lines-read : Reads s most room (head_why most s room (Ok (three_lines n b m from)))
  lines-read = subst (Reads s most room) (sym (lines-said s most room n b m from)) (go mine refl)
    where
      go : (j : Judged) → mine ≡ j → Reads s most room (in_order j rest-judged)
      go (Ok _) h = rest-reads h
      go (Err r) h = figures lines.form r (figures-mine lines.form ∙ h)

  -- the other direction
  figures-only : (f : InForm s 3) (r : Refusal) → figures_why most room f ≡ Err r → head_why most s room (Ok (three_lines n b m from)) ≡ Err r
  figures-only f r due = lines-said s most room n b m from ∙ ap (λ (j : Judged). in_order j rest-judged) (sym (figures-mine f) ∙ due)

  rest-only : (f : InForm s 3) → figures_why most room f ≡ Ok tt → (k : ℕ) → FirstBroken s k
      → head_why most s room (Ok (three_lines n b m from)) ≡ Err (BadText k)
  rest-only f due k broken =
      lines-said s most room n b m from
      ∙ ap (λ (j : Judged). in_order j rest-judged) (sym (figures-mine f) ∙ due)
      ∙ ⊎_elim
      (λ (fine : rest-judged ≡ Ok tt). absurd (broken.breaks (written-in-form s n b words k (lines.held fine) (text-whole fine))))
      (λ (g : Faulted rest-judged).
      g.said ∙ ap (λ (line : ℕ). Err (BadText line)) (one_place s g.line k (lines.faulted g.line g.said).0 broken))
      (rest-either s m (rows_at m s from first_row_line))

-- ---- both directions

read-judged : (s : List ℕ) (most room : ℕ) (h : Result HeadRead ℕ) → by_text_read (text_read_as (head_why most s room h) h) ≡ head_why most s room h
read-judged s most room (Err line) = refl
read-judged s most room (Ok said) = go (head_why most s room (Ok said))
  where
    go : (j : Judged) → by_text_read (text_read_as j (Ok said)) ≡ j
    go (Ok _) = refl
    go (Err r) = refl

pub says-judged : (s : List ℕ) (most room : ℕ) → by_text_read (text_read most s room) ≡ head_why most s room (head_at s)
unfolding text_read read_why
says-judged s most room = read-judged s most room (head_at s)

head-reads : (s : List ℕ) (most room : ℕ) (h : Result HeadRead ℕ) → head_at s ≡ h → HeadSays s h → Reads s most room (head_why most s room h)
head-reads s most room (Err k) e says = head k says.1 says.0
head-reads s most room (Ok said) e says = lines-read s most room said.variables said.budget said.rows said.next e says

text-reads : (s : List ℕ) (most room : ℕ) → Reads s most room (by_text_read (text_read most s room))
text-reads s most room = subst (Reads s most room) (sym (says-judged s most room)) (head-reads s most room (head_at s) refl (head-says s))

-- whatever is held is read back, and its words come to stand at the front of those lent
pub read_back : (most n budget : ℕ) (table lent : List ℕ) → ReadBack most (table_text n budget table) (length lent) n budget table
    → read_table most (table_text n budget table) lent ≡ table ++ drop (length table) lent
unfolding read_table read_step
read_back most n budget table lent r = rw (r.fine, r.words)

held_back : (n b : ℕ) (table : List ℕ) (most room : ℕ) → Held n b table → first_due (figures_order most room n b (row_count table)) ≡ Ok tt
    → ReadBack most (table_text n b table) room n b table
held_back n b table most room held due =
    let l = limits most room n b (row_count table) due in
    held-trip most n b table room held l.variables l.budget l.few (omega (arith, held.whole, l.fits))

head-only : (s : List ℕ) (most room k : ℕ) → k ≤ 3 → FirstBroken s k → (h : Result HeadRead ℕ) → HeadSays s h → head_why most s room h ≡ Err (BadText k)
head-only s most room k l broken (Err j) says = ap (λ (line : ℕ). Err (BadText line)) (one_place s j k says.0 broken)
head-only s most room k l broken (Ok said) says = absurd (broken.breaks (fewer-in-form s k 3 l says.form))

said-only : (s : List ℕ) (most room : ℕ) (h : Result HeadRead ℕ) → head_at s ≡ h → HeadSays s h → (why : Judged) → Reads s most room why
    → by_text_read (text_read most s room) ≡ head_why most s room h → by_text_read (text_read most s room) ≡ why
said-only s most room h e says why (head k l broken) q = q ∙ head-only s most room k l broken h says
said-only s most room (Err j) e says why (figures f r due) q = absurd (says.0.breaks (fewer-in-form s j 3 says.1 f))
said-only s most room (Ok said) e says why (figures f r due) q = q ∙ figures-only s most room said.variables said.budget said.rows said.next e says f r due
said-only s most room (Err j) e says why (rest f due k l broken) q = absurd (says.0.breaks (fewer-in-form s j 3 says.1 f))
said-only s most room (Ok said) e says why (rest f due k l broken) q =
    q ∙ rest-only s most room said.variables said.budget said.rows said.next e says f due k broken
said-only s most room h e says why (whole n b table held text due) q =
    ap (λ (t : List ℕ). by_text_read (text_read most t room)) text ∙ ap by_text_read (held_back n b table most room held due).answer

pub by_lines_lem : ByLines
by_lines_lem =
    record {
      reads = text-reads;
      nothing_else = λ s most room why r.
          said-only s most room (head_at s) refl (head-says s) why r (says-judged s most room);
      ends_early = ends-early;
      nothing_follows = goes_on;
      reads_held = λ most n b table lent held due.
          let back = held_back n b table most (length lent) held due in
          (back.answer, read_back most n b table lent back);
    }
