-- The place that the reader gives is the first line that breaks the form, and the figures of the first three lines are the same in every written text that
-- has these lines. The three lines here, the rest in Broken.antt.
use Rattle.std.specs.Prelude.{Option, Some, None, Result, Ok, Err}
use Prim.Native.Nat.{ℕ, zero, suc, ◌+◌, ◌*◌, ◌^◌, ◌<◌, ◌≤◌}
use mathlib.Core.Path.{◌≡◌, refl, sym, ap, ◌∙◌, subst}
use mathlib.Core.Logic.{⊎_elim}
use mathlib.Core.Bool.{true}
use mathlib.Core.List.{List, [], ◌∷◌, ◌++◌}
use native.Mathlib.Omega.{arith}
use borrow.Author.Tests.{ne_eqb}
use lib.ListN.{length, drop, length-append}
use Rattle.masks.proofs.Choice.{impossible, lt-or-le, some-pair}
use Rattle.rules.specs.declared.HeadRead.{HeadRead}
use Rattle.rules.specs.declared.Refusal.TheVariants.{BadText}
use Rattle.rules.specs.Table.{row_words, row_count, row_of}
use Rattle.rules.specs.Text.{most_digits, rows_text, table_text}
use Rattle.rules.specs.Reader.{first_row_line, row_lines, stands, number_line, head_at, RowsRead, rows, broken_at, rows_at, rest_why, words_of}
use Rattle.text_laws.specs.Pieces.{line_text}
use Rattle.text_laws.specs.Keys.{vars_key, budget_key, rows_key}
use Rattle.text_laws.specs.Lines.{NoFeed, Line, ended, first_line, first_lines, line_at, RowHeld, Held, InForm, FirstBroken}
use Rattle.text_laws.proofs.Cuts.{fewer-lines, lines_more, stands-of-drop}
use Rattle.text_laws.proofs.Lines.{line-found}
use Rattle.text_laws.proofs.Branches.{head-no-vars, head-no-budget, head-no-rows, head-is}
use Rattle.text_laws.proofs.Heads.{head_text, head_end, head-length, table-text, head-reads}
use Rattle.text_laws.proofs.Rows.{rows_from, rows_all, rows-read-back, rows-found}
use Rattle.text_laws.proofs.Converse.{count_of, rest-words}
use Rattle.text_laws.proofs.Broken.{number_bytes, bytes-no-feed, number_at, number_of, lines_at, lines_of, blank, blank-long, blank-held}
use Rattle.text_laws.proofs.Broken.{end_why, Placed, rest-placed}

-- ---- what is written

vars-no-feed : NoFeed vars_key
vars-no-feed = (refl, (refl, (refl, (refl, (refl, tt)))))

budget-no-feed : NoFeed budget_key
budget-no-feed = (refl, (refl, (refl, (refl, (refl, (refl, (refl, tt)))))))

rows-no-feed : NoFeed rows_key
rows-no-feed = (refl, (refl, (refl, (refl, (refl, tt)))))

module _ (n b : ℕ) (table : List ℕ) where
  abbrev behind_two : List ℕ
  behind_two = line_text rows_key (row_count table) ++ rows_text table (row_count table)

  first-written : (k : ℕ) → first_lines (suc k) (table_text n b table) ≡ ended (number_bytes vars_key n) ∷ first_lines k (line_text budget_key b ++ behind_two)
  first-written k = ap (first_lines (suc k)) (table-text n b table) ∙ lines_of k vars_key n (line_text budget_key b ++ behind_two) vars-no-feed

  second-written : (k : ℕ) → first_lines (suc (suc k)) (table_text n b table)
      ≡ ended (number_bytes vars_key n) ∷ ended (number_bytes budget_key b) ∷ first_lines k behind_two
  second-written k = first-written (suc k) ∙ ap (λ (x : List Line). ended (number_bytes vars_key n) ∷ x) (lines_of k budget_key b behind_two budget-no-feed)

  third-written : (k : ℕ) → first_lines (suc (suc (suc k))) (table_text n b table)
      ≡ ended (number_bytes vars_key n) ∷ ended (number_bytes budget_key b) ∷ ended (number_bytes rows_key (row_count table))
      ∷ first_lines k (rows_from (row_count table) 0 table)
  third-written k =
      second-written (suc k)
      ∙ ap (λ (x : List Line). ended (number_bytes vars_key n) ∷ ended (number_bytes budget_key b) ∷ x)
      (lines_of k rows_key (row_count table) (rows_text table (row_count table)) rows-no-feed
      ∙ ap (λ (x : List ℕ). ended (number_bytes rows_key (row_count table)) ∷ first_lines k x) (rows_all table (row_count table)))

-- no rows
none-held : (n b : ℕ) → n < 10 ^ most_digits → b < 10 ^ most_digits → Held n b []
unfolding row_count
none-held n b p q =
    record { variables-digits = p; budget-digits = q; rows-digits = omega arith; whole = refl; rows = λ i l. absurd (omega arith) }

-- of more lines, of fewer
pub fewer-in-form : (s : List ℕ) (j k : ℕ) → j ≤ k → InForm s k → InForm s j
fewer-in-form s j k l f =
    record {
      variables = f.variables;
      budget = f.budget;
      table = f.table;
      held = f.held;
      alike = fewer-lines j k s (table_text f.variables f.budget f.table) l f.alike;
    }

-- all lines but the last of these are in the form
first-broken : (s : List ℕ) (k : ℕ) → InForm s k → (InForm s (suc k) → ⊥) → FirstBroken s (suc k)
first-broken s k f h =
    record {
      before = λ j l. fewer-in-form s j k (omega arith) f;
      breaks = h;
    }

-- ---- what is read

pub vars-broken : (s : List ℕ) → number_line s 0 vars_key ≡ None → FirstBroken s 1
unfolding first_lines
vars-broken s e =
    first-broken s 0 (record { variables = 0; budget = 0; table = []; held = none-held 0 0 (omega arith) (omega arith); alike = refl })
    (λ f.
    let first = first-written f.variables f.budget f.table 0 in
    let alike = f.alike in
    let line : first_line (drop 0 s) ≡ ended (number_bytes vars_key f.variables) = cc in
    let read = number_of s 0 vars_key f.variables f.held.variables-digits line in
    impossible (cc))

module _ (s : List ℕ) (n a : ℕ) (p : number_line s 0 vars_key ≡ Some (n, a)) where
  first-lines : (k : ℕ) → first_lines (suc k) s ≡ ended (number_bytes vars_key n) ∷ first_lines k (drop a s)
  first-lines k = lines_at k s 0 (number_bytes vars_key n) a (bytes-no-feed vars_key n vars-no-feed) (number_at s 0 vars_key n a p)

  small_n : n < 10 ^ most_digits
  small_n = (line-found s 0 vars_key n a p).small

  pub budget-broken : number_line s a budget_key ≡ None → FirstBroken s 2
  unfolding first_lines
  budget-broken e =
      first-broken s 1
      (record { variables = n; budget = 0; table = []; held = none-held n 0 small_n (omega arith); alike = first-lines 0 ∙ sym (first-written n 0 [] 0) })
      (λ f.
      let first = second-written f.variables f.budget f.table 0 in
      let mine = first-lines 1 in
      let alike = f.alike in
      let line : first_line (drop a s) ≡ ended (number_bytes budget_key f.budget) = cc in
      let read = number_of s a budget_key f.budget f.held.budget-digits line in
      impossible (cc))

  module _ (b c : ℕ) (q : number_line s a budget_key ≡ Some (b, c)) where
    second-lines : (k : ℕ) → first_lines (suc (suc k)) s ≡ ended (number_bytes vars_key n) ∷ ended (number_bytes budget_key b) ∷ first_lines k (drop c s)
    second-lines k =
        first-lines (suc k)
        ∙ ap (λ (x : List Line). ended (number_bytes vars_key n) ∷ x)
        (lines_at k s a (number_bytes budget_key b) c (bytes-no-feed budget_key b budget-no-feed) (number_at s a budget_key b c q))

    small_b : b < 10 ^ most_digits
    small_b = (line-found s a budget_key b c q).small

    pub rows-broken : number_line s c rows_key ≡ None → FirstBroken s 3
    unfolding first_lines
    rows-broken e =
        first-broken s 2
        (record { variables = n; budget = b; table = []; held = none-held n b small_n small_b; alike = second-lines 0 ∙ sym (second-written n b [] 0) })
        (λ f.
        let first = third-written f.variables f.budget f.table 0 in
        let mine = second-lines 1 in
        let alike = f.alike in
        let line : first_line (drop c s) ≡ ended (number_bytes rows_key (row_count f.table)) = cc in
        let read = number_of s c rows_key (row_count f.table) f.held.rows-digits line in
        impossible (cc))

    module _ (m next : ℕ) (r : number_line s c rows_key ≡ Some (m, next)) where
      third-lines : (k : ℕ) → first_lines (suc (suc (suc k))) s
          ≡ ended (number_bytes vars_key n) ∷ ended (number_bytes budget_key b) ∷ ended (number_bytes rows_key m) ∷ first_lines k (drop next s)
      third-lines k =
          second-lines (suc k)
          ∙ ap (λ (x : List Line). ended (number_bytes vars_key n) ∷ ended (number_bytes budget_key b) ∷ x)
          (lines_at k s c (number_bytes rows_key m) next (bytes-no-feed rows_key m rows-no-feed) (number_at s c rows_key m next r))

      -- every written text with these lines has these figures
      figures-same : (k : ℕ) (f : InForm s (suc (suc (suc k)))) → (f.variables ≡ n) × (f.budget ≡ b) × (row_count f.table ≡ m)
      unfolding first_lines
      figures-same k f =
          let theirs = third-written f.variables f.budget f.table k in
          let one = first-lines (suc (suc k)) in
          let two = second-lines (suc k) in
          let alike = f.alike in
          let l1 : first_line (drop 0 s) ≡ ended (number_bytes vars_key f.variables) = cc in
          let l2 : first_line (drop a s) ≡ ended (number_bytes budget_key f.budget) = cc in
          let l3 : first_line (drop c s) ≡ ended (number_bytes rows_key (row_count f.table)) = cc in
          let r1 = number_of s 0 vars_key f.variables f.held.variables-digits l1 in
          let r2 = number_of s a budget_key f.budget f.held.budget-digits l2 in
          let r3 = number_of s c rows_key (row_count f.table) f.held.rows-digits l3 in
          ((some-pair (sym r1 ∙ p)).0, (some-pair (sym r2 ∙ q)).0, (some-pair (sym r3 ∙ r)).0)

      words-held : (words : List ℕ) → length words ≡ row_words * m → ((i : ℕ) → i < m → RowHeld (row_of words i)) → Held n b words
      words-held words long held =
          let count = count_of words m long in
          record {
            variables-digits = small_n;
            budget-digits = small_b;
            rows-digits = rw count (line-found s c rows_key m next r).small;
            whole = rw count long;
            rows = λ i l. held i (rw count at l);
          }

      -- j lines of the rows that are those of held rows are so many of the text
      more-lines : (j : ℕ) (words : List ℕ) → length words ≡ row_words * m → first_lines j (drop next s) ≡ first_lines j (rows_from m 0 words)
          → first_lines (suc (suc (suc j))) s ≡ first_lines (suc (suc (suc j))) (table_text n b words)
      more-lines j words long alike =
          let count = count_of words m long in
          third-lines j
          ∙ ap (λ (x : List Line). ended (number_bytes vars_key n) ∷ ended (number_bytes budget_key b) ∷ ended (number_bytes rows_key m) ∷ x) alike
          ∙ sym (third-written n b words j
          ∙ ap (λ (x : ℕ).
          ended (number_bytes vars_key n) ∷ ended (number_bytes budget_key b) ∷ ended (number_bytes rows_key x) ∷ first_lines j (rows_from x 0 words))
          count)

      pub rest-broken : (k : ℕ) → Placed m (drop next s) first_row_line k → FirstBroken s k
      unfolding first_lines
      rest-broken k placed =
          let j = placed.lines in
          let at : k ≡ suc (suc (suc (suc j))) = omega (arith, placed.place) in
          let rest = placed.broken in
          subst (FirstBroken s) (sym at)
          (first-broken s (suc (suc (suc j)))
          (record {
            variables = n;
            budget = b;
            table = rest.words;
            held = words-held rest.words rest.long rest.held;
            alike = more-lines j rest.words rest.long rest.alike;
          })
          (λ f.
          let same = figures-same (suc j) f in
          let theirs = third-written f.variables f.budget f.table (suc j) in
          let mine = third-lines (suc j) in
          let alike = f.alike in
          let lines : first_lines (suc j) (drop next s) ≡ first_lines (suc j) (rows_from (row_count f.table) 0 f.table) = cc in
          rest.none f.table 0 (λ i low high. f.held.rows i (omega (arith, same.2)))
          (lines ∙ ap (λ (x : ℕ). first_lines (suc j) (rows_from x 0 f.table)) same.2)))

-- ---- the head, and what it leaves to be read

pub record HeadLines (s : List ℕ) (n b m next : ℕ) : Type 0 where
  pub form : InForm s 3
  pub same : (f : InForm s 3) → (f.variables ≡ n) × (f.budget ≡ b) × (row_count f.table ≡ m)
  pub faulted : (k : ℕ) → rest_why s m (rows_at m s next first_row_line) ≡ Err (BadText k) → FirstBroken s k × (3 < k)
  pub held : rest_why s m (rows_at m s next first_row_line) ≡ Ok tt → Held n b (words_of (rows_at m s next first_row_line))
  pub count : rest_why s m (rows_at m s next first_row_line) ≡ Ok tt → row_count (words_of (rows_at m s next first_row_line)) ≡ m

end_is : (s : List ℕ) (m : ℕ) (r : RowsRead) → end_why s (first_row_line + row_lines * m) r ≡ rest_why s m r
end_is s m (rows words next) = refl
end_is s m (broken_at line) = refl

three-lines : (s : List ℕ) (n a b c m next : ℕ) → number_line s 0 vars_key ≡ Some (n, a) → number_line s a budget_key ≡ Some (b, c)
    → number_line s c rows_key ≡ Some (m, next) → HeadLines s n b m next
unfolding first_lines
three-lines s n a b c m next p q r =
    record {
      form =
          record {
            variables = n;
            budget = b;
            table = blank m;
            held = words-held s n a p b c q m next r (blank m) (blank-long m) (blank-held m);
            alike = more-lines s n a p b c q m next r 0 (blank m) (blank-long m) refl;
          };
      same = figures-same s n a p b c q m next r 0;
      faulted = λ k e.
          let placed = rest-placed m s next first_row_line k (number_at s c rows_key m next r).inside (end_is s m (rows_at m s next first_row_line) ∙ e) in
          (rest-broken s n a p b c q m next r k placed, omega (arith, placed.place));
      held = λ e.
          let body = rest-words s m (rows_at m s next first_row_line) e in
          let found = rows-found m s next first_row_line (words_of (rows_at m s next first_row_line)) (length s) body in
          words-held s n a p b c q m next r (words_of (rows_at m s next first_row_line)) found.long found.held;
      count = λ e.
          let body = rest-words s m (rows_at m s next first_row_line) e in
          count_of _ m (rows-found m s next first_row_line (words_of (rows_at m s next first_row_line)) (length s) body).long;
    }

-- what the reader's head says of the lines
abbrev pub HeadSays : List ℕ → Result HeadRead ℕ → Type 0
HeadSays s (Ok head) = HeadLines s head.variables head.budget head.rows head.next
HeadSays s (Err k) = FirstBroken s k × (k ≤ 3)

pub head-says : (s : List ℕ) → HeadSays s (head_at s)
head-says s = first (number_line s 0 vars_key) refl
  where
    third : (n a b c : ℕ) → number_line s 0 vars_key ≡ Some (n, a) → number_line s a budget_key ≡ Some (b, c)
        → (r : Option (ℕ × ℕ)) → number_line s c rows_key ≡ r → HeadSays s (head_at s)
    third n a b c p q None r =
        subst (HeadSays s) (sym (head-no-rows s n a b c p q r)) (rows-broken s n a p b c q r, omega arith)
    third n a b c p q (Some (m, next)) r =
        subst (HeadSays s) (sym (head-is s n a b c m next p q r)) (three-lines s n a b c m next p q r)

    second : (n a : ℕ) → number_line s 0 vars_key ≡ Some (n, a) → (r : Option (ℕ × ℕ)) → number_line s a budget_key ≡ r → HeadSays s (head_at s)
    second n a p None q = subst (HeadSays s) (sym (head-no-budget s n a p q)) (budget-broken s n a p q, omega arith)
    second n a p (Some (b, c)) q = third n a b c p q (number_line s c rows_key) refl

    first : (r : Option (ℕ × ℕ)) → number_line s 0 vars_key ≡ r → HeadSays s (head_at s)
    first None p = subst (HeadSays s) (sym (head-no-vars s p)) (vars-broken s p, omega arith)
    first (Some (n, a)) p = second n a p (number_line s a budget_key) refl

-- ---- the form itself

-- a text has one first line that breaks the form
pub one_place : (s : List ℕ) (j k : ℕ) → FirstBroken s j → FirstBroken s k → j ≡ k
one_place s j k p q =
    ⊎_elim (λ (l : j < k). absurd (p.breaks (q.before j l)))
    (λ (g : k ≤ j). ⊎_elim (λ (l : k < j). absurd (q.breaks (p.before k l))) (λ (h : j ≤ k). omega arith) (lt-or-le k j))
    (lt-or-le j k)

-- what is written is in the form, to any line
pub written-in-form : (s : List ℕ) (n b : ℕ) (table : List ℕ) (k : ℕ) → Held n b table → s ≡ table_text n b table → InForm s k
written-in-form s n b table k h e = record { variables = n; budget = b; table = table; held = h; alike = ap (first_lines k) e }

-- ---- a text that ends early, and one that goes on

-- a line that is ended, of a text that goes on to a written one, is in the form
pub ends-early : (s more : List ℕ) (n b : ℕ) (table : List ℕ) → Held n b table → s ++ more ≡ table_text n b table
    → (k : ℕ) → FirstBroken s k → (bytes : List ℕ) → line_at k s ≡ ended bytes → ⊥
unfolding line_at
ends-early s more n b table held e zero broken bytes q = impossible (cc)
ends-early s more n b table held e (suc k) broken bytes q =
    broken.breaks
    (record {
      variables = n;
      budget = b;
      table = table;
      held = held;
      alike = sym (lines_more k s more bytes q) ∙ ap (first_lines (suc k)) e;
    })

-- what follows the last row is read as what follows it
pub goes_on : (n b : ℕ) (table more : List ℕ) → Held n b table → 0 < length more
    → FirstBroken (table_text n b table ++ more) (first_row_line + row_lines * row_count table)
goes_on n b table more held some =
    let m = row_count table in
    let t = table_text n b table in
    let s : List ℕ = t ++ more in
    let text = rows_text table m in
    let stand : stands s 0 (head_text n b m text) ≡ true = rw (← table-text n b table) (stands-of-drop s 0 t more refl) in
    let head = head-reads s n b m text held.variables-digits held.budget-digits held.rows-digits stand in
    let end : head_end n b m + length text ≡ length t = sym (ap length (table-text n b table) ∙ head-length n b m text) in
    let body : rows_at m s (head_end n b m) first_row_line ≡ rows table (length t) =
    rows-read-back m s (head_end n b m) first_row_line table held.whole held.rows head.1 ∙ ap (rows table) end in
    let far : length t ≡ length s → ⊥ = λ z. omega (arith, length-append t more) in
    let why : rest_why s m (rows_at m s (head_end n b m) first_row_line) ≡ Err (BadText (first_row_line + row_lines * m)) =
    rw (body, ne_eqb (length t) (length s) far) in
    let lines = subst (HeadSays s) head.0 (head-says s) in
    (lines.faulted (first_row_line + row_lines * m) why).0
