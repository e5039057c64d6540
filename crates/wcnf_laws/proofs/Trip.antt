-- What is written of an admissible table is read back: it is a text of the form, with one space in each gap, that says of each row its weight and its literals,
-- and of a hard row top. Each soft weight is below the sum of all and one more, so that the hard rows alone are read as hard.
use Rattle.std.specs.Prelude.{Ok, Err}
use Prim.Native.Nat.{ℕ, zero, suc, ◌+◌, ◌*◌, ◌^◌, ◌<◌, ◌≤◌}
use mathlib.Core.Path.{◌≡◌, refl, sym, ap, ap₂, ◌∙◌}
use mathlib.Core.Bool.{Bool, true, false, cond}
use mathlib.Core.List.{List, [], ◌∷◌, ◌++◌, append_assoc, append-nil}
use native.Mathlib.Nat.{add-zero, lt_of_lt_of_le}
use native.Mathlib.Omega.{arith}
use borrow.Author.Tests.{eqb-true, eqb-false, lt-ltb, le-ltb, le-leb, lt-leb}
use lib.Bits.{bit_and}
use lib.Dec.{eqb}
use lib.IntN.{ℤ, pos, negsuc}
use lib.ListN.{length, drop}
use lib.Pow.{pow_mono}
use Rattle.masks.specs.Masks.{has, none}
use Rattle.masks.proofs.Bits.{below-lt}
use Rattle.masks.proofs.Sums.{le-sum}
use Rattle.literals.specs.declared.Lits.{Lits}
use Rattle.literals.specs.Literal.{most_variables, size}
use Rattle.literals.proofs.TwoMasks as Two
use Rattle.rules.specs.declared.Row.{Row}
use Rattle.rules.specs.declared.Refusal.TheVariants.{NoRoom}
use Rattle.rules.specs.Table.{row_words, most_rows, hard_mark, is_hard, row_of, row_count, row_words_of, bad_lits, table_why}
use Rattle.rules.specs.Text.{bytes, line_feed, space, minus, digit_zero, most_digits, number_text, text_why}
use Rattle.rules.specs.Wcnf.{top_of, spaced_literal, spaced_lits, clause_text, clauses_text, wcnf_text}
use Rattle.rules.specs.WcnfReader.{lits_of_members, clause_row, wcnf_read_why, wcnf_words, wcnf_read, wcnf_table, file_says}
use Rattle.rules.specs.Wcnf.{wcnf_write_why}
use Rattle.rules.proofs.Admissible.{RowFine, TableFine, table-fine}
use Rattle.rules.proofs.Judging.{order-fine, words-fine}
use Rattle.text_laws.proofs.LentBytes.{text-written, text-at-front}
use Rattle.text_laws.proofs.Rows.{words_from, words-all}
use Rattle.wcnf_laws.specs.Back.{ReadBack, Returns}
use Rattle.wcnf_laws.specs.Form.{gap, literals_bytes, ClauseLine, clause_bytes, HeaderLine, header_bytes, Form, lines_text, under_comments, form_text}
use Rattle.wcnf_laws.specs.Form.{Each, LiteralHeld, ClauseHeld, Held, numbers_of, clauses_said}
use Rattle.wcnf_laws.specs.Order.{faults_first}
use Rattle.wcnf_laws.specs.Given.{figures_first}
use Rattle.wcnf_laws.proofs.Literals.{members_of, lits-back, bad-back}
use Rattle.wcnf_laws.proofs.Members.{words_of_clauses}
use Rattle.wcnf_laws.proofs.HeaderLines.{p_code, wcnf_name}
use Rattle.wcnf_laws.proofs.Orders.{whole-judged}
use Rattle.wcnf_laws.proofs.Says.{figured, form-words}

-- ---- a row's line

-- each literal behind one space
unfoldable pub spaced : List ℤ → List (ℕ × ℤ)
spaced [] = []
spaced (l ∷ ls) = (0, l) ∷ spaced ls

spaced-said : (ls : List ℤ) → numbers_of (spaced ls) ≡ ls
unfolding spaced numbers_of
spaced-said [] = refl
spaced-said (l ∷ ls) = ap (λ (x : List ℤ). l ∷ x) (spaced-said ls)

abbrev closing_zero : List ℕ
closing_zero = space ∷ digit_zero ∷ []

spaced-bytes : (n v : ℕ) (l : Lits) → spaced_lits v n l ++ closing_zero ≡ literals_bytes (spaced (members_of v n l)) 0
unfolding spaced_lits spaced_literal members_of spaced literals_bytes gap
spaced-bytes zero v l = refl
spaced-bytes (suc n) v l =
    append_assoc (spaced_literal v l) (spaced_lits (suc v) n l) closing_zero
    ∙ ap (λ (x : List ℕ). spaced_literal v l ++ x) (spaced-bytes n (suc v) l)
    ∙ go (has l.positive v) (has l.negative v)
  where
    more : List ℤ
    more = members_of (suc v) n l

    go : (p q : Bool) → cond p (space ∷ number_text (suc v)) (cond q (space ∷ minus ∷ number_text (suc v)) []) ++ literals_bytes (spaced more) 0
        ≡ literals_bytes (spaced (cond p (pos (suc v) ∷ more) (cond q (negsuc v ∷ more) more))) 0
    go true q = refl
    go false true = refl
    go false false = refl

spaced-held : (n v : ℕ) (l : Lits) → v + n ≤ most_variables → Each LiteralHeld (spaced (members_of v n l))
unfolding members_of spaced size
spaced-held zero v l small = tt
spaced-held (suc n) v l small = go (has l.positive v) (has l.negative v) (spaced-held n (suc v) l (omega arith))
  where
    more : List ℤ
    more = members_of (suc v) n l

    go : (p q : Bool) → Each LiteralHeld (spaced more) → Each LiteralHeld (spaced (cond p (pos (suc v) ∷ more) (cond q (negsuc v ∷ more) more)))
    go true q ih = (record { some = omega arith; digits = omega arith }, ih)
    go false true ih = (record { some = omega arith; digits = omega arith }, ih)
    go false false ih = ih

-- what stands for its weight
abbrev line_weight : ℕ → Row → ℕ
line_weight top row = cond (is_hard row) top row.weight

unfoldable pub line_of : ℕ → Row → ClauseLine
line_of top row = record { weight = line_weight top row; literals = spaced (members_of 0 most_variables row.lits); last = 0 }

clause-written : (top : ℕ) (row : Row) (rest : List ℕ) → clause_text top row ++ rest ≡ clause_bytes (line_of top row) ++ (line_feed ∷ rest)
unfolding clause_text clause_bytes line_of bytes
clause-written top row rest =
    let w = number_text (line_weight top row) in
    let l = spaced_lits 0 most_variables row.lits in
    append_assoc w (l ++ (space ∷ digit_zero ∷ line_feed ∷ [])) rest
    ∙ ap (λ (x : List ℕ). w ++ x)
    (append_assoc l (space ∷ digit_zero ∷ line_feed ∷ []) rest
    ∙ sym (append_assoc l closing_zero (line_feed ∷ rest))
    ∙ ap (λ (x : List ℕ). x ++ (line_feed ∷ rest)) (spaced-bytes most_variables 0 row.lits))
    ∙ sym (append_assoc w (literals_bytes (spaced (members_of 0 most_variables row.lits)) 0) (line_feed ∷ rest))

-- ---- the lines of a table from row i on

unfoldable pub lines_of : ℕ → ℕ → ℕ → List ℕ → List ClauseLine
lines_of top zero i table = []
lines_of top (suc d) i table = line_of top (row_of table i) ∷ lines_of top d (suc i) table

lines_long : (top d i : ℕ) (table : List ℕ) → length (lines_of top d i table) ≡ d
unfolding lines_of
lines_long top zero i table = refl
lines_long top (suc d) i table = ap suc (lines_long top d (suc i) table)

clauses-split : (top : ℕ) (table : List ℕ) (d i : ℕ) → clauses_text top table (i + d) ≡ clauses_text top table i ++ lines_text (lines_of top d i table)
unfolding clauses_text lines_text lines_of
clauses-split top table zero i = rw (add-zero i, append-nil (clauses_text top table i))
clauses-split top table (suc d) i =
    let p : i + suc d ≡ suc i + d = omega arith in
    let row = row_of table i in
    let rest = lines_text (lines_of top d (suc i) table) in
    rw p
    (clauses-split top table d (suc i)
    ∙ append_assoc (clauses_text top table i) (clause_text top row) rest
    ∙ ap (λ (x : List ℕ). clauses_text top table i ++ x) (clause-written top row rest))

clauses-all : (top : ℕ) (table : List ℕ) (m : ℕ) → clauses_text top table m ≡ lines_text (lines_of top m 0 table)
unfolding clauses_text
clauses-all top table m = let p : m ≡ 0 + m = omega arith in ap (clauses_text top table) p ∙ clauses-split top table m 0

-- ---- the text

abbrev pub header_of_table : ℕ → List ℕ → HeaderLine
header_of_table n table =
    record {
      variables = n;
      clauses = row_count table;
      top = top_of table;
      name-gap = 0;
      variables-gap = 0;
      clauses-gap = 0;
      top-gap = 0;
    }

abbrev pub written_form : ℕ → List ℕ → Form
written_form n table = record { comments = []; header = header_of_table n table; lines = lines_of (top_of table) (row_count table) 0 table }

-- the writer's text is of the form
pub written-form : (n : ℕ) (table : List ℕ) → wcnf_text n table ≡ form_text (written_form n table)
unfolding wcnf_text form_text under_comments header_bytes gap bytes
written-form n table =
    let v = number_text n in
    let m = number_text (row_count table) in
    let t = number_text (top_of table) in
    let rest = lines_text (lines_of (top_of table) (row_count table) 0 table) in
    ap (λ (x : List ℕ). p_code ∷ space ∷ (wcnf_name ++ (space ∷ (v ++ (space ∷ (m ++ (space ∷ (t ++ (line_feed ∷ x)))))))))
    (clauses-all (top_of table) table (row_count table))
    ∙ ap (λ (x : List ℕ). p_code ∷ space ∷ (wcnf_name ++ (space ∷ x)))
    (sym (append_assoc v (space ∷ (m ++ (space ∷ t))) (line_feed ∷ rest)
    ∙ ap (λ (x : List ℕ). v ++ (space ∷ x)) (append_assoc m (space ∷ t) (line_feed ∷ rest))))

-- ---- an admissible table

-- a row that reads without a fault
record Faultless (n top : ℕ) (row : Row) : Type 0 where
  pub held : Two.Held row.lits
  pub parted : bit_and row.lits.positive row.lits.negative ≡ 0
  pub good : bad_lits n row.lits ≡ false
  pub light : line_weight top row < 10 ^ most_digits
  pub back : clause_row top (line_weight top row) row.lits ≡ row

-- a hard row is read back by its top, and a soft one by its weight, which is below top
row_back : (n top : ℕ) (row : Row) → RowFine n row → row.weight < top → clause_row top (line_weight top row) row.lits ≡ row
unfolding is_hard
row_back n top row f under = go (eqb row.mark hard_mark) refl
  where
    zero_of : (m : ℕ) → m ≤ hard_mark → (m ≡ hard_mark → ⊥) → 0 ≡ m
    zero_of zero l h = refl
    zero_of (suc zero) l h = absurd (h refl)
    zero_of (suc (suc m)) l h = absurd (omega arith)

    go : (b : Bool) → eqb row.mark hard_mark ≡ b → clause_row top (cond (eqb row.mark hard_mark) top row.weight) row.lits ≡ row
    go true e =
        let hard = eqb-true row.mark hard_mark e in
        let light = f.weightless e in
        rw (e, le-leb top top (omega arith)) (λ t. record { lits = row.lits; weight = sym light t; mark = sym hard t })
    go false e =
        let apart = eqb-false row.mark hard_mark e in
        let soft : 0 ≡ row.mark = zero_of row.mark f.mark apart in
        rw (e, lt-leb top row.weight under) (λ t. record { lits = row.lits; weight = row.weight; mark = soft t })

line-light : (n top : ℕ) (row : Row) → RowFine n row → top < 10 ^ most_digits → line_weight top row < 10 ^ most_digits
line-light n top row f small = go (is_hard row)
  where
    go : (b : Bool) → cond b top row.weight < 10 ^ most_digits
    go true = small
    go false = omega (arith, f.light)

row-faultless : (n top : ℕ) (row : Row) → n ≤ most_variables → RowFine n row → top < 10 ^ most_digits → row.weight < top → Faultless n top row
unfolding bad_lits none
row-faultless n top row h f small under =
    record {
      held =
          record {
            positives = lt_of_lt_of_le (below-lt row.lits.positive n f.positive) (pow_mono h);
            negatives = lt_of_lt_of_le (below-lt row.lits.negative n f.negative) (pow_mono h);
          };
      parted = f.apart;
      good = rw (f.apart, f.positive, f.negative);
      light = line-light n top row f small;
      back = row_back n top row f under;
    }

under_top : (table : List ℕ) (i : ℕ) → i < row_count table → (row_of table i).weight < top_of table
unfolding top_of
under_top table i l = omega (arith, le-sum (row_count table) (λ j. (row_of table j).weight) i l)

top_small : (n : ℕ) (table : List ℕ) → TableFine n table → top_of table < 10 ^ most_digits
unfolding top_of
top_small n table fine = omega (arith, fine.light)

module _ (n top : ℕ) (table : List ℕ) where
  abbrev AllFaultless : ℕ → ℕ → Type 0
  AllFaultless d i = (j : ℕ) → i ≤ j → j < i + d → Faultless n top (row_of table j)

  abbrev said_from : ℕ → ℕ → List (ℕ × List ℤ)
  said_from d i = clauses_said (lines_of top d i table)

  lines-held : (d i : ℕ) → AllFaultless d i → Each ClauseHeld (lines_of top d i table)
  unfolding lines_of line_of
  lines-held zero i w = tt
  lines-held (suc d) i w = (
    record { light = (w i (omega arith) (omega arith)).light; each = spaced-held most_variables 0 (row_of table i).lits (omega arith) },
    lines-held d (suc i) (λ j low high. w j (omega arith) (omega arith)),
  )

  none-faulted : (d i k : ℕ) → AllFaultless d i → faults_first k n (said_from d i) (Ok tt) ≡ Ok tt
  unfolding lines_of line_of clauses_said faults_first
  none-faulted zero i k w = refl
  none-faulted (suc d) i k w =
      let row = row_of table i in
      let f = w i (omega arith) (omega arith) in
      rw (
        spaced-said (members_of 0 most_variables row.lits),
        bad-back n row.lits f.held f.parted,
        f.good,
      )
      (none-faulted d (suc i) (suc k) (λ j low high. w j (omega arith) (omega arith)))

  said-words : (d i : ℕ) → AllFaultless d i → words_of_clauses top (said_from d i) ≡ words_from d i table
  unfolding lines_of line_of clauses_said words_of_clauses words_from
  said-words zero i w = refl
  said-words (suc d) i w =
      let row = row_of table i in
      let f = w i (omega arith) (omega arith) in
      let lits = ap lits_of_members (spaced-said (members_of 0 most_variables row.lits)) ∙ lits-back row.lits f.held f.parted in
      ap₂ (λ (r : Row) (words : List ℕ). row_words_of r ++ words)
      (ap (clause_row top (line_weight top row)) lits ∙ f.back)
      (said-words d (suc i) (λ j low high. w j (omega arith) (omega arith)))

module _ (n : ℕ) (table : List ℕ) (ok : table_why n table ≡ Ok tt) where
  abbrev text : List ℕ
  text = wcnf_text n table

  abbrev f : Form
  f = written_form n table

  fine : TableFine n table
  fine = table-fine n table ok

  all-faultless : AllFaultless n (top_of table) table (row_count table) 0
  all-faultless j low high =
      let l : j < row_count table = omega arith in
      row-faultless n (top_of table) (row_of table j) fine.variables (fine.rows j l) (top_small n table fine) (under_top table j l)

  pub written_held : Held f
  written_held =
      record {
        comments = tt;
        header =
            record {
              variables-digits = omega (arith, fine.variables);
              clauses-digits = omega (arith, fine.few);
              top_digits = top_small n table fine;
            };
        lines = lines-held n (top_of table) table (row_count table) 0 all-faultless;
        whole = lines_long (top_of table) (row_count table) 0 table;
      }

  judged : (room : ℕ) → wcnf_read_why most_rows text room ≡ figures_first most_rows room (header_of_table n table) (Ok tt)
  judged room =
      whole-judged text most_rows room f written_held (written-form n table)
      ∙ ap (figures_first most_rows room (header_of_table n table)) (none-faulted n (top_of table) table (row_count table) 0 0 all-faultless)

  all_words : wcnf_words text ≡ table
  all_words =
      form-words text f written_held (written-form n table)
      ∙ said-words n (top_of table) table (row_count table) 0 all-faultless
      ∙ words-all (row_count table) table fine.whole

  why-fine : (room : ℕ) → length table ≤ room → wcnf_read_why most_rows text room ≡ Ok tt
  why-fine room h =
      judged room
      ∙ rw (
        le-ltb most_variables n fine.variables,
        le-ltb most_rows (row_count table) fine.few,
        le-ltb room (row_words * row_count table) (omega (arith, fine.whole)),
      )

  why-tight : (room : ℕ) → room < length table → wcnf_read_why most_rows text room ≡ Err NoRoom
  why-tight room h =
      judged room
      ∙ rw (
        le-ltb most_variables n fine.variables,
        le-ltb most_rows (row_count table) fine.few,
        lt-ltb room (row_words * row_count table) (omega (arith, fine.whole)),
      )

  answered : (room : ℕ) → length table ≤ room → wcnf_read most_rows text room ≡ Ok (file_says n (row_count table))
  unfolding wcnf_read
  answered room h = rw (why-fine room h, (figured text f written_held (written-form n table)).header)

  lent-words : (found : List ℕ) → length table ≤ length found → wcnf_table most_rows text found ≡ table ++ drop (length table) found
  unfolding wcnf_table
  lent-words found h =
      words-fine (wcnf_read_why most_rows text (length found)) (wcnf_words text ++ drop (length (wcnf_words text)) found) found (why-fine (length found) h)
      ∙ ap (λ (words : List ℕ). words ++ drop (length words) found) all_words

  pub read_back : ReadBack n table
  read_back =
      let x = figured text f written_held (written-form n table) in
      record {
        next = x.next;
        header = x.header;
        words = all_words;
        fine = why-fine;
        tight = why-tight;
        answer = answered;
        lent = lent-words;
      }

-- ---- what an accepted writer leaves

pub returns : (n : ℕ) (table out : List ℕ) → wcnf_write_why n table out ≡ Ok tt → Returns n table out
unfolding text_why
returns n table out e =
    let text = wcnf_text n table in
    let ok = (order-fine (table_why n table) _ e).0 in
    let back = read_back n table ok in
    let front = text-at-front (table_why n table) text out e in
    record {
      count = length text;
      written = (text-written (table_why n table) text out e).0;
      answer = λ room h. ap (λ (s : List ℕ). wcnf_read most_rows s room) front ∙ back.answer room h;
      lent = λ found h. ap (λ (s : List ℕ). wcnf_table most_rows s found) front ∙ back.lent found h;
    }
