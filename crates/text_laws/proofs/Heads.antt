-- The first three lines: written, they are read as their numbers; read, they stand there as they are written. Each begins where the one
-- before it ends, and what follows them begins where the third ends.
use Rattle.std.specs.Prelude.{Option, Some, None, Ok}
use Prim.Native.Nat.{ℕ, ◌+◌, ◌<◌, ◌^◌}
use mathlib.Core.Path.{◌≡◌, refl, sym, ◌∙◌}
use mathlib.Core.Bool.{true}
use mathlib.Core.List.{List, ◌++◌}
use native.Mathlib.Omega.{arith}
use lib.ListN.{length, length-append}
use Rattle.masks.proofs.Choice.{impossible}
use Rattle.rules.specs.Table.{row_count}
use Rattle.rules.specs.Text.{bytes, line, rows_text, table_text, most_digits}
use Rattle.rules.specs.Reader.{stands, number_line, head_at, three_lines}
use Rattle.text_laws.specs.Pieces.{line_text}
use Rattle.text_laws.specs.Keys.{vars_key, budget_key, rows_key}
use Rattle.text_laws.proofs.Stands.{first-stands, second-stands, both-stand}
use Rattle.text_laws.proofs.Branches.{head-no-vars, head-no-budget, head-no-rows, head-is}
use Rattle.text_laws.proofs.Lines.{line_reads, line-found}
use Rattle.text_laws.proofs.Reading.{same_head}

-- the three lines, with what follows them
abbrev pub head_text : ℕ → ℕ → ℕ → List ℕ → List ℕ
head_text n b m rest = line_text vars_key n ++ (line_text budget_key b ++ (line_text rows_key m ++ rest))

-- the place behind them
abbrev pub head_end : ℕ → ℕ → ℕ → ℕ
head_end n b m = length (line_text vars_key n) + length (line_text budget_key b) + length (line_text rows_key m)

pub head-length : (n b m : ℕ) (rest : List ℕ) → length (head_text n b m rest) ≡ head_end n b m + length rest
head-length n b m rest =
    let one = line_text vars_key n in
    let two = line_text budget_key b in
    let three = line_text rows_key m in
    rw (length-append one (two ++ (three ++ rest)), length-append two (three ++ rest), length-append three rest) (omega arith)

pub table-text : (n b : ℕ) (table : List ℕ) → table_text n b table ≡ head_text n b (row_count table) (rows_text table (row_count table))
unfolding table_text line bytes line_text
table-text n b table = refl

pub head-reads : (s : List ℕ) (n b m : ℕ) (rest : List ℕ) → n < 10 ^ most_digits → b < 10 ^ most_digits → m < 10 ^ most_digits
    → stands s 0 (head_text n b m rest) ≡ true
    → (head_at s ≡ Ok (three_lines n b m (head_end n b m))) × (stands s (head_end n b m) rest ≡ true)
head-reads s n b m rest ln lb lm e =
    let one = line_text vars_key n in
    let two = line_text budget_key b in
    let three = line_text rows_key m in
    let p1 : 0 + length one ≡ length one = omega arith in
    let e1 : stands s (length one) (two ++ (three ++ rest)) ≡ true = rw p1 at (second-stands s 0 one (two ++ (three ++ rest)) e) in
    let e2 = second-stands s (length one) two (three ++ rest) e1 in
    let r1 : number_line s 0 vars_key ≡ Some (n, length one) = rw p1 at (line_reads s 0 vars_key n ln (first-stands s 0 one (two ++ (three ++ rest)) e)) in
    let r2 = line_reads s (length one) budget_key b lb (first-stands s (length one) two (three ++ rest) e1) in
    let r3 = line_reads s (length one + length two) rows_key m lm (first-stands s (length one + length two) three rest e2) in
    (head-is s n (length one) b (length one + length two) m (head_end n b m) r1 r2 r3, second-stands s (length one + length two) three rest e2)

pub record HeadFound (s : List ℕ) (n b m next : ℕ) : Type 0 where
  pub stand : (rest : List ℕ) → stands s next rest ≡ true → stands s 0 (head_text n b m rest) ≡ true
  pub end : next ≡ head_end n b m

found-head : (s : List ℕ) (n a b c m next : ℕ) → number_line s 0 vars_key ≡ Some (n, a) → number_line s a budget_key ≡ Some (b, c)
    → number_line s c rows_key ≡ Some (m, next) → HeadFound s n b m next
found-head s n a b c m next p q r =
    let f = line-found s 0 vars_key n a p in
    let g = line-found s a budget_key b c q in
    let h = line-found s c rows_key m next r in
    let one = line_text vars_key n in
    let two = line_text budget_key b in
    let three = line_text rows_key m in
    record {
      stand =
          λ rest e.
          both-stand s 0 one (two ++ (three ++ rest)) f.stand
          (rw (← f.end) (both-stand s a two (three ++ rest) g.stand (rw (← g.end) (both-stand s c three rest h.stand (rw (← h.end) e)))));
      end = h.end ∙ rw (g.end, f.end) (omega arith);
    }

pub head-found : (s : List ℕ) (n b m next : ℕ) → head_at s ≡ Ok (three_lines n b m next) → HeadFound s n b m next
head-found s n b m next e = first (number_line s 0 vars_key) refl
  where
    third : (v a w c : ℕ) → number_line s 0 vars_key ≡ Some (v, a) → number_line s a budget_key ≡ Some (w, c)
        → (r : Option (ℕ × ℕ)) → number_line s c rows_key ≡ r → HeadFound s n b m next
    third v a w c p q None r =
        let z = head-no-rows s v a w c p q r in
        impossible (cc)
    third v a w c p q (Some (x, d)) r =
        let same = same_head (sym (head-is s v a w c x d p q r) ∙ e) in
        rw (← same.0, ← same.1, ← same.2, ← same.3) (found-head s v a w c x d p q r)

    second : (v a : ℕ) → number_line s 0 vars_key ≡ Some (v, a) → (r : Option (ℕ × ℕ)) → number_line s a budget_key ≡ r → HeadFound s n b m next
    second v a p None q =
        let z = head-no-budget s v a p q in
        impossible (cc)
    second v a p (Some (w, c)) q = third v a w c p q (number_line s c rows_key) refl

    first : (r : Option (ℕ × ℕ)) → number_line s 0 vars_key ≡ r → HeadFound s n b m next
    first None p =
        let z = head-no-vars s p in
        impossible (cc)
    first (Some (v, a)) p = second v a p (number_line s a budget_key) refl
