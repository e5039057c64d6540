-- What a competition file that is read says of its figures and its words.
use Rattle.std.specs.Prelude.{Option, Some, None, Result, Ok, Err}
use Prim.Native.Nat.{ℕ, zero, suc, ◌+◌, ◌*◌, ◌≤◌}
use mathlib.Core.Path.{◌≡◌, refl, ap}
use mathlib.Core.List.{List, [], ◌∷◌, ◌++◌}
use native.Mathlib.Omega.{arith}
use borrow.Author.Tests.{ltb-false}
use lib.Dec.{ltb}
use lib.ListN.{length, take, drop, length-append}
use lib.Seq.{take_at}
use Rattle.masks.proofs.Choice.{impossible, ok-same}
use Rattle.literals.specs.Literal.{most_variables}
use Rattle.rules.specs.declared.Refusal.{Refusal}
use Rattle.rules.specs.declared.Refusal.TheVariants.{TooManyVariables, BadTable, NoRoom, BadLiterals, BadText}
use Rattle.rules.specs.declared.WcnfHead.{WcnfHead}
use Rattle.rules.specs.declared.WcnfRead.{WcnfRead}
use Rattle.rules.specs.Refusals.{Judged, ◌when◌, as_in, first_due}
use Rattle.rules.specs.Table.{row_words, row_words_of}
use Rattle.rules.specs.Reader.{number_at, on_number}
use Rattle.rules.specs.WcnfReader.{MembersRead, members, broken_line, on_members, members_from, lits_of_members, bad_members}
use Rattle.rules.specs.WcnfReader.{clauses_why, clause_row, clauses_words}
use Rattle.rules.specs.WcnfReader.{header_of, header_why, wcnf_read_why, wcnf_words, wcnf_read_as, wcnf_read, wcnf_table, file_says, header_says}
use Rattle.rules.proofs.Judging.{refuse-fine, words-fine}
use Rattle.text_laws.proofs.RowWords.{row_words_lem}

-- ---- clauses that are all fine make a row each

module _ (m n top : ℕ) (s : List ℕ) (ih : (i at line : ℕ) → clauses_why m i n s at line ≡ Ok tt → length (clauses_words m top s at) ≡ row_words * m) where
  by_members : (i line w : ℕ) (r : MembersRead)
      → on_members r (Err (BadText line)) (λ ls next.
      first_due (BadLiterals i when bad_members n ls ∷ as_in (clauses_why m (suc i) n s next (line + 1)) ∷ []))
      ≡ Ok tt
      → length (on_members r [] (λ ls next. row_words_of (clause_row top w (lits_of_members ls)) ++ clauses_words m top s next)) ≡ row_words * suc m
  by_members i line w (members ls next) e =
      let p1 = refuse-fine (bad_members n ls) (BadLiterals i) _ e in
      let row = clause_row top w (lits_of_members ls) in
      rw (length-append (row_words_of row) (clauses_words m top s next)) (omega (arith, row_words_lem row, ih (suc i) next (line + 1) p1.1))
  by_members i line w broken_line e = impossible (cc)

  by_number : (i line : ℕ) (p : Option (ℕ × ℕ))
      → on_number p (Err (BadText line)) (λ w next.
      on_members (members_from (length s) s next) (Err (BadText line)) (λ ls next.
      first_due (BadLiterals i when bad_members n ls ∷ as_in (clauses_why m (suc i) n s next (line + 1)) ∷ [])))
      ≡ Ok tt
      → length
      (on_number p [] (λ w next.
      on_members (members_from (length s) s next) [] (λ ls next. row_words_of (clause_row top w (lits_of_members ls)) ++ clauses_words m top s next)))
      ≡ row_words * suc m
  by_number i line (Some (w, next)) e = by_members i line w (members_from (length s) s next) e
  by_number i line None e = impossible (cc)

clauses-count : (m i n top : ℕ) (s : List ℕ) (at line : ℕ) → clauses_why m i n s at line ≡ Ok tt → length (clauses_words m top s at) ≡ row_words * m
unfolding clauses_why clauses_words
clauses-count zero i n top s at line e = refl
clauses-count (suc m) i n top s at line e =
    by_number m n top s (λ j p l. clauses-count m j n top s p l) i line (number_at s at) e

-- ---- the figures

pub record ReadFine (most : ℕ) (s : List ℕ) (room n m : ℕ) : Type 0 where
  pub fine : wcnf_read_why most s room ≡ Ok tt
  pub variables : n ≤ most_variables
  pub few : m ≤ most
  pub count : length (wcnf_words s) ≡ row_words * m

-- of a header whose file is fine
header-fine : (most : ℕ) (s : List ℕ) (room n m top next line : ℕ) → header_of s ≡ Ok (header_says n m top next line)
    → header_why most s room (Ok (header_says n m top next line)) ≡ Ok tt → ReadFine most s room n m
unfolding wcnf_read_why wcnf_words
header-fine most s room n m top next line h e =
    let p1 = refuse-fine (ltb most_variables n) TooManyVariables _ e in
    let p2 = refuse-fine (ltb most m) BadTable _ p1.1 in
    let p3 = refuse-fine (ltb room (row_words * m)) NoRoom _ p2.1 in
    record {
      fine = rw h e;
      variables = ltb-false most_variables n p1.0;
      few = ltb-false most m p2.0;
      count = rw h (clauses-count m 0 n top s next (line + 1) p3.1);
    }

pub read-fine : (most : ℕ) (s : List ℕ) (room n m : ℕ) → wcnf_read most s room ≡ Ok (file_says n m) → ReadFine most s room n m
unfolding wcnf_read wcnf_read_why
read-fine most s room n m h = go (header_of s) refl
  where
    judged : (v k top next line : ℕ) (j : Judged) → header_why most s room (Ok (header_says v k top next line)) ≡ j
        → wcnf_read_as j (Ok (header_says v k top next line)) ≡ Ok (file_says n m) → header_of s ≡ Ok (header_says v k top next line)
        → ReadFine most s room n m
    judged v k top next line (Ok _) why q e =
        let same = ok-same q in
        let v-is : v ≡ n = ap (λ (x : WcnfRead). x.variables) same in
        let k-is : k ≡ m = ap (λ (x : WcnfRead). x.rows) same in
        rw (← v-is, ← k-is) (header-fine most s room v k top next line e why)
    judged v k top next line (Err r) why q e = impossible (cc)

    go : (x : Result WcnfHead ℕ) → header_of s ≡ x → ReadFine most s room n m
    go (Ok head) e =
        let h2 : wcnf_read_as (header_why most s room (Ok head)) (Ok head) ≡ Ok (file_says n m) = rw e at h in
        judged head.variables head.clauses head.top head.next head.line (header_why most s room (Ok head)) refl h2 e
    go (Err bad) e =
        let h2 : ◌≡◌ {A = Result WcnfRead Refusal} (Err (BadText bad)) (Ok (file_says n m)) = rw e at h in
        impossible (cc)

-- the words of the rows stand at the front of the table
pub front-words : (most : ℕ) (s table : List ℕ) (n m : ℕ) → wcnf_read most s (length table) ≡ Ok (file_says n m)
    → take (row_words * m) (wcnf_table most s table) ≡ wcnf_words s
unfolding wcnf_table
front-words most s table n m h =
    let read = read-fine most s (length table) n m h in
    rw (words-fine (wcnf_read_why most s (length table)) (wcnf_words s ++ drop (length (wcnf_words s)) table) table read.fine)
    (take_at (wcnf_words s) (drop (length (wcnf_words s)) table) (row_words * m) read.count)
