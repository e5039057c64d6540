-- What is read behind the header, refused or fine, is what the whole text comes to. Where all is fine there is room for the words, so that
-- storing them one by one is putting them in front of the rest.
use Rattle.std.specs.Prelude.{Result, Ok, Err}
use Prim.Native.Nat.{ℕ, suc, ◌+◌, ◌*◌, ◌≤◌}
use mathlib.Core.Path.{◌≡◌, refl, ◌∙◌}
use mathlib.Core.List.{List}
use native.Mathlib.Nat.{zero-add}
use native.Mathlib.Omega.{arith}
use borrow.Author.Tests.{ltb-false}
use lib.Dec.{ltb}
use lib.ListN.{length}
use lib.Seq.{sets, sets-eq}
use Rattle.literals.specs.Literal.{most_variables}
use Rattle.rules.specs.declared.Refusal.{Refusal}
use Rattle.rules.specs.declared.Refusal.TheVariants.{TooManyVariables, BadTable, NoRoom, BadText}
use Rattle.rules.specs.Refusals.{Judged}
use Rattle.rules.specs.declared.WcnfRead.{WcnfRead}
use Rattle.rules.specs.Table.{row_words}
use Rattle.rules.specs.WcnfReader.{header_of, header_why, wcnf_read_why, clauses_words, wcnf_words, wcnf_read, wcnf_table, file_says, header_says}
use Rattle.rules.proofs.Judging.{refuse-fine}
use Rattle.text_laws.proofs.Matched.{matched}
use Rattle.wcnf_reader.specs.Behind.{read_behind, stored_behind}
use Rattle.wcnf_headers.proofs.Heading.{line_small}
use Rattle.wcnf_reader.proofs.Turns.{words-length}

-- where all is fine there is room
fits : (most : ℕ) (s : List ℕ) (room n m top next line : ℕ) → header_why most s room (Ok (header_says n m top next line)) ≡ Ok tt → row_words * m ≤ room
fits most s room n m top next line e =
    let p1 = refuse-fine (ltb most_variables n) TooManyVariables _ e in
    let p2 = refuse-fine (ltb most m) BadTable _ p1.1 in
    let p3 = refuse-fine (ltb room (row_words * m)) NoRoom _ p2.1 in
    ltb-false room (row_words * m) p3.0

-- the header's line is one of the text's
pub head-line : (s : List ℕ) (n m top next line : ℕ) → header_of s ≡ Ok (header_says n m top next line) → line ≤ length s + 1
unfolding header_of
head-line s n m top next line e = omega (arith, line_small (suc (length s)) s 0 1 n m top next line e)

-- ---- behind the header

module _ (most : ℕ) (s table : List ℕ) (n m top next line : ℕ) (j : Judged)
    (why-is : j ≡ header_why most s (length table) (Ok (header_says n m top next line))) where
  abbrev answer : Result WcnfRead Refusal
  answer = read_behind most s (length table) n m top next line

  abbrev words : List ℕ
  words = stored_behind most s table n m top next line

  pub behind-refused : (r : Refusal) → j ≡ Err r → (Err r ≡ answer) × (table ≡ words)
  unfolding read_behind stored_behind
  behind-refused r e = let f = matched why-is e in (rw f, rw f)

  pub behind-fine : j ≡ Ok tt → (Ok (file_says n m) ≡ answer) × (sets table 0 (clauses_words m top s next) ≡ words)
  unfolding read_behind stored_behind
  behind-fine e = let f = matched why-is e in (rw f, rw f)

  -- what storing the rows expects
  pub behind-room : j ≡ Ok tt → row_words * m ≤ length table
  behind-room e = fits most s (length table) n m top next line (matched why-is e)

-- ---- the whole text

module _ (most : ℕ) (s table : List ℕ) where
  pub read-broken : (told : Result WcnfRead Refusal) → (line : ℕ) × (header_of s ≡ Err line) × (told ≡ Err (BadText line))
      → (told ≡ wcnf_read most s (length table)) × (table ≡ wcnf_table most s table)
  unfolding wcnf_read wcnf_table wcnf_read_why
  read-broken told r = (rw (r.2, r.1), rw r.1)

  module _ (n m top next line : ℕ) (h : header_of s ≡ Ok (header_says n m top next line)) where
    answer-is : read_behind most s (length table) n m top next line ≡ wcnf_read most s (length table)
    unfolding read_behind wcnf_read wcnf_read_why
    answer-is = rw h

    words_are : (j : Judged) → header_why most s (length table) (Ok (header_says n m top next line)) ≡ j
        → stored_behind most s table n m top next line ≡ wcnf_table most s table
    unfolding stored_behind wcnf_table wcnf_read_why wcnf_words
    words_are (Ok _) e =
        let words = clauses_words m top s next in
        let room : 0 + length words ≤ length table = omega (arith, words-length m top s next, fits most s (length table) n m top next line e) in
        rw (h, e) (sets-eq words table 0 room ∙ rw (zero-add (length words)))
    words_are (Err r) e = rw (h, e)

    pub behind-read : (told : Result WcnfRead Refusal) (after : List ℕ)
        → (told ≡ read_behind most s (length table) n m top next line) × (after ≡ stored_behind most s table n m top next line)
        → (told ≡ wcnf_read most s (length table)) × (after ≡ wcnf_table most s table)
    behind-read told after rest =
        (rest.0 ∙ answer-is, rest.1 ∙ words_are (header_why most s (length table) (Ok (header_says n m top next line))) refl)
