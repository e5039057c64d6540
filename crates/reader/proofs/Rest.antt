-- What is read behind the first three lines, refused or fine, is what the whole text comes to.
use Rattle.std.specs.Prelude.{Result, Ok, Err}
use Prim.Native.Nat.{ℕ, ◌*◌, ◌≤◌}
use mathlib.Core.Path.{◌≡◌, refl, ◌∙◌}
use mathlib.Core.Bool.{true}
use mathlib.Core.List.{List}
use lib.ListN.{length}
use lib.Seq.{sets}
use Rattle.rules.specs.declared.Refusal.{Refusal}
use Rattle.rules.specs.Refusals.{Judged}
use Rattle.rules.specs.declared.HeadRead.{HeadRead}
use Rattle.rules.specs.declared.TextRead.{TextRead}
use Rattle.rules.specs.Table.{row_words}
use Rattle.rules.specs.Reader.{first_row_line, text_says, three_lines, head_at, rows_at, words_of, head_why, text_read, read_table}
use Rattle.text_laws.specs.Ends.{unbroken}
use Rattle.text_laws.proofs.Matched.{matched}
use Rattle.text_laws.proofs.Branches.{rest-unbroken}
use Rattle.text_laws.proofs.Reading.{head-fine, read-refused, read-fine}
use Rattle.reader.specs.Rest.{read_behind, stored_behind}

module _ (most : ℕ) (s table : List ℕ) (n b m next : ℕ) (j : Judged) (why : j ≡ head_why most s (length table) (Ok (three_lines n b m next))) where
  pub behind-refused : (r : Refusal) → j ≡ Err r
      → (Err r ≡ read_behind most s (length table) n b m next) × (table ≡ stored_behind most s table n b m next)
  unfolding read_behind stored_behind
  behind-refused r e = let f = matched why e in (rw f, rw f)

  pub behind-fine : j ≡ Ok tt
      → (Ok (text_says n b m) ≡ read_behind most s (length table) n b m next)
      × (sets table 0 (words_of (rows_at m s next first_row_line)) ≡ stored_behind most s table n b m next)
  unfolding read_behind stored_behind
  behind-fine e = let f = matched why e in (rw f, rw f)

  -- what storing the rows expects
  pub behind-stored : j ≡ Ok tt → (row_words * m ≤ length table) × (unbroken (rows_at m s next first_row_line) ≡ true)
  behind-stored e =
      let fine = head-fine most s (length table) n b m next (matched why e) in
      (fine.fits, rest-unbroken s m (rows_at m s next first_row_line) fine.rest)

  behind-all : head_at s ≡ Ok (three_lines n b m next)
      → (read_behind most s (length table) n b m next ≡ text_read most s (length table)) × (stored_behind most s table n b m next ≡ read_table most s table)
  behind-all h = go j refl
    where
      go : (k : Judged) → j ≡ k
          → (read_behind most s (length table) n b m next ≡ text_read most s (length table)) × (stored_behind most s table n b m next ≡ read_table most s table)
      go (Ok _) e =
          let here = behind-fine e in
          let all = read-fine most s table n b m next h (matched why e) in
          (matched here.0 all.0, matched here.1 all.1)
      go (Err r) e =
          let here = behind-refused r e in
          let all = read-refused most s table n b m next r h (matched why e) in
          (matched here.0 all.0, matched here.1 all.1)

pub behind-read : (most : ℕ) (s table : List ℕ) (n b m next : ℕ) (head : Result HeadRead ℕ) (answer : Result TextRead Refusal) (after : List ℕ)
    → head ≡ head_at s → head ≡ Ok (three_lines n b m next)
    → (answer ≡ read_behind most s (length table) n b m next) × (after ≡ stored_behind most s table n b m next)
    → (answer ≡ text_read most s (length table)) × (after ≡ read_table most s table)
behind-read most s table n b m next head answer after h e rest =
    let all = behind-all most s table n b m next (head_why most s (length table) (Ok (three_lines n b m next))) refl (matched h e) in
    (rest.0 ∙ all.0, rest.1 ∙ all.1)
