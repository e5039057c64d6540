-- What a text that is read says of its figures and its words.
use Rattle.std.specs.Prelude.{Result, Ok, Err}
use Prim.Native.Nat.{ℕ, ◌*◌, ◌≤◌}
use mathlib.Core.Path.{◌≡◌, refl}
use mathlib.Core.List.{List, ◌++◌}
use lib.ListN.{length, take, drop}
use lib.Seq.{take_at}
use Rattle.masks.proofs.Choice.{impossible}
use Rattle.literals.specs.Literal.{most_variables}
use Rattle.rules.specs.declared.Refusal.TheVariants.{BadText}
use Rattle.rules.specs.Refusals.{Judged}
use Rattle.rules.specs.declared.HeadRead.{HeadRead}
use Rattle.rules.specs.Table.{row_words}
use Rattle.rules.specs.Walk.{most_budget}
use Rattle.rules.specs.Reader.{head_at, head_why, read_why, read_words, read_step, text_read_as, text_read, read_table, text_says}
use Rattle.rules.proofs.Judging.{words-fine}
use Rattle.text_laws.proofs.Reading.{same_text, head-fine}
use Rattle.text_laws.proofs.Converse.{word_count}

pub record ReadFine (most : ℕ) (s : List ℕ) (room n b m : ℕ) : Type 0 where
  pub fine : read_why most s room ≡ Ok tt
  pub variables : n ≤ most_variables
  pub budget : b ≤ most_budget
  pub few : m ≤ most

pub read-fine : (most : ℕ) (s : List ℕ) (room n b m : ℕ) → text_read most s room ≡ Ok (text_says n b m) → ReadFine most s room n b m
unfolding text_read read_why
read-fine most s room n b m h = go (head_at s) refl
  where
    judged : (head : HeadRead) (j : Judged) → head_why most s room (Ok head) ≡ j → text_read_as j (Ok head) ≡ Ok (text_says n b m)
        → head_at s ≡ Ok head → ReadFine most s room n b m
    judged head (Ok _) why q e =
        let same = same_text q in
        let f = head-fine most s room head.variables head.budget head.rows head.next why in
        record {
          fine = rw e why;
          variables = rw (← same.0) f.variables;
          budget = rw (← same.1) f.budget;
          few = rw (← same.2) f.few;
        }
    judged head (Err r) why q e = impossible (cc)

    go : (x : Result HeadRead ℕ) → head_at s ≡ x → ReadFine most s room n b m
    go (Ok head) e =
        let h2 : text_read_as (head_why most s room (Ok head)) (Ok head) ≡ Ok (text_says n b m) = rw e at h in
        judged head (head_why most s room (Ok head)) refl h2 e
    go (Err bad) e =
        let h2 : Err (BadText bad) ≡ Ok (text_says n b m) = rw e at h in
        impossible (cc)

-- the words of the rows stand at the front of the table
pub front-words : (most : ℕ) (s table : List ℕ) (n b m : ℕ) → text_read most s (length table) ≡ Ok (text_says n b m)
    → take (row_words * m) (read_table most s table) ≡ read_words s
unfolding read_table read_step
front-words most s table n b m h =
    let fine = (read-fine most s (length table) n b m h).fine in
    rw (words-fine (read_why most s (length table)) (read_words s ++ drop (length (read_words s)) table) table fine)
    (take_at (read_words s) (drop (length (read_words s)) table) (row_words * m) (word_count most s (length table) n b m h))
