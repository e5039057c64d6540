-- Head and rows of a desk with room for just those rows: it is judged as their table is, and made by storing the head.
use Rattle.std.specs.Prelude.{Ok, Err}
use Prim.Native.Nat.{ℕ, ◌+◌, ◌-◌, ◌*◌, ◌%◌, ◌≤◌}
use mathlib.Core.Path.{◌≡◌, refl, sym, ap, ◌∙◌}
use mathlib.Core.List.{List, [], ◌∷◌, ◌++◌}
use mathlib.Core.Bool.{Bool, true, false, not}
use native.Mathlib.Omega.{arith}
use lib.ListN.{length, take, drop, replicate, length-append, length-drop, length-replicate}
use lib.Seq.{sets, sets-eq, take_at, take_all}
use lib.Dec.{eqb, ltb}
use borrow.Author.Tests.{ltb-false, le-ltb}
use Rattle.masks.proofs.Choice.{or_right}
use Rattle.rules.specs.declared.Refusal.{Refusal}
use Rattle.rules.specs.Refusals.{Judged}
use Rattle.rules.specs.Table.{row_words, most_rows, row_count, bad_table, table_why}
use Rattle.rules.specs.Desk.{head_words, most_capacity, most_steps, entry_words, row_place, desk_words, load_why, load_step}
use Rattle.rules.proofs.Judging.{words-fine, words-refused}
use Rattle.desk.specs.Front.{front_why, front_step, front_desk}
use Rattle.desk.specs.Lay.{head_for}

module _ (n rows : ℕ) (words : List ℕ) (long : length words ≡ head_words + row_words * rows) where
  pub front-count : row_count (drop head_words words) ≡ rows
  unfolding row_count
  front-count = simp length-drop (omega arith)

  front-few : bad_table (drop head_words words) ≡ false → row_count (drop head_words words) ≤ most_rows
  unfolding bad_table
  front-few e =
      let t = drop head_words words in
      ltb-false most_rows (row_count t) (or_right (not (eqb (length t % row_words) 0)) (ltb most_rows (row_count t)) e)

  front-judged : table_why n (take (length words - head_words) (drop head_words words)) ≡ front_why n rows words
  unfolding table_why front_why load_why
  front-judged =
      let whole = take_all (length words - head_words) (drop head_words words) (simp length-drop (omega arith)) in
      ap (table_why n) whole ∙ go (bad_table (drop head_words words)) refl
    where
      go : (bad : Bool) → bad_table (drop head_words words) ≡ bad → table_why n (drop head_words words) ≡ front_why n rows words
      go true e = rw e
      go false e =
          let counted = front-count in
          let few = front-few e in
          let room : desk_words rows ≤ length (replicate {A = ℕ} (desk_words rows) 0) = simp length-replicate (omega arith) in
          rw (
            e,
            le-ltb rows (row_count (drop head_words words)) (omega arith),
            le-ltb most_capacity rows (omega arith),
            le-ltb (length (replicate {A = ℕ} (desk_words rows) 0)) (desk_words rows) room,
          )

  front-laid : sets words 0 (head_for n rows rows) ≡ front_step n rows words
  unfolding front_step load_step head_for row_place
  front-laid =
      let table = drop head_words words in
      let head = head_for n rows rows in
      let none : List ℕ = replicate (row_words * rows - length table + most_steps * entry_words) 0 in
      let past : List ℕ = drop (desk_words rows) (replicate (desk_words rows) 0) in
      let front : length (head ++ table) ≡ head_words + row_words * rows = length-append head table ∙ simp length-drop (omega arith) in
      sets-eq head words 0 (omega arith)
      ∙ sym (take_at (head ++ table) (none ++ past) (head_words + row_words * rows) front)
      ∙ ap (λ (m : ℕ). take (row_place rows) ((n ∷ m ∷ rows ∷ 0 ∷ 0 ∷ 0 ∷ 0 ∷ m ∷ []) ++ (table ++ (none ++ past)))) (sym front-count)

  -- what storing makes of them, refused or fine
  pub front-refused : (j : Judged) (r : Refusal) → j ≡ table_why n (take (length words - head_words) (drop head_words words)) → j ≡ Err r
      → (j ≡ front_why n rows words) × (words ≡ front_desk n rows words)
  unfolding front_desk
  front-refused j r why e =
      let f : front_why n rows words ≡ Err r = sym (why ∙ front-judged) ∙ e in
      (why ∙ front-judged, sym (words-refused (front_why n rows words) (front_step n rows words) words r f))

  pub front-fine : (j : Judged) (after : List ℕ) → j ≡ table_why n (take (length words - head_words) (drop head_words words)) → j ≡ Ok tt
      → after ≡ sets words 0 (head_for n rows rows) → ((Ok tt) ≡ front_why n rows words) × (after ≡ front_desk n rows words)
  unfolding front_desk
  front-fine j after why e laid =
      let f : front_why n rows words ≡ (Ok tt) = sym (why ∙ front-judged) ∙ e in
      (sym f, laid ∙ front-laid ∙ sym (words-fine (front_why n rows words) (front_step n rows words) words f))
