-- The copy by case, and what it comes to. A text that is read is what the writer spells of its table: there is no other spelling.
use Rattle.std.specs.Prelude.{Result, Ok, Err}
use Rattle.std.specs.Result.{result_unwrap_or}
use Prim.Native.Nat.{ℕ, ◌*◌}
use mathlib.Core.Path.{◌≡◌, refl, subst, sym}
use mathlib.Core.List.{List}
use native.Mathlib.Omega.{arith}
use lib.ListN.{length, drop, length-append}
use lib.Seq.{take_at}
use Rattle.rules.specs.Refusals.{Judged}
use Rattle.rules.specs.declared.Refusal.{Refusal}
use Rattle.rules.specs.declared.TextRead.{TextRead}
use Rattle.rules.specs.Table.{row_words, most_rows}
use Rattle.rules.specs.Text.{text_written, text_out, table_text, write_why, written, write_out}
use Rattle.rules.specs.Reader.{read_words, text_read, text_says}
use Rattle.text_laws.proofs.Converse.{converse}
use Rattle.copy.specs.Copied.{length_of, length_by, out_by, copy_length, copy_out, Copied}

module _ (input out : List ℕ) where
  pub not-read : (r : Refusal) → text_read most_rows input (row_words * most_rows) ≡ Err r → (0 ≡ copy_length input out) × (out ≡ copy_out input out)
  unfolding copy_length copy_out
  not-read r h = (rw h, rw h)

  pub read : (n b m : ℕ) (table : List ℕ) → text_read most_rows input (row_words * most_rows) ≡ Ok (text_says n b m) → table ≡ read_words input
      → (length_of (written n b table out) ≡ copy_length input out) × (write_out n b table out ≡ copy_out input out)
  unfolding copy_length copy_out
  read n b m table h words = (rw (h, words), rw (h, words))

-- how many bytes were written, none where it was refused
pub length-or-none : (r : Result ℕ Refusal) → result_unwrap_or r 0 ≡ length_of r
length-or-none (Ok n) = refl
length-or-none (Err r) = refl

nothing : (input output : List ℕ) → Copied input 0 output
nothing input output = record { within = omega arith; same = λ no. absurd (no refl) }

at_front : (n b : ℕ) (table out : List ℕ) → Copied (table_text n b table) (length_of (written n b table out)) (write_out n b table out)
unfolding text_written text_out
at_front n b table out = go (write_why n b table out) refl
  where
    text : List ℕ
    text = table_text n b table

    go : (j : Judged) → write_why n b table out ≡ j → Copied text (length_of (written n b table out)) (write_out n b table out)
    go (Ok _) e =
        rw e (record {
          within = rw (length-append text (drop (length text) out)) (omega arith);
          same = λ some. take_at text (drop (length text) out) (length text) refl;
        })
    go (Err r) e = rw e (nothing text out)

pub copies : (input out : List ℕ) → Copied input (copy_length input out) (copy_out input out)
unfolding copy_length copy_out
copies input out = go (text_read most_rows input (row_words * most_rows)) refl
  where
    go : (x : Result TextRead Refusal) → text_read most_rows input (row_words * most_rows) ≡ x
        → Copied input (length_by (read_words input) out x) (out_by (read_words input) out x)
    go (Ok said) e =
        let table = read_words input in
        subst (λ s. Copied s (length_of (written said.variables said.budget table out)) (write_out said.variables said.budget table out))
        (sym (converse most_rows input (row_words * most_rows) said.variables said.budget said.rows e)) (at_front said.variables said.budget table out)
    go (Err r) e = nothing input out

-- the same of what a call gives and leaves
pub copied : (input out after : List ℕ) (n : ℕ) → (n ≡ copy_length input out) × (after ≡ copy_out input out) → Copied input n after
copied input out after n h = rw (h.0, h.1) (copies input out)
