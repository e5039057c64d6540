-- What is written out of lent bytes that have room for an answer: they are never refused, and hold it at their front.
use Rattle.std.specs.Prelude.{Result, Ok, IsOk}
use Prim.Native.Nat.{ℕ, ◌+◌}
use mathlib.Core.Path.{◌≡◌, refl, ap, ◌∙◌}
use mathlib.Core.List.{List}
use native.Mathlib.Omega.{arith}
use lib.ListN.{length, take, drop, length-append}
use Rattle.rules.specs.declared.Refusal.{Refusal}
use Rattle.rules.specs.Text.{text_why, text_written, text_out}
use Rattle.text_laws.proofs.LentBytes.{text-written, text-at-front}
use Rattle.streams.specs.Replies.{Replies}

module _ (text output : List ℕ) (fine : text_why (Ok tt) text output ≡ Ok tt) (said : Result ℕ Refusal) (says : said ≡ text_written (Ok tt) text output) where
  pub never-none : IsOk said
  never-none = let written : said ≡ Ok (length text) = says ∙ (text-written (Ok tt) text output fine).0 in rw written refl

  pub replied : (n : ℕ) (after : List ℕ) → said ≡ Ok n → after ≡ text_out (Ok tt) text output → Replies text n after
  replied n after e left =
      let written = text-written (Ok tt) text output fine in
      let long : n ≡ length text = cc in
      let whole : length after ≡ length text + length (drop (length text) output) =
      ap length (left ∙ written.1) ∙ length-append text (drop (length text) output) in
      record {
        within = omega (arith, long, whole);
        answers = (ap (take n) left ∙ rw long) ∙ text-at-front (Ok tt) text output fine;
      }
