-- A line of a key and a number: what is written is read as it, and what is read is written so. The end of line is no digit, so that a
-- number in a line ends where it should.
use Rattle.std.specs.Prelude.{Option, Some, None}
use Prim.Native.Nat.{ℕ, ◌+◌, ◌<◌, ◌^◌}
use mathlib.Core.Path.{◌≡◌, refl, sym, ◌∙◌}
use mathlib.Core.Logic.{⊎_elim}
use mathlib.Core.Bool.{true, false}
use mathlib.Core.List.{List, [], ◌∷◌, ◌++◌}
use native.Mathlib.Omega.{arith}
use borrow.Author.Tests.{eqb-true, eqb-false}
use lib.Dec.{eqb}
use lib.ListN.{length, get_or, length-append}
use Rattle.masks.proofs.Choice.{cases, impossible, some-pair}
use Rattle.rules.specs.Text.{number_text, line_feed, most_digits}
use Rattle.rules.specs.Reader.{stands, is_digit, number_at, number_line}
use Rattle.text_laws.specs.Pieces.{line_text}
use Rattle.text_laws.proofs.Stands.{first-stands, second-stands, both-stand, byte-stands, front-byte}
use Rattle.text_laws.proofs.Numbers.{number-reads, number-found}
use Rattle.text_laws.proofs.Branches.{line-no-key, line-no-number, line-is, line-unended}

-- an end of line is no digit
pub end-no-digit : (s : List ℕ) (at : ℕ) → get_or s at 0 ≡ line_feed → is_digit (get_or s at 0) ≡ false
unfolding is_digit
end-no-digit s at e = rw e

line-end : (key : List ℕ) (v at : ℕ) → at + length (key ++ (number_text v ++ (line_feed ∷ []))) ≡ at + length key + length (number_text v) + 1
line-end key v at = rw (length-append key (number_text v ++ (line_feed ∷ [])), length-append (number_text v) (line_feed ∷ [])) (omega arith)

pub line_reads : (s : List ℕ) (at : ℕ) (key : List ℕ) (v : ℕ) → v < 10 ^ most_digits → stands s at (line_text key v) ≡ true
    → number_line s at key ≡ Some (v, at + length (line_text key v))
unfolding line_text
line_reads s at key v l e =
    let rest = number_text v ++ (line_feed ∷ []) in
    let k = first-stands s at key rest e in
    let r = second-stands s at key rest e in
    let n = first-stands s (at + length key) (number_text v) (line_feed ∷ []) r in
    let f = front-byte s (at + length key + length (number_text v)) line_feed [] (second-stands s (at + length key) (number_text v) (line_feed ∷ []) r) in
    let num = number-reads s (at + length key) v l n (end-no-digit s (at + length key + length (number_text v)) f) in
    rw (line-end key v at) (line-is s at key v (at + length key + length (number_text v)) k num f)

pub record LineFound (s : List ℕ) (at : ℕ) (key : List ℕ) (v next : ℕ) : Type 0 where
  pub stand : stands s at (line_text key v) ≡ true
  pub end : next ≡ at + length (line_text key v)
  pub small : v < 10 ^ most_digits

found-line : (s : List ℕ) (at : ℕ) (key : List ℕ) (v m : ℕ) → stands s at key ≡ true → number_at s (at + length key) ≡ Some (v, m) → get_or s m 0 ≡ line_feed
    → LineFound s at key v (m + 1)
unfolding line_text
found-line s at key v m k e f =
    let n = number-found s (at + length key) v m e in
    let f2 : get_or s (at + length key + length (number_text v)) 0 ≡ line_feed = rw (← n.end) f in
    record {
      stand =
          both-stand s at key (number_text v ++ (line_feed ∷ [])) k
          (both-stand s (at + length key) (number_text v) (line_feed ∷ []) n.stand (byte-stands s (at + length key + length (number_text v)) line_feed f2));
      end = rw (line-end key v at, n.end);
      small = n.small;
    }

pub line-found : (s : List ℕ) (at : ℕ) (key : List ℕ) (v next : ℕ) → number_line s at key ≡ Some (v, next) → LineFound s at key v next
line-found s at key v next e =
    ⊎_elim
    (λ k. keyed k (number_at s (at + length key)) refl)
    (λ k. absurd (never (line-no-key s at key k)))
    (cases (stands s at key))
  where
    never : number_line s at key ≡ None → ⊥
    never h = impossible (cc)

    keyed : stands s at key ≡ true → (p : Option (ℕ × ℕ)) → number_at s (at + length key) ≡ p → LineFound s at key v next
    keyed k None q = absurd (never (line-no-number s at key k q))
    keyed k (Some (w, m)) q =
        ⊎_elim
        (λ t.
        let f = eqb-true (get_or s m 0) line_feed t in
        let same = some-pair (sym (line-is s at key w m k q f) ∙ e) in
        rw (← same.0, ← same.1) (found-line s at key w m k q f))
        (λ t. absurd (never (line-unended s at key w m k q (eqb-false (get_or s m 0) line_feed t))))
        (cases (eqb (get_or s m 0) line_feed))
