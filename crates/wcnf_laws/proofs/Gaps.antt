-- Spaces before a number. A gap that stands there, with no space behind it, is the run that is counted; and a run that is counted stands there. So a number
-- behind a gap is read, and a number that is read so stands there behind a gap.
use Rattle.std.specs.Prelude.{Option, Some, None}
use Prim.Native.Nat.{ℕ, zero, suc, ◌+◌, ◌^◌, ◌<◌, ◌≤◌}
use mathlib.Core.Path.{◌≡◌, refl, sym, ap, ◌∙◌}
use mathlib.Core.Bool.{Bool, true, false, cond}
use mathlib.Core.List.{List, [], ◌++◌}
use native.Mathlib.Omega.{arith}
use borrow.Author.Tests.{eq-eqb, ne_eqb, eqb-true}
use lib.Dec.{eqb, eqb-suc-zero}
use lib.ListN.{length, get_or, length-append}
use Rattle.masks.proofs.Choice.{impossible}
use Rattle.rules.specs.Text.{number_text, space, most_digits}
use Rattle.rules.specs.Reader.{stands, is_digit, number_at}
use Rattle.rules.specs.WcnfReader.{space_run, parted_at}
use Rattle.text_laws.specs.Lines.{NoFeed}
use Rattle.text_laws.proofs.Stands.{first-stands, second-stands, both-stand, byte-stands, cons-stands, front-byte, behind-byte, inside}
use Rattle.text_laws.proofs.Numbers.{number-reads, number-digit, number-found, digit_low}
use Rattle.wcnf_laws.specs.Form.{gap}

pub gap-long : (k : ℕ) → length (gap k) ≡ suc k
unfolding gap
gap-long zero = refl
gap-long (suc k) = ap suc (gap-long k)

pub gap-no-feed : (k : ℕ) → NoFeed (gap k)
unfolding gap
gap-no-feed zero = (refl, tt)
gap-no-feed (suc k) = (refl, gap-no-feed k)

pub gap-front : (s : List ℕ) (at k : ℕ) (rest : List ℕ) → stands s at (gap k ++ rest) ≡ true → get_or s at 0 ≡ space
unfolding gap
gap-front s at zero rest e = front-byte s at space rest e
gap-front s at (suc k) rest e = front-byte s at space (gap k ++ rest) e

-- a space is no digit, and a digit is no space
pub space-no-digit : (b : ℕ) → b ≡ space → is_digit b ≡ false
unfolding is_digit
space-no-digit b e = rw e

pub digit-no-space : (b : ℕ) → is_digit b ≡ true → b ≡ space → ⊥
digit-no-space b d e = omega (arith, digit_low b d, e)

-- ---- a run

gap-inside : (s : List ℕ) (at k : ℕ) → stands s at (gap k) ≡ true → at + suc k ≤ length s
unfolding gap
gap-inside s at zero e = omega (arith, inside s at (omega (arith, front-byte s at space [] e)))
gap-inside s at (suc k) e = omega (arith, gap-inside s (at + 1) k (behind-byte s at space (gap k) e))

none-there : (s : List ℕ) (at k : ℕ) → (get_or s at 0 ≡ space → ⊥) → space_run s at k ≡ 0
unfolding space_run
none-there s at zero n = refl
none-there s at (suc k) n = rw (ne_eqb (get_or s at 0) space n)

run_is : (s : List ℕ) (at k n : ℕ) → stands s at (gap n) ≡ true → (get_or s (at + suc n) 0 ≡ space → ⊥) → suc n ≤ k → space_run s at k ≡ suc n
unfolding space_run gap
run_is s at zero n e h l = absurd (omega arith)
run_is s at (suc k) zero e h l =
    let near : at + 1 ≡ suc at = omega arith in
    rw (eq-eqb (get_or s at 0) space (front-byte s at space [] e)) (ap suc (none-there s (suc at) k (rw near at h)))
run_is s at (suc k) (suc n) e h l =
    let near : at + 1 ≡ suc at = omega arith in
    let far : at + suc (suc n) ≡ suc at + suc n = omega arith in
    rw (eq-eqb (get_or s at 0) space (front-byte s at space (gap n) e))
    (ap suc (run_is s (suc at) k n (rw near at (behind-byte s at space (gap n) e)) (rw far at h) (omega arith)))

-- as long as the text is long enough
pub gap-run : (s : List ℕ) (at n : ℕ) → stands s at (gap n) ≡ true → (get_or s (at + suc n) 0 ≡ space → ⊥) → space_run s at (length s) ≡ suc n
gap-run s at n e h = run_is s at (length s) n e h (omega (arith, gap-inside s at n e))

pub run-stands : (k : ℕ) (s : List ℕ) (at n : ℕ) → space_run s at k ≡ suc n → stands s at (gap n) ≡ true
unfolding space_run gap
run-stands zero s at n e = absurd (omega arith)
run-stands (suc k) s at n e = go (eqb (get_or s at 0) space) refl (λ m q. run-stands k s (suc at) m q) n e
  where
    near : suc at ≡ at + 1
    near = omega arith

    go : (b : Bool) → eqb (get_or s at 0) space ≡ b → ((m : ℕ) → space_run s (suc at) k ≡ suc m → stands s (suc at) (gap m) ≡ true)
        → (n : ℕ) → cond b (suc (space_run s (suc at) k)) 0 ≡ suc n → stands s at (gap n) ≡ true
    go false t ih n q = absurd (omega (arith, q))
    go true t ih zero q = byte-stands s at space (eqb-true (get_or s at 0) space t)
    go true t ih (suc n) q =
        cons-stands s at space (gap n) (eqb-true (get_or s at 0) space t)
        (ap (λ (p : ℕ). stands s p (gap n)) (sym near) ∙ ih n (omega (arith, q)))

-- ---- a number behind a gap

pub parted-reads : (s : List ℕ) (at k v : ℕ) → v < 10 ^ most_digits → stands s at (gap k ++ number_text v) ≡ true
    → is_digit (get_or s (at + length (gap k ++ number_text v)) 0) ≡ false
    → parted_at s at ≡ Some (v, at + length (gap k ++ number_text v))
unfolding parted_at
parted-reads s at k v small e f =
    let near : at + length (gap k) ≡ at + suc k = omega (arith, gap-long k) in
    let far : at + length (gap k ++ number_text v) ≡ at + suc k + length (number_text v) = omega (arith, length-append (gap k) (number_text v), gap-long k) in
    let there : stands s (at + suc k) (number_text v) ≡ true = rw near at (second-stands s at (gap k) (number_text v) e) in
    let digit = number-digit s (at + suc k) v small there in
    let run = gap-run s at k (first-stands s at (gap k) (number_text v) e) (digit-no-space (get_or s (at + suc k) 0) digit) in
    rw (run, eqb-suc-zero k, far) (number-reads s (at + suc k) v small there (rw far at f))

pub record PartedFound (s : List ℕ) (at v next : ℕ) : Type 0 where
  pub more : ℕ
  pub stand : stands s at (gap more ++ number_text v) ≡ true
  pub end : next ≡ at + length (gap more ++ number_text v)
  pub small : v < 10 ^ most_digits

-- a number found behind a run
pub found-behind : (s : List ℕ) (at k v next : ℕ) → space_run s at (length s) ≡ suc k → number_at s (at + suc k) ≡ Some (v, next)
    → PartedFound s at v next
found-behind s at k v next r e =
    let f = number-found s (at + suc k) v next e in
    let near : at + suc k ≡ at + length (gap k) = omega (arith, gap-long k) in
    record {
      more = k;
      stand =
          both-stand s at (gap k) (number_text v) (run-stands (length s) s at k r) (ap (λ (p : ℕ). stands s p (number_text v)) (sym near) ∙ f.stand);
      end = f.end ∙ omega (arith, length-append (gap k) (number_text v), gap-long k);
      small = f.small;
    }

pub parted-found : (s : List ℕ) (at v next : ℕ) → parted_at s at ≡ Some (v, next) → PartedFound s at v next
unfolding parted_at
parted-found s at v next e = go (space_run s at (length s)) refl
  where
    go : (n : ℕ) → space_run s at (length s) ≡ n → PartedFound s at v next
    go zero r = let q : ◌≡◌ {A = Option (ℕ × ℕ)} None (Some (v, next)) = rw r at e in impossible (cc)
    go (suc k) r = found-behind s at k v next r (rw (r, eqb-suc-zero k) at e)
