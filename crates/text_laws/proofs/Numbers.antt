-- A number in a text. Its digits, last one last, make the value; the value's digits are those, since the first of several is not 0. So what
-- is written of a number below 10 ^ most_digits is read as it where no digit follows, and a number that is read stands there as it is written.
use Rattle.std.specs.Prelude.{Option, Some, None}
use Prim.Native.Nat.{ℕ, zero, suc, ◌+◌, ◌-◌, ◌*◌, ◌/◌, ◌%◌, ◌^◌, ◌<◌, ◌≤◌}
use mathlib.Core.Path.{◌≡◌, refl, ap, ◌∙◌}
use mathlib.Core.Logic.{◌⊎◌, inl, inr, ⊎_elim}
use mathlib.Core.Bool.{Bool, true, false, not, ◌&&◌, ◌||◌, or-true}
use mathlib.Core.List.{List, [], ◌∷◌, ◌++◌}
use native.Mathlib.Nat.{pow-suc, pow-le-pow_right, add-zero}
use native.Mathlib.Numerals.{add-one}
use native.Mathlib.Omega.{arith}
use borrow.Author.Tests.{eq-eqb, ne_eqb, eqb-true, eqb-false, ltb-true, lt-ltb, le-ltb, le-leb, leb-true, not-true}
use lib.Dec.{eqb, leb, ltb}
use lib.ListN.{length, get_or, length-append}
use Rattle.masks.proofs.Choice.{cases, and_left, and_right, both, or_cases, lt-or-le, impossible, some-pair}
use Rattle.rules.specs.Text.{digit_zero, most_digits, digits, number_text}
use Rattle.rules.specs.Reader.{stands, is_digit, digit_run, value_of, number_at}
use Rattle.text_laws.proofs.Stands.{inside, first-stands, second-stands, both-stand, byte-stands, front-byte}

-- ---- digits

pub digit_low : (b : ℕ) → is_digit b ≡ true → digit_zero ≤ b
unfolding is_digit
digit_low b e = leb-true digit_zero b (and_left (leb digit_zero b) (ltb b (digit_zero + 10)) e)

pub digit-high : (b : ℕ) → is_digit b ≡ true → b < digit_zero + 10
unfolding is_digit
digit-high b e = ltb-true b (digit_zero + 10) (and_right (leb digit_zero b) (ltb b (digit_zero + 10)) e)

pub digit-of : (d : ℕ) → d < 10 → is_digit (digit_zero + d) ≡ true
unfolding is_digit
digit-of d l = both (le-leb digit_zero (digit_zero + d) (omega arith)) (lt-ltb (digit_zero + d) (digit_zero + 10) (omega arith))

-- n digits from the place on
abbrev pub Digits : List ℕ → ℕ → ℕ → Type 0
Digits s at n = (i : ℕ) → i < n → is_digit (get_or s (at + i) 0) ≡ true

pub digits-inside : (s : List ℕ) (at n : ℕ) → Digits s at (suc n) → at + suc n ≤ length s
digits-inside s at n h =
    let low = digit_low (get_or s (at + n) 0) (h n (omega arith)) in
    omega (arith, inside s (at + n) (omega arith))

-- ---- how many stand there

pub run_none : (s : List ℕ) (at : ℕ) → digit_run s at 0 ≡ 0
unfolding digit_run
run_none s at = refl

pub run-yes : (s : List ℕ) (at k : ℕ) → is_digit (get_or s at 0) ≡ true → digit_run s at (suc k) ≡ suc (digit_run s (suc at) k)
unfolding digit_run
run-yes s at k e = rw e

pub run-no : (s : List ℕ) (at k : ℕ) → is_digit (get_or s at 0) ≡ false → digit_run s at k ≡ 0
unfolding digit_run
run-no s at zero e = refl
run-no s at (suc k) e = rw e

run_at : (s : List ℕ) (at k : ℕ) → is_digit (get_or s at 0) ≡ true
    → ((i : ℕ) → i < digit_run s (suc at) k → is_digit (get_or s (suc at + i) 0) ≡ true)
    → (i : ℕ) → i < digit_run s at (suc k) → is_digit (get_or s (at + i) 0) ≡ true
run_at s at k t ih zero l = rw (add-zero at) t
run_at s at k t ih (suc i) l =
    let p : at + suc i ≡ suc at + i = omega arith in
    rw p (ih i (omega (arith, run-yes s at k t)))

pub run-digits : (s : List ℕ) (at k i : ℕ) → i < digit_run s at k → is_digit (get_or s (at + i) 0) ≡ true
run-digits s at zero i l = absurd (omega (arith, run_none s at))
run-digits s at (suc k) i l =
    ⊎_elim (λ t. run_at s at k t (run-digits s (suc at) k) i l) (λ f. absurd (omega (arith, run-no s at (suc k) f))) (cases (is_digit (get_or s at 0)))

pub run-unique : (s : List ℕ) (at k n : ℕ) → n < k → Digits s at n → is_digit (get_or s (at + n) 0) ≡ false → digit_run s at k ≡ n
run-unique s at zero n l h e = absurd (omega arith)
run-unique s at (suc k) zero l h e = run-no s at (suc k) (rw (add-zero at) at e)
run-unique s at (suc k) (suc n) l h e =
    run-yes s at k (rw (add-zero at) at (h 0 (omega arith)))
    ∙ ap suc
    (run-unique s (suc at) k n (omega arith)
    (λ i li. let p : suc at + i ≡ at + suc i = omega arith in rw p (h (suc i) (omega arith)))
    (let p : suc at + n ≡ at + suc n = omega arith in rw p e))

-- the count as a loop makes it: what is left of the work
pub run_more : (s : List ℕ) (at k n : ℕ) → n < k → is_digit (get_or s (at + n) 0) ≡ true
    → n + 1 + digit_run s (at + (n + 1)) (k - (n + 1)) ≡ n + digit_run s (at + n) (k - n)
run_more s at k n l e =
    let p : k - n ≡ suc (k - (n + 1)) = omega arith in
    let q : at + (n + 1) ≡ suc (at + n) = omega arith in
    rw (p, q) (omega (arith, run-yes s (at + n) (k - (n + 1)) e))

-- ---- the value

pub value_none : (s : List ℕ) (at : ℕ) → value_of s at 0 ≡ 0
unfolding value_of
value_none s at = refl

pub value-more : (s : List ℕ) (at n : ℕ) → value_of s at (n + 1) ≡ value_of s at n * 10 + (get_or s (at + n) 0 - digit_zero)
unfolding value_of
value-more s at n = rw add-one

pub value-lt : (s : List ℕ) (at n : ℕ) → Digits s at n → value_of s at n < 10 ^ n
value-lt s at zero h = omega (arith, value_none s at)
value-lt s at (suc n) h =
    let ih = value-lt s at n (λ i l. h i (omega arith)) in
    let d = digit-high (get_or s (at + n) 0) (h n (omega arith)) in
    let p = pow-suc 10 n in
    let q : suc n ≡ n + 1 = omega arith in
    omega (arith, ap (value_of s at) q ∙ value-more s at n)

-- at most ten digits make a number that fits
pub value-small : (s : List ℕ) (at n : ℕ) → Digits s at n → n ≤ most_digits → value_of s at n < 10 ^ most_digits
value-small s at n h l =
    let p : 10 ^ n ≤ 10 ^ most_digits = pow-le-pow_right (omega arith) l in
    omega (arith, value-lt s at n h)

-- a first digit that is not 0 makes it positive
pub value_pos : (s : List ℕ) (at n : ℕ) → digit_zero < get_or s at 0 → 0 < value_of s at (suc n)
value_pos s at zero h =
    let p : at + 0 ≡ at = add-zero at in
    let q = value-more s at 0 in
    let r : value_of s at 1 ≡ value_of s at 0 * 10 + (get_or s at 0 - digit_zero) = rw p at q in
    omega arith
value_pos s at (suc n) h =
    let q : suc (suc n) ≡ suc n + 1 = omega arith in
    omega (arith, value_pos s at n h, ap (value_of s at) q ∙ value-more s at (suc n))

-- ---- what is written

pub digits-small : (k n : ℕ) → n < 10 → digits (suc k) n ≡ (digit_zero + n) ∷ []
unfolding digits
digits-small k n l = rw (lt-ltb n 10 l)

pub digits-large : (k n : ℕ) → 10 ≤ n → digits (suc k) n ≡ digits k (n / 10) ++ ((digit_zero + n % 10) ∷ [])
unfolding digits
digits-large k n l = rw (le-ltb n 10 l)

pub digits-length : (k n : ℕ) → length (digits k n) ≤ k
unfolding digits
digits-length zero n = omega arith
digits-length (suc k) n =
    ⊎_elim
    (λ l. rw (digits-small k n l) (omega arith))
    (λ l. rw (digits-large k n l, length-append (digits k (n / 10)) ((digit_zero + n % 10) ∷ [])) (omega (arith, digits-length k (n / 10))))
    (lt-or-le n 10)

-- what a number that stands at a place is there
pub record Written (s : List ℕ) (at n v : ℕ) : Type 0 where
  pub some : 0 < n
  pub all : (i : ℕ) → i < n → is_digit (get_or s (at + i) 0) ≡ true
  pub value : value_of s at n ≡ v
  pub single : v < 10 → n ≡ 1
  pub leading : 0 < v → digit_zero < get_or s at 0

written_one : (s : List ℕ) (at v : ℕ) → v < 10 → stands s at ((digit_zero + v) ∷ []) ≡ true → Written s at 1 v
written_one s at v l e =
    let b : get_or s at 0 ≡ digit_zero + v = front-byte s at (digit_zero + v) [] e in
    let q : at + 0 ≡ at = add-zero at in
    let r : value_of s at 1 ≡ value_of s at 0 * 10 + (get_or s at 0 - digit_zero) = rw q at (value-more s at 0) in
    record {
      some = omega arith;
      all = λ i li. let z : at + i ≡ at = omega arith in rw (z, b) (digit-of v l);
      value = omega (arith, value_none s at);
      single = λ x. refl;
      leading = λ x. omega arith;
    }

written-more : (s : List ℕ) (at v : ℕ) (front : List ℕ) → 10 ≤ v → Written s at (length front) (v / 10)
    → stands s at (front ++ ((digit_zero + v % 10) ∷ [])) ≡ true → Written s at (length (front ++ ((digit_zero + v % 10) ∷ []))) v
written-more s at v front l w e =
    let digit = digit_zero + v % 10 in
    let b : get_or s (at + length front) 0 ≡ digit = front-byte s (at + length front) digit [] (second-stands s at front (digit ∷ []) e) in
    let vm = value-more s at (length front) in
    rw (length-append front ((digit_zero + v % 10) ∷ []))
    record {
      some = omega arith;
      all =
          λ i li.
          ⊎_elim (λ x. w.all i x) (λ x. let z : i ≡ length front = omega arith in rw (z, b) (digit-of (v % 10) (omega arith))) (lt-or-le i (length front));
      value = omega (arith, w.value);
      single = λ x. absurd (omega arith);
      leading = λ x. w.leading (omega arith);
    }

pub digits-written : (s : List ℕ) (at k v : ℕ) → v < 10 ^ k → 0 < k → stands s at (digits k v) ≡ true → Written s at (length (digits k v)) v
digits-written s at zero v h p e = absurd (omega arith)
digits-written s at (suc k) v h p e =
    ⊎_elim
    (λ l. rw (digits-small k v l) (written_one s at v l (rw (digits-small k v l) at e)))
    (λ l.
    let pw = pow-suc 10 k in
    let hk : 0 < k = ⊎_elim (λ z. z) (λ z. absurd (omega (arith, ap (λ (j : ℕ). 10 ^ j) (let zz : k ≡ 0 = omega arith in zz)))) (lt-or-le 0 k) in
    let e2 = rw (digits-large k v l) at e in
    let w = digits-written s at k (v / 10) (omega arith) hk (first-stands s at (digits k (v / 10)) ((digit_zero + v % 10) ∷ []) e2) in
    rw (digits-large k v l) (written-more s at v (digits k (v / 10)) l w e2))
    (lt-or-le v 10)

-- n digits with no leading zero are the digits of their value
pub record Spelt (s : List ℕ) (at k n : ℕ) : Type 0 where
  pub stand : stands s at (digits k (value_of s at n)) ≡ true
  pub long : length (digits k (value_of s at n)) ≡ n

spelt-one : (s : List ℕ) (at k : ℕ) → is_digit (get_or s at 0) ≡ true → Spelt s at (suc k) 1
spelt-one s at k e =
    let q : at + 0 ≡ at = add-zero at in
    let r : value_of s at 1 ≡ value_of s at 0 * 10 + (get_or s at 0 - digit_zero) = rw q at (value-more s at 0) in
    let low = digit_low (get_or s at 0) e in
    let high = digit-high (get_or s at 0) e in
    let z = value_none s at in
    let l : value_of s at 1 < 10 = omega arith in
    let ds = digits-small k (value_of s at 1) l in
    record {
      stand = rw ds (byte-stands s at (digit_zero + value_of s at 1) (omega arith));
      long = rw ds;
    }

spelt-more : (s : List ℕ) (at k n : ℕ) → digit_zero < get_or s at 0 → is_digit (get_or s (at + suc n) 0) ≡ true → Spelt s at k (suc n)
    → Spelt s at (suc k) (suc n + 1)
spelt-more s at k n h e w =
    let v = value_of s at (suc n) in
    let b = get_or s (at + suc n) 0 in
    let low = digit_low b e in
    let high = digit-high b e in
    let pos = value_pos s at n h in
    let m = value-more s at (suc n) in
    let u = value_of s at (suc n + 1) in
    let l : 10 ≤ u = omega arith in
    let up : u / 10 ≡ v = omega arith in
    let down : digit_zero + u % 10 ≡ b = omega arith in
    let ds : digits (suc k) u ≡ digits k v ++ (b ∷ []) = digits-large k u l ∙ rw (up, down) in
    let last : get_or s (at + length (digits k v)) 0 ≡ b = rw w.long in
    record {
      stand = rw ds (both-stand s at (digits k v) (b ∷ []) w.stand (byte-stands s (at + length (digits k v)) b last));
      long = rw (ds, length-append (digits k v) (b ∷ []), w.long);
    }

pub digits-spelt : (s : List ℕ) (at k n : ℕ) → n < k → (n ≡ 0) ⊎ (digit_zero < get_or s at 0) → Digits s at (suc n) → Spelt s at k (suc n)
digits-spelt s at zero n l c h = absurd (omega arith)
digits-spelt s at (suc k) zero l c h = spelt-one s at k (rw (add-zero at) at (h 0 (omega arith)))
digits-spelt s at (suc k) (suc n) l c h =
    ⊎_elim (λ z. absurd (omega arith))
    (λ f.
    rw (← add-one (suc n))
    (spelt-more s at k n f (h (suc n) (omega arith)) (digits-spelt s at k n (omega arith) (inr f) (λ i li. h i (omega arith)))))
    c

-- ---- the token's two laws

no_zero : (s : List ℕ) (at v n : ℕ) → (v < 10 → n ≡ 1) → (0 < v → digit_zero < get_or s at 0) → (eqb n 1 || not (eqb (get_or s at 0) digit_zero)) ≡ true
no_zero s at v n one lead =
    ⊎_elim (λ x. rw (eq-eqb n 1 (one x)))
    (λ x. rw (ne_eqb (get_or s at 0) digit_zero (λ z. omega (arith, lead (omega arith)))) (or-true (eqb n 1)))
    (lt-or-le v 10)

pub number-reads : (s : List ℕ) (at v : ℕ) → v < 10 ^ most_digits → stands s at (number_text v) ≡ true
    → is_digit (get_or s (at + length (number_text v)) 0) ≡ false
    → number_at s at ≡ Some (v, at + length (number_text v))
unfolding number_text number_at
number-reads s at v l e f =
    let n = length (digits most_digits v) in
    let w = digits-written s at most_digits v l (omega arith) e in
    let r : digit_run s at (suc most_digits) ≡ n = run-unique s at (suc most_digits) n (omega (arith, digits-length most_digits v)) w.all f in
    rw (r, le-leb 1 n w.some, le-leb n most_digits (digits-length most_digits v), no_zero s at v n w.single w.leading, w.value)

-- the test of a number's digits
pub numeral : List ℕ → ℕ → ℕ → Bool
numeral s at n = leb 1 n && (leb n most_digits && (eqb n 1 || not (eqb (get_or s at 0) digit_zero)))

pub record NumberFound (s : List ℕ) (at v next : ℕ) : Type 0 where
  pub stand : stands s at (number_text v) ≡ true
  pub end : next ≡ at + length (number_text v)
  pub small : v < 10 ^ most_digits
  pub inside : next ≤ length s

found-by : (s : List ℕ) (at n : ℕ) → n ≡ digit_run s at (suc most_digits) → numeral s at n ≡ true → NumberFound s at (value_of s at n) (at + n)
unfolding numeral number_text
found-by s at zero r e = absurd (omega (arith, leb-true 1 0 (and_left (leb 1 0) (leb 0 most_digits && (eqb 0 1 || not (eqb (get_or s at 0) digit_zero))) e)))
found-by s at (suc n) r e =
    let e2 = and_right (leb 1 (suc n)) (leb (suc n) most_digits && (eqb (suc n) 1 || not (eqb (get_or s at 0) digit_zero))) e in
    let l = leb-true (suc n) most_digits (and_left (leb (suc n) most_digits) (eqb (suc n) 1 || not (eqb (get_or s at 0) digit_zero)) e2) in
    let e3 = and_right (leb (suc n) most_digits) (eqb (suc n) 1 || not (eqb (get_or s at 0) digit_zero)) e2 in
    let h : Digits s at (suc n) = λ i li. run-digits s at (suc most_digits) i (omega arith) in
    let low : digit_zero ≤ get_or s at 0 = digit_low (get_or s at 0) (rw (add-zero at) at (h 0 (omega arith))) in
    let c : (n ≡ 0) ⊎ (digit_zero < get_or s at 0) =
    ⊎_elim
    (λ t. inl (let z = eqb-true (suc n) 1 t in omega arith))
    (λ t. inr (let z = eqb-false (get_or s at 0) digit_zero (not-true (eqb (get_or s at 0) digit_zero) t) in le-ne s at low z))
    (or_cases (eqb (suc n) 1) (not (eqb (get_or s at 0) digit_zero)) e3) in
    let w = digits-spelt s at most_digits n (omega arith) c h in
    record {
      stand = w.stand;
      end = rw w.long;
      small = value-small s at (suc n) h l;
      inside = digits-inside s at n h;
    }
  where
    le-ne : (s : List ℕ) (at : ℕ) → digit_zero ≤ get_or s at 0 → (get_or s at 0 ≡ digit_zero → ⊥) → digit_zero < get_or s at 0
    le-ne s at l h = ⊎_elim (λ x. x) (λ x. absurd (h (omega arith))) (lt-or-le digit_zero (get_or s at 0))

pub number-found : (s : List ℕ) (at v next : ℕ) → number_at s at ≡ Some (v, next) → NumberFound s at v next
unfolding number_at numeral
number-found s at v next e = ⊎_elim (λ t. good t) (λ f. absurd (bad f)) (cases (numeral s at (digit_run s at (suc most_digits))))
  where
    good : numeral s at (digit_run s at (suc most_digits)) ≡ true → NumberFound s at v next
    good t =
        let n = digit_run s at (suc most_digits) in
        let q : ◌≡◌ {A = Option (ℕ × ℕ)} (Some (value_of s at n, at + n)) (Some (v, next)) = rw t at e in
        let same = some-pair q in
        rw (← same.0, ← same.1) (found-by s at n refl t)

    bad : numeral s at (digit_run s at (suc most_digits)) ≡ false → ⊥
    bad f =
        let q : ◌≡◌ {A = Option (ℕ × ℕ)} None (Some (v, next)) = rw f at e in
        impossible (cc)

-- ---- digits as the writer meets them

pub digits-none : (k n : ℕ) → k ≡ 0 → digits k n ≡ []
unfolding digits
digits-none k n e = rw e

pub digits-one : (k n : ℕ) → (k ≡ 0 → ⊥) → n < 10 → digits k n ≡ (digit_zero + n) ∷ []
digits-one zero n h l = absurd (h refl)
digits-one (suc k) n h l = digits-small k n l

pub digits-two : (k n : ℕ) → (k ≡ 0 → ⊥) → 10 ≤ n → digits k n ≡ digits (k - 1) (n / 10) ++ ((digit_zero + n % 10) ∷ [])
digits-two zero n h l = absurd (h refl)
digits-two (suc k) n h l =
    let p : suc k - 1 ≡ k = omega arith in
    rw p (digits-large k n l)

-- a number that stands there begins with a digit
pub number-digit : (s : List ℕ) (at v : ℕ) → v < 10 ^ most_digits → stands s at (number_text v) ≡ true → is_digit (get_or s at 0) ≡ true
unfolding number_text
number-digit s at v l e =
    let w = digits-written s at most_digits v l (omega arith) e in
    rw (add-zero at) at (w.all 0 w.some)

pub digits-some : (k n : ℕ) → 0 < length (digits (suc k) n)
digits-some k n =
    ⊎_elim
    (λ l. rw (digits-small k n l) (omega arith))
    (λ l. rw (digits-large k n l, length-append (digits k (n / 10)) ((digit_zero + n % 10) ∷ [])) (omega arith))
    (lt-or-le n 10)
