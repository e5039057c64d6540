-- Laws of how many a mask has, and of its lowest element. `count` is a sum over the bits, so its laws are those of sums, a bit at a time;
-- `count_trailing_zeros` is read off its recursion on the digits: it is the first place that the mask has.
-- A mask of 64 bits with nothing below 64 is empty, which gives the laws at counts 0 and 1.
use Prim.Native.Nat.{ℕ, zero, suc, ◌+◌, ◌/◌, ◌%◌, ◌^◌, ◌≤◌, ◌<◌}
use mathlib.Core.Path.{◌≡◌, refl, sym, ap, ap₂, ◌∙◌}
use mathlib.Core.Logic.{⊎_elim}
use mathlib.Core.Bool.{true, false}
use native.Mathlib.Nat.{le_of_suc-le-suc, not-suc-le-zero, zero-lt-suc, mod-lt, pow-suc, div-lt_iff_lt-mul, lt_trans, lt_of_lt_of_le, eq-or-lt_of_le}
use native.Mathlib.Nat.{eq-zero-or-pos}
use native.Mathlib.Omega.{arith}
use lib.Arith.{lt-one}
use lib.Bits.{bit_and, bit_or, and_comm}
use lib.Count.{ones, ones_step, ones-le, count_trailing_zeros, under}
use lib.Pow.{pow_mono}
use Rattle.masks.specs.Masks.{bit, has, count, without}
use Rattle.masks.specs.Sums.{sum}
use Rattle.masks.proofs.Choice.{lt-or-le, eq-or-ne, clash}
use Rattle.masks.proofs.Sums.{sum-ext, sum-zero, sum-none, sum-add, sum_bound, sum-front, sum-only}
use Rattle.masks.proofs.Bits.{bit-lt, bit-one, bit-none, bit-low, bit_up, bit-zero, has-low, has-up, has-pow-same, has-pow-other, bit-split}
use Rattle.masks.proofs.Bits.{bit-or-and, empty-below}
use Rattle.masks.proofs.Sets.{without-lt, within-antisym, within-and, and-pow-apart, pow-within, has-take-other, take_put}

-- ---- the count

pub count-sum : (m : ℕ) → count m ≡ sum 64 (bit m)
unfolding count
count-sum m = refl

-- the machine's count of the digits set
pub ones-sum : (k n : ℕ) → n < 2 ^ k → ones n ≡ sum k (bit n)
unfolding sum ones
ones-sum zero n l = ap ones (lt-one l)
ones-sum (suc k) n l =
    ones_step n
    ∙ ap₂ (λ (x y : ℕ). x + y) (sym (bit-low n))
    (ones-sum k (n / 2) ((div-lt_iff_lt-mul (zero-lt-suc 1)).1 (rw pow-suc at l)) ∙ sum-ext k (λ i h. sym (bit_up n i)))
    ∙ sym (sum-front k (bit n))

pub count_ones : {m : ℕ} → m < 2 ^ 64 → count m ≡ ones m
count_ones {m} l = count-sum m ∙ sym (ones-sum 64 m l)

-- a mask below n is counted by its first n bits
pub count-upto : (n : ℕ) {m : ℕ} → n ≤ 64 → m < 2 ^ n → count m ≡ sum n (bit m)
count-upto n {m} h l = count_ones (lt_of_lt_of_le l (pow_mono h)) ∙ ones-sum n m l

pub count-le-width : (n : ℕ) {m : ℕ} → n ≤ 64 → m < 2 ^ n → count m ≤ n
count-le-width n {m} h l = rw (count_ones (lt_of_lt_of_le l (pow_mono h))) (ones-le n m l)

pub count-zero : count 0 ≡ 0
count-zero = count-sum 0 ∙ sum-zero 64 (λ i l. bit-zero i)

pub count-le : (m : ℕ) → count m ≤ 64
count-le m = rw (count-sum m) (sum_bound 64 1 (λ i l. le_of_suc-le-suc (bit-lt m i)))

pub count-empty : {m : ℕ} → m < 2 ^ 64 → count m ≡ 0 → m ≡ 0
unfolding has
count-empty {m} l e = empty-below 64 l (λ v k. rw (sum-none 64 (bit m) (sym (count-sum m) ∙ e) v k))

-- what is inside s and what is outside
pub count-split : (m s : ℕ) → count m ≡ count (bit_and m s) + count (without m s)
count-split m s =
    rw (count-sum m, count-sum (bit_and m s), count-sum (without m s), ← sum-add 64 (bit (bit_and m s)) (bit (without m s)))
    (sum-ext 64 (λ v l. bit-split m s v))

pub count-or-and : (a b : ℕ) → count (bit_or a b) + count (bit_and a b) ≡ count a + count b
count-or-and a b =
    rw (
      count-sum (bit_or a b),
      count-sum (bit_and a b),
      count-sum a,
      count-sum b,
      ← sum-add 64 (bit (bit_or a b)) (bit (bit_and a b)),
      ← sum-add 64
          (bit a) (bit b),
    )
    (sum-ext 64 (λ v l. bit-or-and a b v))

pub count-or : (a b : ℕ) → bit_and a b ≡ 0 → count (bit_or a b) ≡ count a + count b
count-or a b e = omega (arith, count-or-and a b, ap count e, count-zero)

pub count-without : (a b : ℕ) → without b a ≡ 0 → count a ≡ count b + count (without a b)
count-without a b e = count-split a b ∙ ap (λ (x : ℕ). count x + count (without a b)) (and_comm a b ∙ within-and b a e)

-- a part has no more, and a proper part has fewer
pub count-mono : (a b : ℕ) → without a b ≡ 0 → count a ≤ count b
count-mono a b e = omega (arith, count-without b a e)

pub count-proper : {a b : ℕ} → b < 2 ^ 64 → without a b ≡ 0 → (a ≡ b → ⊥) → count a < count b
count-proper {a} {b} l e h =
    ⊎_elim
    (λ z. absurd (h (within-antisym a b e (count-empty (without-lt 64 a l) z))))
    (λ p. omega (arith, count-without b a e))
    (eq-zero-or-pos (count (without b a)))

pub count-pos : {m : ℕ} → m < 2 ^ 64 → 0 < m → 0 < count m
count-pos {m} l p = ⊎_elim (λ z. absurd (omega (arith, count-empty l z))) (λ q. q) (eq-zero-or-pos (count m))

-- one element
pub count-pow : (v : ℕ) → v < 64 → count (2 ^ v) ≡ 1
count-pow v l =
    count-sum (2 ^ v)
    ∙ sum-only 64 v l (λ w k h. bit-none (2 ^ v) w (has-pow-other v w h))
    ∙ bit-one (2 ^ v) v (has-pow-same v)

pub count-put : (m v : ℕ) → v < 64 → has m v ≡ false → count (bit_or m (2 ^ v)) ≡ suc (count m)
count-put m v l e = omega (arith, count-or m (2 ^ v) (and-pow-apart m v e), count-pow v l)

pub count-take : (m v : ℕ) → v < 64 → has m v ≡ true → count m ≡ suc (count (without m (2 ^ v)))
count-take m v l e = omega (arith, count-without m (2 ^ v) (pow-within m v e), count-pow v l)

-- a count of 1 leaves no second element
pub count-one-only : (m v w : ℕ) → v < 64 → w < 64 → count m ≡ 1 → has m v ≡ true → has m w ≡ true → w ≡ v
count-one-only m v w l k e p q =
    ⊎_elim (λ t. t)
    (λ n. absurd (omega (arith, count-take m v l p, count-take (without m (2 ^ v)) w k (has-take-other m v w n ∙ q))))
    (eq-or-ne w v)

-- ---- the lowest element

under-zero : (d t v : ℕ) → v < under d t → (d ≡ 0) × (v < suc t)
under-zero zero t v l = (refl, l)
under-zero (suc d) t v l = absurd (not-suc-le-zero l)

-- below the lowest there is nothing
pub trailing-under : (k m v : ℕ) → v < count_trailing_zeros k m → has m v ≡ false
unfolding count_trailing_zeros
trailing-under zero m v l = absurd (not-suc-le-zero l)
trailing-under (suc k) m zero l = has-low m ∙ rw (under-zero (m % 2) (count_trailing_zeros k (m / 2)) 0 l).0
trailing-under (suc k) m (suc v) l =
    has-up m v ∙ trailing-under k (m / 2) v (le_of_suc-le-suc (under-zero (m % 2) (count_trailing_zeros k (m / 2)) (suc v) l).1)

-- and it is in the mask, where the mask has anything below k
pub trailing-has : (k m : ℕ) → count_trailing_zeros k m < k → has m (count_trailing_zeros k m) ≡ true
unfolding count_trailing_zeros
trailing-has zero m l = absurd (not-suc-le-zero l)
trailing-has (suc k) m l = go (m % 2) refl (mod-lt m (zero-lt-suc 1)) (trailing-has k (m / 2)) l
  where
    go : (d : ℕ) → m % 2 ≡ d → d < 2 → (count_trailing_zeros k (m / 2) < k → has (m / 2) (count_trailing_zeros k (m / 2)) ≡ true)
        → under d (count_trailing_zeros k (m / 2)) < suc k → has m (under d (count_trailing_zeros k (m / 2))) ≡ true
    go zero e b ih l = has-up m (count_trailing_zeros k (m / 2)) ∙ ih (le_of_suc-le-suc l)
    go (suc zero) e b ih l = has-low m ∙ rw e
    go (suc (suc d)) e b ih l = absurd (omega arith)

-- nothing in the mask is lower
pub trailing-least : (k m v : ℕ) → has m v ≡ true → count_trailing_zeros k m ≤ v
trailing-least k m v h = ⊎_elim (λ l. absurd (clash h (trailing-under k m v l))) (λ l. l) (lt-or-le v (count_trailing_zeros k m))

-- so the first place that the mask has is the lowest
pub trailing-unique : (k m v : ℕ) → v < k → has m v ≡ true → ((w : ℕ) → w < v → has m w ≡ false) → count_trailing_zeros k m ≡ v
trailing-unique k m v l h low =
    ⊎_elim (λ e. e) (λ s. absurd (clash (trailing-has k m (lt_trans s l)) (low (count_trailing_zeros k m) s))) (eq-or-lt_of_le (trailing-least k m v h))

pub trailing-pow : (k v : ℕ) → v < k → count_trailing_zeros k (2 ^ v) ≡ v
trailing-pow k v l = trailing-unique k (2 ^ v) v l (has-pow-same v) (λ w s. has-pow-other v w (λ e. omega arith))

pub trailing_lt : (k : ℕ) {m : ℕ} → m < 2 ^ k → 0 < m → count_trailing_zeros k m < k
trailing_lt k {m} l p =
    ⊎_elim
    (λ h. h)
    (λ h. absurd (omega (arith, empty-below k l (λ v s. trailing-under k m v (lt_of_lt_of_le s h)))))
    (lt-or-le (count_trailing_zeros k m) k)

pub trailing-in : (k : ℕ) {m : ℕ} → m < 2 ^ k → 0 < m → has m (count_trailing_zeros k m) ≡ true
trailing-in k {m} l p = trailing-has k m (trailing_lt k l p)

-- a turn of a loop that takes out the lowest
pub count-lowest : {m : ℕ} → m < 2 ^ 64 → 0 < m → count m ≡ suc (count (without m (2 ^ count_trailing_zeros 64 m)))
count-lowest {m} l p = count-take m (count_trailing_zeros 64 m) (trailing_lt 64 l p) (trailing-in 64 l p)

-- a mask with one element is that element
pub count-one : {m : ℕ} → m < 2 ^ 64 → count m ≡ 1 → m ≡ 2 ^ count_trailing_zeros 64 m
count-one {m} l e =
    let p : 0 < m = ⊎_elim (λ z. absurd (omega (arith, ap count z, count-zero))) (λ q. q) (eq-zero-or-pos m) in
    let t : ℕ = count_trailing_zeros 64 m in
    let rest : without m (2 ^ t) ≡ 0 = count-empty (without-lt 64 (2 ^ t) l) (omega (arith, count-lowest l p)) in
    sym (take_put m t (trailing-in 64 l p)) ∙ ap (λ (x : ℕ). bit_or x (2 ^ t)) rest
