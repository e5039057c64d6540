-- Laws of the single bits of a mask. A number is known by its bits (`bit-ext`), hence by what it has (`has-ext`), by induction on binary digits.
-- The operations act on each bit apart, since they pass through shifts (`and_shr` and its like) and reductions modulo 2.
-- So an identity of masks is an identity of tests: `has-ext` and the cases of what each mask has.
use Prim.Native.Nat.{ℕ, zero, suc, ◌+◌, ◌*◌, ◌/◌, ◌%◌, ◌^◌, ◌≤◌, ◌<◌}
use mathlib.Core.Path.{◌≡◌, refl, sym, ap, ◌∙◌}
use mathlib.Core.Logic.{⊎_elim}
use mathlib.Core.Bool.{Bool, true, false, not, cond, xor, ◌&&◌, ◌||◌}
use native.Mathlib.Nat.{zero-lt-suc, zero-div, div-one, div-eq_of_lt, div-lt_iff_lt-mul, div-div-eq-div-mul, mod-lt, pow-succ', lt_of_lt_of_le}
use native.Mathlib.Nat.{one-mul, pow-suc, mul-mod_left, mul-div_cancel}
use native.Mathlib.Omega.{arith}
use lib.Arith.{bin_ind}
use lib.Bits.{bit_and, bit_or, bit_xor, and_shr, or_shr, xor_shr, and_mod, or_mod, xor_mod}
use lib.Dec.{eqb, eqb-zero-suc, eqb-suc-zero, eqb-suc-suc}
use lib.Pow.{pow_pos, pow_mono, shr-shr}
use borrow.Author.Tests.{eqb-true, eq-eqb, ne_eqb, ltb-true, lt-ltb}
use Rattle.masks.specs.Masks.{bit, has, without, below}
use Rattle.masks.proofs.Choice.{lt-or-le, clash, same_test, same2, two-tests}

-- ---- one bit

pub bit-lt : (m v : ℕ) → bit m v < 2
unfolding bit
bit-lt m v = mod-lt (m / 2 ^ v) (zero-lt-suc 1)

pub bit-has : (m v : ℕ) → bit m v ≡ cond (has m v) 1 0
unfolding has
bit-has m v = two (bit m v) (bit-lt m v)
  where
    two : (x : ℕ) → x < 2 → x ≡ cond (eqb x 1) 1 0
    two zero l = refl
    two (suc zero) l = refl
    two (suc (suc x)) l = absurd (omega arith)

pub bit-one : (m v : ℕ) → has m v ≡ true → bit m v ≡ 1
bit-one m v e = bit-has m v ∙ rw e

pub bit-none : (m v : ℕ) → has m v ≡ false → bit m v ≡ 0
bit-none m v e = bit-has m v ∙ rw e

-- the lowest bit, and those above it
pub bit-low : (m : ℕ) → bit m 0 ≡ m % 2
unfolding bit
bit-low m = ap (λ (x : ℕ). x % 2) (div-one m)

pub bit_up : (m v : ℕ) → bit m (suc v) ≡ bit (m / 2) v
unfolding bit
bit_up m v = ap (λ (x : ℕ). x % 2) (ap (λ (x : ℕ). m / x) (pow-succ' 2 v) ∙ sym (div-div-eq-div-mul m 2 (2 ^ v)))

pub bit-shr : (m k v : ℕ) → bit (m / 2 ^ k) v ≡ bit m (k + v)
unfolding bit
bit-shr m k v = ap (λ (x : ℕ). x % 2) (shr-shr m k v)

pub has-low : (m : ℕ) → has m 0 ≡ eqb (m % 2) 1
unfolding has
has-low m = ap (λ (x : ℕ). eqb x 1) (bit-low m)

pub has-up : (m v : ℕ) → has m (suc v) ≡ has (m / 2) v
unfolding has
has-up m v = ap (λ (x : ℕ). eqb x 1) (bit_up m v)

pub has-shr : (m k v : ℕ) → has (m / 2 ^ k) v ≡ has m (k + v)
unfolding has
has-shr m k v = ap (λ (x : ℕ). eqb x 1) (bit-shr m k v)

pub bit-zero : (v : ℕ) → bit 0 v ≡ 0
unfolding bit
bit-zero v = ap (λ (x : ℕ). x % 2) (zero-div (2 ^ v))

pub has-zero : (v : ℕ) → has 0 v ≡ false
unfolding has
has-zero v = ap (λ (x : ℕ). eqb x 1) (bit-zero v)

-- ---- a number is known by its bits

pub bit-ext : (a b : ℕ) → ((v : ℕ) → bit a v ≡ bit b v) → a ≡ b
bit-ext =
    bin_ind (λ (n : ℕ). (b : ℕ) → ((v : ℕ) → bit n v ≡ bit b v) → n ≡ b)
    (bin_ind (λ (b : ℕ). ((v : ℕ) → bit 0 v ≡ bit b v) → 0 ≡ b) (λ h. refl)
    (λ b ih h. omega (arith, ih (λ v. sym (bit_up 0 v) ∙ h (suc v) ∙ bit_up b v), sym (bit-low 0) ∙ h 0 ∙ bit-low b)))
    (λ n ih b h. omega (arith, ih (b / 2) (λ v. sym (bit_up n v) ∙ h (suc v) ∙ bit_up b v), sym (bit-low n) ∙ h 0 ∙ bit-low b))

pub has-ext : {a b : ℕ} → ((v : ℕ) → has a v ≡ has b v) → a ≡ b
has-ext {a} {b} h = bit-ext a b (λ v. bit-has a v ∙ ap (λ (t : Bool). cond t 1 0) (h v) ∙ sym (bit-has b v))

-- a mask that has nothing
pub empty : {m : ℕ} → ((v : ℕ) → has m v ≡ false) → m ≡ 0
empty h = has-ext (λ v. h v ∙ sym (has-zero v))

-- ---- how far a mask reaches

pub has-past : (n : ℕ) {m v : ℕ} → m < 2 ^ n → n ≤ v → has m v ≡ false
unfolding has bit
has-past n l h = rw (div-eq_of_lt (lt_of_lt_of_le l (pow_mono h)))

shr-empty : (m n : ℕ) → m / 2 ^ n ≡ 0 → m < 2 ^ n
shr-empty m n e = rw one-mul at ((div-lt_iff_lt-mul {x = m} {y = 1} (pow_pos n)).0 (omega arith))

pub lt-of-has : (m n : ℕ) → ((v : ℕ) → n ≤ v → has m v ≡ false) → m < 2 ^ n
lt-of-has m n h = shr-empty m n (empty (λ v. has-shr m n v ∙ h (n + v) (omega arith)))

-- what is in a mask of n bits is below n
pub has-lt : (n : ℕ) {m v : ℕ} → m < 2 ^ n → has m v ≡ true → v < n
has-lt n {m} {v} l e = ⊎_elim (λ k. k) (λ k. absurd (clash e (has-past n l k))) (lt-or-le v n)

pub below-lt : (m n : ℕ) → below m n ≡ true → m < 2 ^ n
unfolding below
below-lt m n e = ltb-true m (2 ^ n) e

pub lt-below : (n : ℕ) {m : ℕ} → m < 2 ^ n → below m n ≡ true
unfolding below
lt-below n {m} l = lt-ltb m (2 ^ n) l

pub below-past : (m n v : ℕ) → below m n ≡ true → n ≤ v → has m v ≡ false
below-past m n v e h = has-past n (below-lt m n e) h

pub below-of-has : (m n : ℕ) → ((v : ℕ) → n ≤ v → has m v ≡ false) → below m n ≡ true
below-of-has m n h = lt-below n (lt-of-has m n h)

pub below-shr : (m n : ℕ) → below m n ≡ eqb (m / 2 ^ n) 0
unfolding below
below-shr m n =
    same_test
    (λ t. eq-eqb (m / 2 ^ n) 0 (div-eq_of_lt (ltb-true m (2 ^ n) t)))
    (λ t. lt-ltb m (2 ^ n) (shr-empty m n (eqb-true (m / 2 ^ n) 0 t)))

pub has-ext-below : (n : ℕ) {a b : ℕ} → a < 2 ^ n → b < 2 ^ n → ((v : ℕ) → v < n → has a v ≡ has b v) → a ≡ b
has-ext-below n ha hb h = has-ext (λ v. ⊎_elim (h v) (λ k. has-past n ha k ∙ sym (has-past n hb k)) (lt-or-le v n))

pub bit-ext-below : (n : ℕ) {a b : ℕ} → a < 2 ^ n → b < 2 ^ n → ((v : ℕ) → v < n → bit a v ≡ bit b v) → a ≡ b
unfolding has
bit-ext-below n ha hb h = has-ext-below n ha hb (λ v l. ap (λ (x : ℕ). eqb x 1) (h v l))

pub empty-below : (n : ℕ) {m : ℕ} → m < 2 ^ n → ((v : ℕ) → v < n → has m v ≡ false) → m ≡ 0
empty-below n l h = has-ext-below n l (pow_pos n) (λ v k. h v k ∙ sym (has-zero v))

-- ---- the operations, bit by bit

-- what holds at 0 and 1 holds of all bits
two-bits : (P : ℕ → ℕ → Type 0) → P 0 0 → P 0 1 → P 1 0 → P 1 1 → (x y : ℕ) → x < 2 → y < 2 → P x y
two-bits P a b c d zero zero l k = a
two-bits P a b c d zero (suc zero) l k = b
two-bits P a b c d (suc zero) zero l k = c
two-bits P a b c d (suc zero) (suc zero) l k = d
two-bits P a b c d zero (suc (suc y)) l k = absurd (omega arith)
two-bits P a b c d (suc zero) (suc (suc y)) l k = absurd (omega arith)
two-bits P a b c d (suc (suc x)) y l k = absurd (omega arith)

-- an operation that passes through shifts and reductions, and that answers a test of two bits at 0 and 1
module _ (op : ℕ → ℕ → ℕ) (test : Bool → Bool → Bool)
    (shr : (a b k : ℕ) → op a b / 2 ^ k ≡ op (a / 2 ^ k) (b / 2 ^ k))
    (mod2 : (a b k : ℕ) → op a b % 2 ^ k ≡ op (a % 2 ^ k) (b % 2 ^ k))
    (table : (x y : ℕ) → x < 2 → y < 2 → eqb (op x y) 1 ≡ test (eqb x 1) (eqb y 1)) where
  has-op : (a b v : ℕ) → has (op a b) v ≡ test (has a v) (has b v)
  unfolding has bit
  has-op a b v = rw (shr a b v, mod2 (a / 2 ^ v) (b / 2 ^ v) 1) (table (bit a v) (bit b v) (bit-lt a v) (bit-lt b v))

pub has-and : (a b v : ℕ) → has (bit_and a b) v ≡ (has a v && has b v)
has-and = has-op bit_and ◌&&◌ and_shr and_mod (two-bits (λ x y. eqb (bit_and x y) 1 ≡ (eqb x 1 && eqb y 1)) refl refl refl refl)

pub has-or : (a b v : ℕ) → has (bit_or a b) v ≡ (has a v || has b v)
has-or = has-op bit_or ◌||◌ or_shr or_mod (two-bits (λ x y. eqb (bit_or x y) 1 ≡ (eqb x 1 || eqb y 1)) refl refl refl refl)

pub has-xor : (a b v : ℕ) → has (bit_xor a b) v ≡ xor (has a v) (has b v)
unfolding xor
has-xor = has-op bit_xor xor xor_shr xor_mod (two-bits (λ x y. eqb (bit_xor x y) 1 ≡ xor (eqb x 1) (eqb y 1)) refl refl refl refl)

pub has-without : (a b v : ℕ) → has (without a b) v ≡ (has a v && not (has b v))
unfolding without xor
has-without a b v =
    rw (has-xor a (bit_and a b) v, has-and a b v) (same2 (λ x y. xor x (x && y)) (λ x y. x && not y) tt (has a v) (has b v))

pub has-pow : (v w : ℕ) → has (2 ^ v) w ≡ eqb w v
has-pow zero zero = has-low 1
has-pow zero (suc w) = has-up 1 w ∙ has-zero w ∙ sym (eqb-suc-zero w)
has-pow (suc v) zero = has-low (2 ^ suc v) ∙ rw (pow-suc 2 v, mul-mod_left (2 ^ v) 2) (sym (eqb-zero-suc v))
has-pow (suc v) (suc w) = has-up (2 ^ suc v) w ∙ rw (pow-suc 2 v, mul-div_cancel (2 ^ v) (zero-lt-suc 1)) (has-pow v w ∙ sym (eqb-suc-suc w v))

pub has-pow-same : (v : ℕ) → has (2 ^ v) v ≡ true
has-pow-same v = has-pow v v ∙ eq-eqb v v refl

pub has-pow-other : (v w : ℕ) → (w ≡ v → ⊥) → has (2 ^ v) w ≡ false
has-pow-other v w h = has-pow v w ∙ ne_eqb w v h

-- ---- the same in numbers, for sums over the bits

pub bit-pow : (v w : ℕ) → bit (2 ^ v) w ≡ cond (eqb w v) 1 0
bit-pow v w = bit-has (2 ^ v) w ∙ rw (has-pow v w)

pub bit-and : (a b v : ℕ) → bit (bit_and a b) v ≡ bit a v * bit b v
bit-and a b v =
    rw (bit-has (bit_and a b) v, bit-has a v, bit-has b v, has-and a b v)
    (two-tests (λ x y. cond (x && y) 1 0 ≡ cond x 1 0 * cond y 1 0) refl refl refl refl (has a v) (has b v))

-- what a union has twice is in the meet
pub bit-or-and : (a b v : ℕ) → bit (bit_or a b) v + bit (bit_and a b) v ≡ bit a v + bit b v
bit-or-and a b v =
    rw (bit-has (bit_or a b) v, bit-has (bit_and a b) v, bit-has a v, bit-has b v, has-or a b v, has-and a b v)
    (two-tests (λ x y. cond (x || y) 1 0 + cond (x && y) 1 0 ≡ cond x 1 0 + cond y 1 0) refl refl refl refl (has a v) (has b v))

-- what is inside s and what is outside
pub bit-split : (m s v : ℕ) → bit m v ≡ bit (bit_and m s) v + bit (without m s) v
bit-split m s v =
    rw (bit-has m v, bit-has (bit_and m s) v, bit-has (without m s) v, has-and m s v, has-without m s v)
    (two-tests (λ x y. cond x 1 0 ≡ cond (x && y) 1 0 + cond (x && not y) 1 0) refl refl refl refl (has m v) (has s v))
