-- Laws of sums, tests and the smallest over the indices below a count.
-- All by induction on the count: what is assumed at every index below suc n holds below n, and at n.
-- The laws that end in `-more` meet code, which counts by `n + 1`.
use Prim.Native.Nat.{ℕ, zero, suc, ◌+◌, ◌-◌, ◌*◌, ◌≤◌, ◌<◌, min}
use mathlib.Core.Path.{◌≡◌, refl, sym, ap, ap₂, ◌∙◌, subst}
use mathlib.Core.Logic.{◌↔◌, ⊎_elim}
use mathlib.Core.Bool.{Bool, true, false, ◌&&◌, true≢false}
use native.Mathlib.Nat.{le_refl, le_step, le_of_lt, le_of_suc-le-suc, eq-or-lt_of_le, eq-zero-or-pos, not-suc-le-zero, add-zero, add-suc}
use native.Mathlib.Nat.{zero-add, add-sub_of_le, mul-zero, mul-add, min-le_right, min-eq_left, min-eq_right, le-min}
use native.Mathlib.Numerals.{add-one}
use native.Mathlib.Omega.{arith}
use lib.Arith.{le-zero}
use mathlib.Core.List.{List}
use lib.ListN.{length, get_or}
use Rattle.std.proofs.lemmas.List.Sums.{sum_by-cons}
use Rattle.std.specs.Bool.{MatchBool}
use Rattle.std.proofs.lemmas.List.FromFn.{length-range_with_len, get_or-range_with_len}
use Rattle.std.specs.List.{AllWithin, HoldsAt, range_with_len, sum_by}
use Rattle.masks.specs.Sums.{sum, every, smallest}
use Rattle.masks.proofs.Choice.{cases, lt-or-le, not_so, clash, and_left, and_right, and-swap}

-- ---- what holds below suc n: below n, and at n

pub downwards : {P : ℕ → Type 0} {n : ℕ} → ((i : ℕ) → i < suc n → P i) → (i : ℕ) → i < n → P i
downwards h i l = h i (le_step l)

pub upwards : {P : ℕ → Type 0} {n : ℕ} → ((i : ℕ) → i < n → P i) → P n → (i : ℕ) → i < suc n → P i
upwards {P} h here i l = ⊎_elim (λ e. subst P (sym e) here) (λ m. h i m) (eq-or-lt_of_le (le_of_suc-le-suc l))

-- ---- sums

pub sum-empty : (f : ℕ → ℕ) → sum 0 f ≡ 0
unfolding sum
sum-empty f = refl

pub sum-suc : (n : ℕ) (f : ℕ → ℕ) → sum (suc n) f ≡ sum n f + f n
unfolding sum
sum-suc n f = refl

pub sum_more : (n : ℕ) (f : ℕ → ℕ) → sum (n + 1) f ≡ sum n f + f n
sum_more n f = rw add-one (sum-suc n f)

pub sum-ext : (n : ℕ) {f g : ℕ → ℕ} → ((i : ℕ) → i < n → f i ≡ g i) → sum n f ≡ sum n g
unfolding sum
sum-ext zero h = refl
sum-ext (suc n) h = ap₂ (λ (x y : ℕ). x + y) (sum-ext n (downwards h)) (h n (le_refl (suc n)))

pub sum-zero : (n : ℕ) {f : ℕ → ℕ} → ((i : ℕ) → i < n → f i ≡ 0) → sum n f ≡ 0
unfolding sum
sum-zero zero h = refl
sum-zero (suc n) h = omega (arith, sum-zero n (downwards h), h n (le_refl (suc n)))

pub sum-add : (n : ℕ) (f g : ℕ → ℕ) → sum n (λ i. f i + g i) ≡ sum n f + sum n g
unfolding sum
sum-add zero f g = refl
sum-add (suc n) f g = omega (arith, sum-add n f g)

pub sum-scale : (n k : ℕ) (f : ℕ → ℕ) → sum n (λ i. k * f i) ≡ k * sum n f
unfolding sum
sum-scale zero k f = sym (mul-zero k)
sum-scale (suc n) k f = rw (mul-add, sum-scale n k f)

pub sum-le : (n : ℕ) {f g : ℕ → ℕ} → ((i : ℕ) → i < n → f i ≤ g i) → sum n f ≤ sum n g
unfolding sum
sum-le zero h = le_refl 0
sum-le (suc n) h = omega (arith, sum-le n (downwards h), h n (le_refl (suc n)))

-- each term is at most k
pub sum_bound : (n k : ℕ) {f : ℕ → ℕ} → ((i : ℕ) → i < n → f i ≤ k) → sum n f ≤ n * k
unfolding sum
sum_bound zero k h = omega arith
sum_bound (suc n) k h = omega (arith, sum_bound n k (downwards h), h n (le_refl (suc n)))

pub le-sum : (n : ℕ) (f : ℕ → ℕ) (i : ℕ) → i < n → f i ≤ sum n f
unfolding sum
le-sum zero f i l = absurd (not-suc-le-zero l)
le-sum (suc n) f i l = upwards {P = λ i. f i ≤ sum n f + f n} (λ i m. omega (arith, le-sum n f i m)) (omega arith) i l

-- a sum is 0 only where each term is
pub sum-none : (n : ℕ) (f : ℕ → ℕ) → sum n f ≡ 0 → (i : ℕ) → i < n → f i ≡ 0
sum-none n f e i l = omega (arith, le-sum n f i l)

pub sum-split : (n m : ℕ) (f : ℕ → ℕ) → sum (n + m) f ≡ sum n f + sum m (λ i. f (n + i))
unfolding sum
sum-split n zero f = rw (add-zero n, add-zero (sum n f))
sum-split n (suc m) f = rw add-suc (omega (arith, sum-split n m f))

-- the terms from n to m
pub sum-upto : (n m : ℕ) (f : ℕ → ℕ) → n ≤ m → sum m f ≡ sum n f + sum (m - n) (λ i. f (n + i))
sum-upto n m f h = ap (λ (k : ℕ). sum k f) (sym (add-sub_of_le h)) ∙ sum-split n (m - n) f

pub sum_mono : (n m : ℕ) (f : ℕ → ℕ) → n ≤ m → sum n f ≤ sum m f
sum_mono n m f h = omega (arith, sum-upto n m f h)

-- nothing from n on
pub sum_past : (n m : ℕ) (f : ℕ → ℕ) → n ≤ m → ((i : ℕ) → n ≤ i → i < m → f i ≡ 0) → sum m f ≡ sum n f
sum_past n m f h z = omega (arith, sum-upto n m f h, sum-zero (m - n) {f = λ i. f (n + i)} (λ i l. z (n + i) (omega arith) (omega arith)))

-- the first term apart
pub sum-front : (n : ℕ) (f : ℕ → ℕ) → sum (suc n) f ≡ f 0 + sum n (λ i. f (suc i))
unfolding sum
sum-front zero f = omega arith
sum-front (suc n) f = omega (arith, sum-front n f)

pub sum-swap : (n m : ℕ) (f : ℕ → ℕ → ℕ) → sum n (λ i. sum m (λ j. f i j)) ≡ sum m (λ j. sum n (λ i. f i j))
unfolding sum
sum-swap zero m f = sym (sum-zero m (λ j l. refl))
sum-swap (suc n) m f = rw (sum-swap n m f) (sym (sum-add m (λ j. sum n (λ i. f i j)) (f n)))

-- two functions that agree at every index but i
pub sum-change : (n : ℕ) {f g : ℕ → ℕ} (i : ℕ) → i < n → ((j : ℕ) → j < n → (j ≡ i → ⊥) → f j ≡ g j) → sum n f + g i ≡ sum n g + f i
unfolding sum
sum-change zero i l h = absurd (not-suc-le-zero l)
sum-change (suc n) {f} {g} i l h =
    ⊎_elim
    (λ e. rw e (omega (arith, sum-ext n {f = f} {g = g} (λ j m. h j (le_step m) (λ q. omega arith)))))
    (λ m. omega (arith, sum-change n {f = f} {g = g} i m (λ j k. h j (le_step k)), h n (le_refl (suc n)) (λ q. omega arith)))
    (eq-or-lt_of_le (le_of_suc-le-suc l))

-- all terms but one are 0
pub sum-only : (n : ℕ) {f : ℕ → ℕ} (i : ℕ) → i < n → ((j : ℕ) → j < n → (j ≡ i → ⊥) → f j ≡ 0) → sum n f ≡ f i
sum-only n {f} i l h = omega (arith, sum-change n {f = f} {g = λ j. 0} i l h, sum-zero n {f = λ j. 0} (λ j m. refl))

-- a sum of which one term at most is not 0
pub sum-one-of : (n k : ℕ) {f : ℕ → ℕ} → ((i : ℕ) → i < n → f i ≤ k) → ((i j : ℕ) → i < n → j < n → 0 < f i → 0 < f j → i ≡ j) → sum n f ≤ k
unfolding sum
sum-one-of zero k h only = omega arith
sum-one-of (suc n) k {f} h only =
    ⊎_elim
    (λ z. omega (arith, sum-one-of n k {f = f} (downwards h) (λ i j a b. only i j (le_step a) (le_step b))))
    (λ s.
    let rest : sum n f ≡ 0 =
    sum-zero n (λ i l. ⊎_elim (λ z. z) (λ q. absurd (omega (arith, only i n (le_step l) (le_refl (suc n)) q s))) (eq-zero-or-pos (f i))) in
    omega (arith, h n (le_refl (suc n))))
    (eq-zero-or-pos (f n))

-- at most everywhere, and less at one index
pub sum_lt : (n : ℕ) {f g : ℕ → ℕ} (i : ℕ) → i < n → ((j : ℕ) → j < n → f j ≤ g j) → f i < g i → sum n f < sum n g
unfolding sum
sum_lt zero i l h s = absurd (not-suc-le-zero l)
sum_lt (suc n) {f} {g} i l h s =
    ⊎_elim
    (λ e. omega (arith, sum-le n {f = f} {g = g} (downwards h), ap f e, ap g e))
    (λ m. omega (arith, sum_lt n {f = f} {g = g} i m (downwards h) s, h n (le_refl (suc n))))
    (eq-or-lt_of_le (le_of_suc-le-suc l))

-- what `sum` says of a number for each index below a count
pub sum-from_range : (a n : ℕ) (f : ℕ → ℕ) → sum_by f (range_with_len a n) ≡ sum n (λ i. f (a + i))
unfolding sum
sum-from_range a zero f = refl
sum-from_range a (suc n) f =
    let first : f (a + 0) ≡ f a = ap f (add-zero a) in
    let rest : sum n (λ i. f (a + 1 + i)) ≡ sum n (λ i. f (a + suc i)) = sum-ext n (λ i l. ap f (omega arith)) in
    omega (arith, sum_by-cons f a (range_with_len (a + 1) n), sum-from_range (a + 1) n f, sum-front n (λ i. f (a + i)), first, rest)

-- ---- tests

pub every-empty : (p : ℕ → Bool) → every 0 p ≡ true
unfolding every
every-empty p = refl

pub every-suc : (n : ℕ) (p : ℕ → Bool) → every (suc n) p ≡ (every n p && p n)
unfolding every
every-suc n p = refl

pub every_more : (n : ℕ) (p : ℕ → Bool) → every (n + 1) p ≡ (every n p && p n)
every_more n p = rw add-one (every-suc n p)

pub every-ext : (n : ℕ) {p q : ℕ → Bool} → ((i : ℕ) → i < n → p i ≡ q i) → every n p ≡ every n q
unfolding every
every-ext zero h = refl
every-ext (suc n) h = ap₂ (λ (x y : Bool). x && y) (every-ext n (downwards h)) (h n (le_refl (suc n)))

pub every_true : (n : ℕ) {p : ℕ → Bool} → ((i : ℕ) → i < n → p i ≡ true) → every n p ≡ true
unfolding every
every_true zero h = refl
every_true (suc n) h = rw (every_true n (downwards h)) (h n (le_refl (suc n)))

pub every-at : (n : ℕ) (p : ℕ → Bool) → every n p ≡ true → (i : ℕ) → i < n → p i ≡ true
unfolding every
every-at zero p e i l = absurd (not-suc-le-zero l)
every-at (suc n) p e i l =
    upwards {P = λ i. p i ≡ true} (every-at n p (and_left (every n p) (p n) e)) (and_right (every n p) (p n) e) i l

pub every-iff : (n : ℕ) (p : ℕ → Bool) → (every n p ≡ true) ↔ ((i : ℕ) → i < n → p i ≡ true)
every-iff n p = (every-at n p, every_true n)

-- a test that fails does so at a first index
pub every-fails : (n : ℕ) (p : ℕ → Bool) → every n p ≡ false → (i : ℕ) × (i < n) × (p i ≡ false) × ((j : ℕ) → j < i → p j ≡ true)
unfolding every
every-fails zero p e = absurd (true≢false e)
every-fails (suc n) p e =
    ⊎_elim
    (λ t. (n, le_refl (suc n), rw t at e, every-at n p t))
    (λ t. let w = every-fails n p t in (w.0, le_step w.1, w.2, w.3))
    (cases (every n p))

-- one index at which the test fails is enough
pub every-false : (n : ℕ) (p : ℕ → Bool) (i : ℕ) → i < n → p i ≡ false → every n p ≡ false
every-false n p i l e = not_so (λ t. clash (every-at n p t i l) e)

pub every-and : (n : ℕ) (p q : ℕ → Bool) → every n (λ i. p i && q i) ≡ (every n p && every n q)
unfolding every
every-and zero p q = refl
every-and (suc n) p q = rw (every-and n p q) (and-swap (every n p) (every n q) (p n) (q n))

-- what `all` says of the elements of a list, read by their indices
pub every-from_all : (r : Bool) (xs : List ℕ) (p : ℕ → Bool)
    → MatchBool r (AllWithin (λ x. p x ≡ true) xs 0 (length xs)) ((k : ℕ) × (k < length xs) × HoldsAt (λ x. p x ≡ false) xs k)
    → r ≡ every (length xs) (λ i. p (get_or xs i 0))
every-from_all true xs p h = sym (every_true (length xs) (λ i l. h i 0 (omega arith) l))
every-from_all false xs p h = sym (every-false (length xs) (λ i. p (get_or xs i 0)) h.0 h.1 (h.2 0))

count_at : (n i : ℕ) → i < n → get_or (range_with_len 0 n) i 0 ≡ i
count_at n i l = get_or-range_with_len 0 n i 0 l ∙ zero-add i

-- what `all` says of the numbers below a count
pub every-from_range : (r : Bool) (n : ℕ) (p : ℕ → Bool)
    → MatchBool r (AllWithin (λ x. p x ≡ true) (range_with_len 0 n) 0 (length (range_with_len 0 n)))
    ((k : ℕ) × (k < length (range_with_len 0 n)) × HoldsAt (λ x. p x ≡ false) (range_with_len 0 n) k)
    → r ≡ every n p
every-from_range true n p h =
    sym (every_true n (λ i l. ap p (sym (count_at n i l)) ∙ h i 0 (omega arith) (rw length-range_with_len l)))
every-from_range false n p h =
    let l : h.0 < n = omega (arith, h.1, length-range_with_len 0 n) in
    sym (every-false n p h.0 l (ap p (sym (count_at n h.0 l)) ∙ h.2 0))

-- ---- the smallest

pub smallest-empty : (f : ℕ → ℕ) → smallest 0 f ≡ f 0
unfolding smallest
smallest-empty f = refl

pub smallest-suc : (n : ℕ) (f : ℕ → ℕ) → smallest (suc n) f ≡ min (smallest n f) (f (suc n))
unfolding smallest
smallest-suc n f = refl

pub smallest-more : (n : ℕ) (f : ℕ → ℕ) → smallest (n + 1) f ≡ min (smallest n f) (f (n + 1))
smallest-more n f = rw (add-one n) (smallest-suc n f)

pub smallest-ext : (n : ℕ) {f g : ℕ → ℕ} → ((i : ℕ) → i ≤ n → f i ≡ g i) → smallest n f ≡ smallest n g
unfolding smallest
smallest-ext zero h = h 0 (le_refl 0)
smallest-ext (suc n) h = ap₂ min (smallest-ext n (λ i l. h i (le_step l))) (h (suc n) (le_refl (suc n)))

pub smallest-le : (n : ℕ) (f : ℕ → ℕ) (i : ℕ) → i ≤ n → smallest n f ≤ f i
unfolding smallest
smallest-le zero f i l = rw (le-zero l) (le_refl (f 0))
smallest-le (suc n) f i l =
    ⊎_elim
    (λ e. rw e (min-le_right (smallest n f) (f (suc n))))
    (λ m. omega (arith, smallest-le n f i (le_of_suc-le-suc m)))
    (eq-or-lt_of_le l)

pub le-smallest : (n k : ℕ) (f : ℕ → ℕ) → ((i : ℕ) → i ≤ n → k ≤ f i) → k ≤ smallest n f
unfolding smallest
le-smallest zero k f h = h 0 (le_refl 0)
le-smallest (suc n) k f h = le-min (le-smallest n k f (λ i l. h i (le_step l))) (h (suc n) (le_refl (suc n)))

-- it is attained
pub smallest-at : (n : ℕ) (f : ℕ → ℕ) → (i : ℕ) × (i ≤ n) × (smallest n f ≡ f i)
unfolding smallest
smallest-at zero f = (0, le_refl 0, refl)
smallest-at (suc n) f =
    let w = smallest-at n f in
    ⊎_elim
    (λ l. (suc n, le_refl (suc n), min-eq_right (le_of_lt l)))
    (λ l. (w.0, le_step w.1, min-eq_left l ∙ w.2))
    (lt-or-le (f (suc n)) (smallest n f))
