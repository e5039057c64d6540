-- Identities of masks as sets: union `bit_or`, meet `bit_and`, difference `without`; subsets and masks apart; one element put in or taken out.
-- Each follows by `has-ext` from an identity of tests, which computing decides (`same2`, `same3`).
-- `without a b ≡ 0` says that a is within b, and `bit_and a b ≡ 0` that the two are apart.
use Prim.Native.Nat.{ℕ, ◌+◌, ◌-◌, ◌^◌, ◌≤◌, ◌<◌}
use mathlib.Core.Path.{◌≡◌, refl, sym, ap, ◌∙◌}
use mathlib.Core.Logic.{◌↔◌, ⊎_elim}
use mathlib.Core.Bool.{Bool, true, false, not, ◌&&◌, ◌||◌, and-true, and-false, or-true, or-false}
use native.Mathlib.Nat.{lt_of_le_of_lt, mod-eq_of_lt}
use native.Mathlib.Omega.{arith}
use lib.Bits.{bit_and, bit_or, and_le_l, and_le_r, or_add_and, or_lt, and_comm, or_comm, and_mask, xor_add_and}
use lib.Dec.{eqb, ltb}
use lib.Pow.{pow_pos, pow-lt}
use borrow.Author.Tests.{eqb-true, eqb-false, eq-eqb, lt-ltb, le-ltb, ltb-true, ne_eqb}
use Rattle.masks.specs.Masks.{has, without, none, single}
use Rattle.masks.proofs.Choice.{cases, not_so, so, clash, and_left, and_right, both, same_test, same1, same2, same3}
use Rattle.masks.proofs.Bits.{has-ext, empty, has-zero, has-and, has-or, has-without, has-pow, has-pow-same, has-pow-other}

-- ---- identities

pub or_assoc : (a b c : ℕ) → bit_or (bit_or a b) c ≡ bit_or a (bit_or b c)
or_assoc a b c = has-ext (λ v. simp has-or (same3 (λ x y z. x || y || z) (λ x y z. x || (y || z)) tt (has a v) (has b v) (has c v)))

pub and_assoc : (a b c : ℕ) → bit_and (bit_and a b) c ≡ bit_and a (bit_and b c)
and_assoc a b c = has-ext (λ v. simp has-and (same3 (λ x y z. x && y && z) (λ x y z. x && (y && z)) tt (has a v) (has b v) (has c v)))

pub or_swap : (a b c : ℕ) → bit_or (bit_or a b) c ≡ bit_or (bit_or a c) b
or_swap a b c = has-ext (λ v. simp has-or (same3 (λ x y z. x || y || z) (λ x y z. x || z || y) tt (has a v) (has b v) (has c v)))

pub or-again : (a b : ℕ) → bit_or (bit_or a b) b ≡ bit_or a b
or-again a b = has-ext (λ v. simp has-or (same2 (λ x y. x || y || y) (λ x y. x || y) tt (has a v) (has b v)))

pub and-or : (a b c : ℕ) → bit_and a (bit_or b c) ≡ bit_or (bit_and a b) (bit_and a c)
and-or a b c = has-ext (λ v. simp (has-and, has-or) (same3 (λ x y z. x && (y || z)) (λ x y z. x && y || x && z) tt (has a v) (has b v) (has c v)))

pub or-and : (a b c : ℕ) → bit_or a (bit_and b c) ≡ bit_and (bit_or a b) (bit_or a c)
or-and a b c = has-ext (λ v. simp (has-and, has-or) (same3 (λ x y z. x || y && z) (λ x y z. (x || y) && (x || z)) tt (has a v) (has b v) (has c v)))

pub and_or_self : (a b : ℕ) → bit_and a (bit_or a b) ≡ a
and_or_self a b = has-ext (λ v. simp (has-and, has-or) (same2 (λ x y. x && (x || y)) (λ x y. x) tt (has a v) (has b v)))

pub or-and-self : (a b : ℕ) → bit_or a (bit_and a b) ≡ a
or-and-self a b = has-ext (λ v. simp (has-and, has-or) (same2 (λ x y. x || x && y) (λ x y. x) tt (has a v) (has b v)))

pub without-or : (a b c : ℕ) → without a (bit_or b c) ≡ without (without a b) c
without-or a b c =
    has-ext (λ v. simp (has-without, has-or) (same3 (λ x y z. x && not (y || z)) (λ x y z. x && not y && not z) tt (has a v) (has b v) (has c v)))

pub without-swap : (a b c : ℕ) → without (without a b) c ≡ without (without a c) b
without-swap a b c = has-ext (λ v. simp has-without (same3 (λ x y z. x && not y && not z) (λ x y z. x && not z && not y) tt (has a v) (has b v) (has c v)))

pub or-without : (a b c : ℕ) → without (bit_or a b) c ≡ bit_or (without a c) (without b c)
or-without a b c =
    has-ext (λ v. simp (has-without, has-or) (same3 (λ x y z. (x || y) && not z) (λ x y z. x && not z || y && not z) tt (has a v) (has b v) (has c v)))

pub and-without : (a b c : ℕ) → bit_and (without a b) c ≡ without (bit_and a c) b
and-without a b c = has-ext (λ v. simp (has-without, has-and) (same3 (λ x y z. x && not y && z) (λ x y z. x && z && not y) tt (has a v) (has b v) (has c v)))

pub without-again : (a b : ℕ) → without (without a b) b ≡ without a b
without-again a b = has-ext (λ v. simp has-without (same2 (λ x y. x && not y && not y) (λ x y. x && not y) tt (has a v) (has b v)))

pub without-and : (a b : ℕ) → without a (bit_and a b) ≡ without a b
without-and a b = has-ext (λ v. simp (has-without, has-and) (same2 (λ x y. x && not (x && y)) (λ x y. x && not y) tt (has a v) (has b v)))

pub or-without-right : (a b : ℕ) → bit_or (without a b) b ≡ bit_or a b
or-without-right a b = has-ext (λ v. simp (has-without, has-or) (same2 (λ x y. x && not y || y) (λ x y. x || y) tt (has a v) (has b v)))

pub without-or-right : (a b : ℕ) → without (bit_or a b) b ≡ without a b
without-or-right a b = has-ext (λ v. simp (has-without, has-or) (same2 (λ x y. (x || y) && not y) (λ x y. x && not y) tt (has a v) (has b v)))

pub and-or-without : (a b : ℕ) → bit_or (bit_and a b) (without a b) ≡ a
and-or-without a b = has-ext (λ v. simp (has-without, has-and, has-or) (same2 (λ x y. x && y || x && not y) (λ x y. x) tt (has a v) (has b v)))

pub without-zero : (a : ℕ) → without a 0 ≡ a
without-zero a = has-ext (λ v. simp (has-without, has-zero) (same1 (λ x. x && true) (λ x. x) tt (has a v)))

pub zero-without : (a : ℕ) → without 0 a ≡ 0
zero-without a = has-ext (λ v. simp (has-without, has-zero))

pub without-self : (a : ℕ) → without a a ≡ 0
without-self a = has-ext (λ v. simp (has-without, has-zero) (same1 (λ x. x && not x) (λ x. false) tt (has a v)))

-- ---- sizes

pub without-add : (a b : ℕ) → without a b + bit_and a b ≡ a
unfolding without
without-add a b =
    let e : bit_and a (bit_and a b) ≡ bit_and a b = has-ext (λ v. simp has-and (same2 (λ x y. x && (x && y)) (λ x y. x && y) tt (has a v) (has b v))) in
    omega (arith, xor_add_and a (bit_and a b))

pub without-le : (a b : ℕ) → without a b ≤ a
without-le a b = omega (arith, without-add a b)

pub without-lt : (n : ℕ) {a : ℕ} (b : ℕ) → a < 2 ^ n → without a b < 2 ^ n
without-lt n {a} b l = lt_of_le_of_lt (without-le a b) l

pub and-lt-left : (n : ℕ) {a : ℕ} (b : ℕ) → a < 2 ^ n → bit_and a b < 2 ^ n
and-lt-left n {a} b l = lt_of_le_of_lt (and_le_l a b) l

-- ---- apart, and within

pub apart : (a b : ℕ) → bit_and a b ≡ 0 → (v : ℕ) → has a v ≡ true → has b v ≡ false
apart a b e v h = not_so (λ k. clash (has-and a b v ∙ rw (h, k)) (ap (λ (m : ℕ). has m v) e ∙ has-zero v))

pub apart_of : (a b : ℕ) → ((v : ℕ) → has a v ≡ true → has b v ≡ false) → bit_and a b ≡ 0
apart_of a b h =
    empty (λ v. not_so (λ t. let k = has-and a b v in clash (and_right (has a v) (has b v) (sym k ∙ t)) (h v (and_left (has a v) (has b v) (sym k ∙ t)))))

pub within : (a b : ℕ) → without a b ≡ 0 → (v : ℕ) → has a v ≡ true → has b v ≡ true
within a b e v h = so (λ k. clash (has-without a b v ∙ rw (h, k)) (ap (λ (m : ℕ). has m v) e ∙ has-zero v))

pub within_of : (a b : ℕ) → ((v : ℕ) → has a v ≡ true → has b v ≡ true) → without a b ≡ 0
within_of a b h = empty (λ v. has-without a b v ∙ go (has a v) (has b v) (h v))
  where
    go : (x y : Bool) → (x ≡ true → y ≡ true) → (x && not y) ≡ false
    go true y k = rw (k refl)
    go false y k = refl

pub within-trans : (a b c : ℕ) → without a b ≡ 0 → without b c ≡ 0 → without a c ≡ 0
within-trans a b c p q = within_of a c (λ v h. within b c q v (within a b p v h))

pub within-antisym : (a b : ℕ) → without a b ≡ 0 → without b a ≡ 0 → a ≡ b
within-antisym a b p q = has-ext (λ v. same_test (within a b p v) (within b a q v))

pub within-and : (a b : ℕ) → without a b ≡ 0 → bit_and a b ≡ a
within-and a b e = omega (arith, without-add a b)

pub within-or : (a b : ℕ) → without a b ≡ 0 → bit_or a b ≡ b
within-or a b e = sym (or-without-right a b) ∙ rw e

pub within-le : (a b : ℕ) → without a b ≡ 0 → a ≤ b
within-le a b e = omega (arith, within-and a b e, and_le_r a b)

pub without-within : (a b : ℕ) → without (without a b) a ≡ 0
without-within a b = within_of (without a b) a (λ v h. and_left (has a v) (not (has b v)) (sym (has-without a b v) ∙ h))

pub and-within : (a b : ℕ) → without (bit_and a b) a ≡ 0
and-within a b = within_of (bit_and a b) a (λ v h. and_left (has a v) (has b v) (sym (has-and a b v) ∙ h))

pub within-union : (a b : ℕ) → without a (bit_or a b) ≡ 0
within-union a b = within_of a (bit_or a b) (λ v h. has-or a b v ∙ rw h)

pub without-apart : (a b : ℕ) → bit_and a b ≡ 0 → without a b ≡ a
without-apart a b e = omega (arith, without-add a b)

pub apart-without : (a b : ℕ) → bit_and (without a b) b ≡ 0
apart-without a b = has-ext (λ v. simp (has-without, has-and, has-zero) (same2 (λ x y. x && not y && y) (λ x y. false) tt (has a v) (has b v)))

-- putting b in and taking c out, where they are apart, may come in either order
pub or-without-apart : (a b c : ℕ) → bit_and b c ≡ 0 → without (bit_or a b) c ≡ bit_or (without a c) b
or-without-apart a b c e = or-without a b c ∙ ap (bit_or (without a c)) (without-apart b c e)

-- a union is empty only where both are
pub or-empty : (a b : ℕ) → bit_or a b ≡ 0 → (a ≡ 0) × (b ≡ 0)
or-empty a b e = omega (arith, or_add_and a b, and_le_l a b, and_le_r a b)

-- ---- one element

pub and-pow-empty : (m v : ℕ) → bit_and m (2 ^ v) ≡ 0 → has m v ≡ false
and-pow-empty m v e = not_so (λ h. clash (has-pow-same v) (apart m (2 ^ v) e v h))

pub and-pow-apart : (m v : ℕ) → has m v ≡ false → bit_and m (2 ^ v) ≡ 0
and-pow-apart m v e = apart_of m (2 ^ v) (λ w h. has-pow-other v w (λ q. clash h (rw q e)))

pub and-pow-iff : (m v : ℕ) → (bit_and m (2 ^ v) ≡ 0) ↔ (has m v ≡ false)
and-pow-iff m v = (and-pow-empty m v, and-pow-apart m v)

pub pow-within : (m v : ℕ) → has m v ≡ true → without (2 ^ v) m ≡ 0
pow-within m v e = within_of (2 ^ v) m (λ w h. rw (eqb-true w v (sym (has-pow v w) ∙ h)) e)

pub and_pow : (m v : ℕ) → has m v ≡ true → bit_and m (2 ^ v) ≡ 2 ^ v
and_pow m v e = and_comm m (2 ^ v) ∙ within-and (2 ^ v) m (pow-within m v e)

pub has-put : (m v w : ℕ) → has (bit_or m (2 ^ v)) w ≡ (has m w || eqb w v)
has-put m v w = simp (has-or, has-pow)

pub has-take : (m v w : ℕ) → has (without m (2 ^ v)) w ≡ (has m w && not (eqb w v))
has-take m v w = simp (has-without, has-pow)

pub has-put-same : (m v : ℕ) → has (bit_or m (2 ^ v)) v ≡ true
has-put-same m v = has-put m v v ∙ rw (eq-eqb v v refl) (or-true (has m v))

pub has-take-same : (m v : ℕ) → has (without m (2 ^ v)) v ≡ false
has-take-same m v = has-take m v v ∙ rw (eq-eqb v v refl) (and-false (has m v))

pub has-put-other : (m v w : ℕ) → (w ≡ v → ⊥) → has (bit_or m (2 ^ v)) w ≡ has m w
has-put-other m v w h = has-put m v w ∙ rw (ne_eqb w v h) (or-false (has m w))

pub has-take-other : (m v w : ℕ) → (w ≡ v → ⊥) → has (without m (2 ^ v)) w ≡ has m w
has-take-other m v w h = has-take m v w ∙ rw (ne_eqb w v h) (and-true (has m w))

-- what is in already, and what is out already
pub put_in : (m v : ℕ) → has m v ≡ true → bit_or m (2 ^ v) ≡ m
put_in m v e = or_comm m (2 ^ v) ∙ within-or (2 ^ v) m (pow-within m v e)

pub take_out : (m v : ℕ) → has m v ≡ false → without m (2 ^ v) ≡ m
take_out m v e = without-apart m (2 ^ v) (and-pow-apart m v e)

pub put-take : (m v : ℕ) → has m v ≡ false → without (bit_or m (2 ^ v)) (2 ^ v) ≡ m
put-take m v e = without-or-right m (2 ^ v) ∙ take_out m v e

pub take_put : (m v : ℕ) → has m v ≡ true → bit_or (without m (2 ^ v)) (2 ^ v) ≡ m
take_put m v e = or-without-right m (2 ^ v) ∙ put_in m v e

pub put-lt : (n : ℕ) {m v : ℕ} → m < 2 ^ n → v < n → bit_or m (2 ^ v) < 2 ^ n
put-lt n {m} {v} l h = or_lt n m (2 ^ v) l (pow-lt h)

pub pow_apart : (v w : ℕ) → (w ≡ v → ⊥) → bit_and (2 ^ v) (2 ^ w) ≡ 0
pow_apart v w h = and-pow-apart (2 ^ v) w (has-pow-other v w h)

pub pow-inj : (v w : ℕ) → 2 ^ v ≡ 2 ^ w → v ≡ w
pow-inj v w e = eqb-true v w (sym (has-pow w v) ∙ ap (λ (m : ℕ). has m v) (sym e) ∙ has-pow-same v)

pub single-pow : (v : ℕ) → v < 64 → single v ≡ 2 ^ v
unfolding single
single-pow v l = rw (lt-ltb v 64 l)

pub single-past : (v : ℕ) → 64 ≤ v → single v ≡ 0
unfolding single
single-past v l = rw (le-ltb v 64 l)

pub has-single : (v w : ℕ) → has (single v) w ≡ (ltb v 64 && eqb w v)
unfolding single
has-single v w =
    ⊎_elim (λ t. rw t (has-pow v w)) (λ t. rw t (has-zero w)) (cases (ltb v 64))

pub single-lt : (v : ℕ) → single v < 2 ^ 64
unfolding single
single-lt v = ⊎_elim (λ t. rw t (pow-lt (ltb-true v 64 t))) (λ t. rw t (pow_pos 64)) (cases (ltb v 64))

-- ---- all below k, and what a mask lacks of them

-- a mask of all places below k has each of them
pub has_all : (k v : ℕ) → v < k → has (2 ^ k - 1) v ≡ true
has_all k v l =
    let whole : bit_and (2 ^ v) (2 ^ k - 1) ≡ 2 ^ v = and_mask (2 ^ v) k ∙ mod-eq_of_lt (pow-lt l) in
    sym (ap (λ (t : Bool). t && has (2 ^ k - 1) v) (has-pow-same v))
    ∙ sym (has-and (2 ^ v) (2 ^ k - 1) v)
    ∙ ap (λ (m : ℕ). has m v) whole
    ∙ has-pow-same v

pub complement : (k a : ℕ) → a < 2 ^ k → 2 ^ k - 1 - a ≡ without (2 ^ k - 1) a
complement k a l =
    let inside : bit_and (2 ^ k - 1) a ≡ a = and_comm (2 ^ k - 1) a ∙ and_mask a k ∙ mod-eq_of_lt l in
    omega (arith, without-add (2 ^ k - 1) a)

pub has-complement : (k a v : ℕ) → a < 2 ^ k → v < k → has (2 ^ k - 1 - a) v ≡ not (has a v)
has-complement k a v l h =
    ap (λ (m : ℕ). has m v) (complement k a l)
    ∙ has-without (2 ^ k - 1) a v
    ∙ ap (λ (t : Bool). t && not (has a v)) (has_all k v h)

-- ---- nothing

pub none-zero : {m : ℕ} → m ≡ 0 → none m ≡ true
unfolding none
none-zero {m} e = eq-eqb m 0 e

pub zero-none : (m : ℕ) → none m ≡ true → m ≡ 0
unfolding none
zero-none m e = eqb-true m 0 e

pub none_or : (a b : ℕ) → none (bit_or a b) ≡ (none a && none b)
none_or a b =
    same_test
    (λ t. let e = or-empty a b (zero-none (bit_or a b) t) in both (none-zero e.0) (none-zero e.1))
    (λ t. none-zero (let p = zero-none a (and_left (none a) (none b) t) in let q = zero-none b (and_right (none a) (none b) t) in rw (p, q)))

pub pos-none : (m : ℕ) → none m ≡ false → 0 < m
unfolding none
pos-none m e = omega (arith, eqb-false m 0 e)
