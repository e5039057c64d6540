-- Bytes that stand at a place. What two pieces together do, each does at its own place; a text stands at its own start; and what
-- stands at the start and is as long as the text is the text.
use Prim.Native.Nat.{ℕ, zero, suc, ◌+◌, ◌-◌, ◌<◌, ◌≤◌}
use mathlib.Core.Path.{◌≡◌, refl, sym, ap, ◌∙◌}
use mathlib.Core.Logic.{⊎_elim}
use mathlib.Core.Bool.{Bool, true, false, ◌&&◌}
use mathlib.Core.List.{List, [], ◌∷◌, ◌++◌}
use native.Mathlib.Nat.{add-suc, suc-add, zero-add, add-zero}
use native.Mathlib.Numerals.{add-one}
use native.Mathlib.Omega.{arith}
use borrow.Author.Tests.{eq-eqb, ne_eqb, eqb-true, ltb-true, ltb-false}
use lib.Dec.{eqb, ltb}
use lib.ListN.{length, get_or, drop, get_or-eq_default}
use lib.Seq.{drop-cons, ext_get_or}
use Rattle.masks.proofs.Choice.{cases, and_left, and_right, both}
use Rattle.rules.specs.Reader.{stands}

-- a byte that is not 0 lies within the text
pub inside : (s : List ℕ) (at : ℕ) → 0 < get_or s at 0 → at < length s
inside s at h =
    ⊎_elim (λ t. ltb-true at (length s) t) (λ t. absurd (omega (arith, get_or-eq_default s 0 (ltb-false at (length s) t)))) (cases (ltb at (length s)))

pub stands-none : (s : List ℕ) (at : ℕ) → stands s at [] ≡ true
unfolding stands
stands-none s at = refl

pub stands-cons : (s : List ℕ) (at b : ℕ) (bs : List ℕ) → stands s at (b ∷ bs) ≡ (eqb (get_or s at 0) b && stands s (suc at) bs)
unfolding stands
stands-cons s at b bs = refl

pub stands-append : (s : List ℕ) (at : ℕ) (xs ys : List ℕ) → stands s at (xs ++ ys) ≡ (stands s at xs && stands s (at + length xs) ys)
unfolding stands
stands-append s at [] ys = ap (λ (n : ℕ). stands s n ys) (sym (add-zero at))
stands-append s at (x ∷ xs) ys =
    rw (stands-append s (suc at) xs ys, suc-add at (length xs), ← add-suc at (length xs))
    (go (eqb (get_or s at 0) x) (stands s (suc at) xs) (stands s (at + suc (length xs)) ys))
  where
    go : (a b c : Bool) → (a && (b && c)) ≡ (a && b && c)
    go true b c = refl
    go false b c = refl

-- both pieces, and from both pieces
pub first-stands : (s : List ℕ) (at : ℕ) (xs ys : List ℕ) → stands s at (xs ++ ys) ≡ true → stands s at xs ≡ true
first-stands s at xs ys e = and_left (stands s at xs) (stands s (at + length xs) ys) (sym (stands-append s at xs ys) ∙ e)

pub second-stands : (s : List ℕ) (at : ℕ) (xs ys : List ℕ) → stands s at (xs ++ ys) ≡ true → stands s (at + length xs) ys ≡ true
second-stands s at xs ys e = and_right (stands s at xs) (stands s (at + length xs) ys) (sym (stands-append s at xs ys) ∙ e)

pub both-stand : (s : List ℕ) (at : ℕ) (xs ys : List ℕ) → stands s at xs ≡ true → stands s (at + length xs) ys ≡ true → stands s at (xs ++ ys) ≡ true
both-stand s at xs ys p q = stands-append s at xs ys ∙ both p q

-- one byte
pub byte-stands : (s : List ℕ) (at b : ℕ) → get_or s at 0 ≡ b → stands s at (b ∷ []) ≡ true
byte-stands s at b e = stands-cons s at b [] ∙ both (eq-eqb (get_or s at 0) b e) (stands-none s (suc at))

pub front-byte : (s : List ℕ) (at b : ℕ) (bs : List ℕ) → stands s at (b ∷ bs) ≡ true → get_or s at 0 ≡ b
front-byte s at b bs e =
    eqb-true (get_or s at 0) b (and_left (eqb (get_or s at 0) b) (stands s (suc at) bs) (sym (stands-cons s at b bs) ∙ e))

pub behind-byte : (s : List ℕ) (at b : ℕ) (bs : List ℕ) → stands s at (b ∷ bs) ≡ true → stands s (at + 1) bs ≡ true
behind-byte s at b bs e =
    rw add-one (and_right (eqb (get_or s at 0) b) (stands s (suc at) bs) (sym (stands-cons s at b bs) ∙ e))

pub cons-stands : (s : List ℕ) (at b : ℕ) (bs : List ℕ) → get_or s at 0 ≡ b → stands s (at + 1) bs ≡ true → stands s at (b ∷ bs) ≡ true
cons-stands s at b bs e h = stands-cons s at b bs ∙ both (eq-eqb (get_or s at 0) b e) (rw add-one at h)

-- every byte
pub stands_at : (s : List ℕ) (at : ℕ) (bs : List ℕ) → stands s at bs ≡ true → (k : ℕ) → k < length bs → get_or s (at + k) 0 ≡ get_or bs k 0
stands_at s at [] e k l = absurd (omega arith)
stands_at s at (b ∷ bs) e zero l = rw (add-zero at) (front-byte s at b bs e)
stands_at s at (b ∷ bs) e (suc k) l =
    let ih = stands_at s (at + 1) bs (behind-byte s at b bs e) k (omega arith) in
    let p : at + suc k ≡ at + 1 + k = omega arith in
    rw p ih

pub stands_of : (s : List ℕ) (at : ℕ) (bs : List ℕ) → ((k : ℕ) → k < length bs → get_or s (at + k) 0 ≡ get_or bs k 0) → stands s at bs ≡ true
stands_of s at [] h = stands-none s at
stands_of s at (b ∷ bs) h =
    cons-stands s at b bs (rw (add-zero at) at (h 0 (omega arith)))
    (stands_of s (at + 1) bs (λ k l. let p : at + 1 + k ≡ at + suc k = omega arith in rw p (h (suc k) (omega arith))))

pub stands_self : (s : List ℕ) → stands s 0 s ≡ true
stands_self s = stands_of s 0 s (λ k l. rw (zero-add k))

pub stands-whole : (s t : List ℕ) → stands s 0 t ≡ true → length t ≡ length s → s ≡ t
stands-whole s t e p = ext_get_or 0 s t (sym p) (λ k l. let q : k < length t = omega arith in rw (zero-add k) at (stands_at s 0 t e k q))

-- a piece whose last byte is not 0 lies within the text
pub ends-inside : (s : List ℕ) (at : ℕ) (bs : List ℕ) (k : ℕ) → stands s at bs ≡ true → length bs ≡ suc k → 0 < get_or bs k 0 → at + length bs ≤ length s
ends-inside s at bs k e p h =
    let q : k < length bs = omega arith in
    omega (arith, inside s (at + k) (rw (stands_at s at bs e k q) h))

pub ends_with : (s : List ℕ) (at : ℕ) (bs : List ℕ) (b : ℕ) → 0 < b → get_or bs (length bs - 1) 0 ≡ b → stands s at bs ≡ true → at + length bs ≤ length s
ends_with s at [] b p e h = absurd (omega arith)
ends_with s at (x ∷ bs) b p e h =
    let q : suc (length bs) - 1 ≡ length bs = omega arith in
    let e2 : get_or (x ∷ bs) (length bs) 0 ≡ b = rw q at e in
    ends-inside s at (x ∷ bs) (length bs) h refl (rw e2 p)

-- the comparison byte by byte: a turn that finds the byte, and one that does not
pub stands-more : (s : List ℕ) (at i : ℕ) (key : List ℕ) → i < length key → get_or s (at + i) 0 ≡ get_or key i 0
    → stands s (at + (i + 1)) (drop (i + 1) key) ≡ stands s (at + i) (drop i key)
stands-more s at i key l e =
    let p : at + (i + 1) ≡ suc (at + i) = omega arith in
    rw (drop-cons key i 0 l, stands-cons s (at + i) (get_or key i 0) (drop (suc i) key), eq-eqb (get_or s (at + i) 0) (get_or key i 0) e, p, add-one i)

pub stands-less : (s : List ℕ) (at i : ℕ) (key : List ℕ) → i < length key → (get_or s (at + i) 0 ≡ get_or key i 0 → ⊥)
    → stands s (at + i) (drop i key) ≡ false
stands-less s at i key l e =
    rw (drop-cons key i 0 l, stands-cons s (at + i) (get_or key i 0) (drop (suc i) key), ne_eqb (get_or s (at + i) 0) (get_or key i 0) e)

pub stands-end : (s : List ℕ) (at i : ℕ) (key : List ℕ) → length key ≤ i → stands s (at + i) (drop i key) ≡ true
stands-end s at i key l = rw (lib.ListN.drop_of_length-le key l, stands-none s (at + i))
