-- The list of undecided variables: empty exactly where all are decided, else the lowest one and the list with that one decided.
-- The list grows at its end, by induction on the count of variables; the lowest undecided variable is where the test of all first fails.
use Prim.Native.Nat.{ℕ, zero, suc, ◌+◌, ◌^◌, ◌≤◌, ◌<◌}
use mathlib.Core.Path.{◌≡◌, refl, sym, ap, ap₂, ◌∙◌}
use mathlib.Core.List.{List, [], ◌∷◌, ◌++◌, append-nil, concat-ne-nil, head-eq_of_cons-eq, tail-eq_of_cons-eq, nil≢cons}
use mathlib.Core.Bool.{Bool, true, false, cond}
use mathlib.Core.Logic.{⊎_elim}
use native.Mathlib.Nat.{le_refl, le_of_suc-le-suc, eq-or-lt_of_le, not-suc-le-zero}
use native.Mathlib.Omega.{arith}
use lib.Bits.{bit_or}
use lib.ListN.{length, length-append}
use Rattle.masks.specs.Masks.{bit, has, count}
use Rattle.masks.specs.Sums.{sum, every}
use Rattle.masks.proofs.Choice.{cases}
use Rattle.masks.proofs.Sums.{downwards, upwards, every-at, every-fails}
use Rattle.masks.proofs.Bits.{bit-one, bit-none}
use Rattle.masks.proofs.Sets.{has-put-same, has-put-other}
use Rattle.masks.proofs.Counts.{count-upto}
use Rattle.rules.specs.Walk.{undecided}

-- ---- one more variable

pub undecided-in : (n d : ℕ) → has d n ≡ true → undecided (suc n) d ≡ undecided n d
unfolding undecided
undecided-in n d e = ap (λ (t : Bool). undecided n d ++ cond t [] (n ∷ [])) e ∙ append-nil (undecided n d)

pub undecided-out : (n d : ℕ) → has d n ≡ false → undecided (suc n) d ≡ undecided n d ++ (n ∷ [])
unfolding undecided
undecided-out n d e = ap (λ (t : Bool). undecided n d ++ cond t [] (n ∷ [])) e

-- the list is known by what is decided below n
pub undecided-ext : (n a b : ℕ) → ((v : ℕ) → v < n → has a v ≡ has b v) → undecided n a ≡ undecided n b
unfolding undecided
undecided-ext zero a b h = refl
undecided-ext (suc n) a b h =
    ap₂ (λ (vs : List ℕ) (t : Bool). vs ++ cond t [] (n ∷ [])) (undecided-ext n a b (downwards h)) (h n (le_refl (suc n)))

-- ---- all are decided

pub undecided-all : (n d : ℕ) → ((v : ℕ) → v < n → has d v ≡ true) → undecided n d ≡ []
unfolding undecided
undecided-all zero d h = refl
undecided-all (suc n) d h = undecided-in n d (h n (le_refl (suc n))) ∙ undecided-all n d (downwards h)

pub all-decided : (n d : ℕ) → undecided n d ≡ [] → (v : ℕ) → v < n → has d v ≡ true
unfolding undecided
all-decided zero d e v l = absurd (not-suc-le-zero l)
all-decided (suc n) d e v l =
    ⊎_elim
    (λ t. upwards {P = λ v. has d v ≡ true} (all-decided n d (sym (undecided-in n d t) ∙ e)) t v l)
    (λ t. absurd (concat-ne-nil n (undecided n d) (sym (undecided-out n d t) ∙ e)))
    (cases (has d n))

-- ---- the lowest that is not

pub undecided-lowest : (n d v : ℕ) → v < n → has d v ≡ false → ((u : ℕ) → u < v → has d u ≡ true)
    → undecided n d ≡ v ∷ undecided n (bit_or d (2 ^ v))
unfolding undecided
undecided-lowest zero d v l e h = absurd (not-suc-le-zero l)
undecided-lowest (suc n) d v l e h =
    ⊎_elim
    (λ (q : v ≡ n).
    let same : undecided n (bit_or d (2 ^ v)) ≡ undecided n d = undecided-ext n (bit_or d (2 ^ v)) d (λ u k. has-put-other d v u (λ r. omega arith)) in
    let none : undecided n d ≡ [] = undecided-all n d (λ u k. h u (omega arith)) in
    let here : has (bit_or d (2 ^ v)) n ≡ true = ap (has (bit_or d (2 ^ v))) (sym q) ∙ has-put-same d v in
    let last : has d n ≡ false = ap (has d) (sym q) ∙ e in
    rw (same, none, here, last) (ap (λ (u : ℕ). u ∷ []) (sym q)))
    (λ (m : v < n).
    let other : has (bit_or d (2 ^ v)) n ≡ has d n = has-put-other d v n (λ r. omega arith) in
    rw (undecided-lowest n d v m e h, other))
    (eq-or-lt_of_le (le_of_suc-le-suc l))

-- what the head and the rest of the list are
pub record Lowest (n d v : ℕ) (vs : List ℕ) : Type 0 where
  pub variable : v < n
  pub is_left : has d v ≡ false
  pub lower : (u : ℕ) → u < v → has d u ≡ true
  pub rest : undecided n (bit_or d (2 ^ v)) ≡ vs

pub undecided-head : (n d v : ℕ) (vs : List ℕ) → undecided n d ≡ v ∷ vs → Lowest n d v vs
undecided-head n d v vs e =
    ⊎_elim
    (λ t. absurd (nil≢cons (sym (undecided-all n d (every-at n (has d) t)) ∙ e)))
    (λ t.
    let w = every-fails n (has d) t in
    let split = sym (undecided-lowest n d w.0 w.1 w.2 w.3) ∙ e in
    let same : w.0 ≡ v = head-eq_of_cons-eq split in
    record {
      variable = omega (arith, w.1);
      is_left = ap (has d) (sym same) ∙ w.2;
      lower = λ u l. w.3 u (omega arith);
      rest = ap (λ (x : ℕ). undecided n (bit_or d (2 ^ x))) (sym same) ∙ tail-eq_of_cons-eq split;
    })
    (cases (every n (has d)))

-- ---- how many

pub undecided-length : (n d : ℕ) → length (undecided n d) + sum n (bit d) ≡ n
unfolding undecided sum
undecided-length zero d = refl
undecided-length (suc n) d =
    ⊎_elim
    (λ t. omega (arith, ap length (undecided-in n d t), undecided-length n d, bit-one d n t))
    (λ t. omega (arith, ap length (undecided-out n d t), length-append (undecided n d) (n ∷ []), undecided-length n d, bit-none d n t))
    (cases (has d n))

pub undecided-count : (n d : ℕ) → n ≤ 64 → d < 2 ^ n → length (undecided n d) + count d ≡ n
undecided-count n d fits l = rw (count-upto n fits l) (undecided-length n d)
