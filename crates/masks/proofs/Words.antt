-- Laws of stores in a list: one (`set`), a run of given ones (`sets` of lib.Seq), and a run of zeros (`zeroed`).
-- A run is read by where an index stands: before the run, in it, or after it; each by induction on the run.
-- A run of zeros is the run of a repeated 0 (`zeroed-sets`), and takes its laws from there.
use Prim.Native.Nat.{ℕ, zero, suc, ◌+◌, ◌-◌, ◌≤◌, ◌<◌}
use mathlib.Core.Path.{◌≡◌, refl, sym, ap, ◌∙◌}
use mathlib.Core.Logic.{◌⊎◌, inl, inr, ⊎_elim}
use mathlib.Core.Bool.{cond}
use mathlib.Core.List.{List, [], ◌∷◌, ◌++◌, append_assoc}
use native.Mathlib.Nat.{add-zero, sub_self, suc_inj, le_step, le_refl, eq-or-lt_of_le}
use native.Mathlib.Numerals.{add-one}
use native.Mathlib.Omega.{arith}
use lib.Dec.{eqb}
use lib.ListN.{length, get_or, set, take, drop, replicate, length-set, length-drop, length-replicate, replicate-append-replicate, take-append-drop}
use lib.ListN.{get_or-eq_default}
use lib.Seq.{sets, sets-eq, length-sets, set_out, set-set, set_comm, get_or-set_same, get_or-set_other, take-set-le, drop-set-lt, take-append_seam}
use lib.Seq.{drop_at, drop-drop, length-take-le, take-suc}
use borrow.Author.Tests.{eqb-true, eqb-false}
use borrow.Rule.Slice.PartMut.{mid_of, put_mid}
use Rattle.masks.specs.Words.{zeroed}
use Rattle.masks.proofs.Choice.{cases, lt-or-le}

-- ---- one store

module _ {A : Type 0} where
  pub get_d_set : (l : List A) (i j : ℕ) (a d : A) → i < length l → get_or (set l i a) j d ≡ cond (eqb j i) a (get_or l j d)
  get_d_set l i j a d h =
      ⊎_elim
      (λ t. rw t (rw (eqb-true j i t) (get_or-set_same l i a d h)))
      (λ t. rw t (get_or-set_other l i j a d (eqb-false j i t)))
      (cases (eqb j i))

  -- a store of what is read past the end asks for no bound
  pub get_d-set-default : (l : List A) (i j : ℕ) (d : A) → get_or (set l i d) j d ≡ cond (eqb j i) d (get_or l j d)
  get_d-set-default l i j d =
      ⊎_elim
      (get_d_set l i j d d)
      (λ h. rw (set_out l i d h) (past h))
      (lt-or-le i (length l))
    where
      past : length l ≤ i → get_or l j d ≡ cond (eqb j i) d (get_or l j d)
      past h = ⊎_elim (λ t. rw t (rw (eqb-true j i t) (get_or-eq_default l d h))) (λ t. rw t) (cases (eqb j i))

  -- ---- a run of stores

  pub sets-before : (d : List A) (i : ℕ) (vs : List A) (j : ℕ) (z : A) → j < i → get_or (sets d i vs) j z ≡ get_or d j z
  sets-before d i [] j z h = refl
  sets-before d i (a ∷ vs) j z h = sets-before (set d i a) (suc i) vs j z (le_step h) ∙ get_or-set_other d i j a z (λ e. omega arith)

  pub sets-after : (d : List A) (i : ℕ) (vs : List A) (j : ℕ) (z : A) → i + length vs ≤ j → get_or (sets d i vs) j z ≡ get_or d j z
  sets-after d i [] j z h = refl
  sets-after d i (a ∷ vs) j z h = sets-after (set d i a) (suc i) vs j z (omega arith) ∙ get_or-set_other d i j a z (λ e. omega arith)

  pub sets-out : (d : List A) (i : ℕ) (vs : List A) (j : ℕ) (z : A) → (j < i) ⊎ (i + length vs ≤ j) → get_or (sets d i vs) j z ≡ get_or d j z
  sets-out d i vs j z = ⊎_elim (sets-before d i vs j z) (sets-after d i vs j z)

  pub sets-in : (d : List A) (i : ℕ) (vs : List A) (j : ℕ) (z : A) → i ≤ j → j < i + length vs → j < length d → get_or (sets d i vs) j z ≡ get_or vs (j - i) z
  sets-in d i [] j z l h k = absurd (omega arith)
  sets-in d i (a ∷ vs) j z l h k =
      ⊎_elim
      (λ e. rw (← e) (rw sub_self (sets-before (set d i a) (suc i) vs i z (le_refl (suc i)) ∙ get_or-set_same d i a z (rw e k))))
      (λ m.
      let e : j - i ≡ suc (j - suc i) = omega arith in
      sets-in (set d i a) (suc i) vs j z m (omega arith) (rw length-set k) ∙ rw e)
      (eq-or-lt_of_le l)

  -- word k of a run that lies within the list
  pub sets-at : (d : List A) (i : ℕ) (vs : List A) (k : ℕ) (z : A) → k < length vs → i + length vs ≤ length d → get_or (sets d i vs) (i + k) z ≡ get_or vs k z
  sets-at d i vs k z l h =
      let e : i + k - i ≡ k = omega arith in
      sets-in d i vs (i + k) z (omega arith) (omega arith) (omega arith) ∙ rw e

  pub sets-append : (d : List A) (i : ℕ) (xs ys : List A) → sets (sets d i xs) (i + length xs) ys ≡ sets d i (xs ++ ys)
  sets-append d i [] ys = rw add-zero
  sets-append d i (x ∷ xs) ys =
      let e : i + suc (length xs) ≡ suc i + length xs = omega arith in
      rw e (sets-append (set d i x) (suc i) xs ys)

  pub take-sets : (n : ℕ) (d : List A) (i : ℕ) (vs : List A) → n ≤ i → take n (sets d i vs) ≡ take n d
  take-sets n d i [] h = refl
  take-sets n d i (a ∷ vs) h = take-sets n (set d i a) (suc i) vs (le_step h) ∙ take-set-le n d i a h

  pub drop-sets : (n : ℕ) (d : List A) (i : ℕ) (vs : List A) → i + length vs ≤ n → drop n (sets d i vs) ≡ drop n d
  drop-sets n d i [] h = refl
  drop-sets n d i (a ∷ vs) h = drop-sets n (set d i a) (suc i) vs (omega arith) ∙ drop-set-lt n d i a (omega arith)

  -- a store elsewhere may come first
  pub sets-set : (d : List A) (i : ℕ) (vs : List A) (k : ℕ) (a : A) → (k < i) ⊎ (i + length vs ≤ k) → sets (set d k a) i vs ≡ set (sets d i vs) k a
  sets-set d i [] k a h = refl
  sets-set d i (v ∷ vs) k a h =
      ap (λ (l : List A). sets l (suc i) vs) (set_comm d k i a v (λ e. ⊎_elim (λ m. omega arith) (λ m. omega arith) h))
      ∙ sets-set (set d i v) (suc i) vs k a (⊎_elim (λ m. inl (le_step m)) (λ m. inr (omega arith)) h)

  -- what was stored is read back
  pub sets-read : (d : List A) (i : ℕ) (vs : List A) → i + length vs ≤ length d → take (length vs) (drop i (sets d i vs)) ≡ vs
  sets-read d i vs h =
      rw (
        sets-eq vs d i h,
        append_assoc (take i d) vs (drop (i + length vs) d),
        drop_at (take i d) (vs ++ drop (i + length vs) d) i
            (length-take-le i d (omega arith)),
      )
      (take-append_seam vs (drop (i + length vs) d))

  -- storing what is there changes nothing
  pub sets_same : (d : List A) (i n : ℕ) → i + n ≤ length d → sets d i (take n (drop i d)) ≡ d
  sets_same d i n h =
      let e : length (take n (drop i d)) ≡ n = length-take-le n (drop i d) (simp length-drop (omega arith)) in
      sets-eq (take n (drop i d)) d i (rw e h)
      ∙ rw (e, ← drop-drop n i d, append_assoc (take i d) (take n (drop i d)) (drop n (drop i d)), take-append-drop n (drop i d))
      (take-append-drop i d)

  -- words put in the place of as many, as a part of a slice that was written comes back, are a run of stores
  pub put_mid-sets : (d vs : List A) (at n : ℕ) → length vs ≡ n → at + n ≤ length d → put_mid at (at + n - at) d vs ≡ sets d at vs
  put_mid-sets d vs at n e h =
      let k : at + n - at ≡ n = omega arith in
      rw (k, sets-eq vs d at (rw e h), e, append_assoc (take at d) vs (drop (at + n) d)) (ap (λ (l : List A). take at d ++ (vs ++ l)) (drop-drop n at d))

  -- of two runs of one length at one place, the last stays
  pub sets-sets : (d : List A) (i : ℕ) (xs ys : List A) → length xs ≡ length ys → sets (sets d i xs) i ys ≡ sets d i ys
  sets-sets d i [] [] e = refl
  sets-sets d i [] (y ∷ ys) e = absurd (omega arith)
  sets-sets d i (x ∷ xs) [] e = absurd (omega arith)
  sets-sets d i (x ∷ xs) (y ∷ ys) e =
      ap (λ (l : List A). sets l (suc i) ys) (sym (sets-set (set d i x) (suc i) xs i y (inl (le_refl (suc i)))))
      ∙ sets-sets (set (set d i x) i y) (suc i) xs ys (suc_inj e)
      ∙ ap (λ (l : List A). sets l (suc i) ys) (set-set d i x y)

-- one more word of a list that is being copied
pub copied_more : (d t : List ℕ) (at i : ℕ) → i < length t
    → set (sets d at (take i t)) (at + i) (get_or t i 0) ≡ sets d at (take (i + 1) t)
copied_more d t at i h =
    let n : length (take i t) ≡ i = length-take-le i t (omega arith) in
    rw (add-one i, take-suc t i 0 h, ← sets-append d at (take i t) (get_or t i 0 ∷ []), n)

-- ---- a run of zeros

pub zeroed-empty : (d : List ℕ) (at : ℕ) → zeroed d at 0 ≡ d
unfolding zeroed
zeroed-empty d at = refl

pub zeroed-suc : (d : List ℕ) (at n : ℕ) → zeroed d at (suc n) ≡ set (zeroed d at n) (at + n) 0
unfolding zeroed
zeroed-suc d at n = refl

pub zeroed-more : (d : List ℕ) (at n : ℕ) → zeroed d at (n + 1) ≡ set (zeroed d at n) (at + n) 0
zeroed-more d at n = rw add-one (zeroed-suc d at n)

pub zeroed-sets : (d : List ℕ) (at n : ℕ) → zeroed d at n ≡ sets d at (replicate n 0)
unfolding zeroed
zeroed-sets d at zero = refl
zeroed-sets d at (suc n) =
    let e : at + length (replicate {A = ℕ} n 0) ≡ at + n = ap (λ (k : ℕ). at + k) (length-replicate n 0) in
    ap (λ (l : List ℕ). set l (at + n) 0) (zeroed-sets d at n)
    ∙ ap (λ (k : ℕ). set (sets d at (replicate n 0)) k 0) (sym e)
    ∙ sets-append d at (replicate n 0) (0 ∷ [])
    ∙ ap (sets d at) (replicate-append-replicate n 1 0 ∙ ap (λ (k : ℕ). replicate k 0) (add-one n))

-- a part of a slice that was filled with 0
pub put_mid-zeroed : (d vs : List ℕ) (at n : ℕ) → vs ≡ replicate (length (mid_of at (at + n - at) d)) 0 → at + n ≤ length d
    → put_mid at (at + n - at) d vs ≡ zeroed d at n
put_mid-zeroed d vs at n e h =
    let m : length (mid_of at (at + n - at) d) ≡ n = length-take-le (at + n - at) (drop at d) (simp length-drop (omega arith)) ∙ omega arith in
    rw (e, m, zeroed-sets d at n) (put_mid-sets d (replicate n 0) at n (length-replicate n 0) h)

pub length-zeroed : (d : List ℕ) (at n : ℕ) → length (zeroed d at n) ≡ length d
length-zeroed d at n = rw zeroed-sets (length-sets d at (replicate n 0))

pub zeroed-before : (d : List ℕ) (at n j : ℕ) → j < at → get_or (zeroed d at n) j 0 ≡ get_or d j 0
zeroed-before d at n j h = rw zeroed-sets (sets-before d at (replicate n 0) j 0 h)

pub zeroed-after : (d : List ℕ) (at n j : ℕ) → at + n ≤ j → get_or (zeroed d at n) j 0 ≡ get_or d j 0
zeroed-after d at n j h = rw zeroed-sets (sets-after d at (replicate n 0) j 0 (rw length-replicate h))

pub zeroed-out : (d : List ℕ) (at n j : ℕ) → (j < at) ⊎ (at + n ≤ j) → get_or (zeroed d at n) j 0 ≡ get_or d j 0
zeroed-out d at n j = ⊎_elim (zeroed-before d at n j) (zeroed-after d at n j)

pub zeroed-in : (d : List ℕ) (at n j : ℕ) → at ≤ j → j < at + n → get_or (zeroed d at n) j 0 ≡ 0
unfolding zeroed
zeroed-in d at zero j l h = absurd (omega arith)
zeroed-in d at (suc n) j l h =
    get_d-set-default (zeroed d at n) (at + n) j 0
    ∙ ⊎_elim (λ t. rw t) (λ t. rw t (zeroed-in d at n j l (omega (arith, eqb-false j (at + n) t)))) (cases (eqb j (at + n)))

pub take-zeroed : (k : ℕ) (d : List ℕ) (at n : ℕ) → k ≤ at → take k (zeroed d at n) ≡ take k d
take-zeroed k d at n h = rw zeroed-sets (take-sets k d at (replicate n 0) h)

pub drop-zeroed : (k : ℕ) (d : List ℕ) (at n : ℕ) → at + n ≤ k → drop k (zeroed d at n) ≡ drop k d
drop-zeroed k d at n h = rw zeroed-sets (drop-sets k d at (replicate n 0) (rw length-replicate h))

pub zeroed-set : (d : List ℕ) (at n k a : ℕ) → (k < at) ⊎ (at + n ≤ k) → zeroed (set d k a) at n ≡ set (zeroed d at n) k a
zeroed-set d at n k a h =
    rw (zeroed-sets (set d k a) at n, zeroed-sets d at n) (sets-set d at (replicate n 0) k a (⊎_elim inl (λ m. inr (rw length-replicate m)) h))
