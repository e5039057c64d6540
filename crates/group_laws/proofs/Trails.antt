-- Trails and groups by index: how long they are, what stands at an index, that they are known by what stands below their length, and one more.
use Prim.Native.Nat.{ℕ, zero, suc, ◌+◌, ◌<◌}
use mathlib.Core.Path.{◌≡◌, refl, ap, ap₂, ◌∙◌}
use mathlib.Core.List.{List, [], ◌∷◌, ◌++◌}
use mathlib.Core.Logic.{⊎_elim}
use native.Mathlib.Nat.{le_refl, le_of_suc-le-suc, eq-or-lt_of_le, not-suc-le-zero}
use native.Mathlib.Numerals.{add-one}
use native.Mathlib.Omega.{arith}
use lib.ListN.{length, get_or, set, length-append, get_or-append}
use lib.Seq.{get_or_at, get_or-set_same, get_or-set_other}
use Rattle.masks.proofs.Sums.{downwards}
use Rattle.literals.specs.declared.Lits.{Lits}
use Rattle.rules.specs.declared.Part.{Part}
use Rattle.rules.specs.Groups.{Weights, Forced, Group, joined, gathered, less_at, taken}
use Rattle.group_laws.specs.Trails.{trail_of, rows_of}
use Rattle.group_laws.proofs.Branches.{gathered-last}

-- ---- trails

module _ (mask row : ℕ → ℕ) where
  pub trail-length : (n : ℕ) → length (trail_of mask row n) ≡ n
  unfolding trail_of
  trail-length zero = refl
  trail-length (suc n) = omega (arith, length-append (trail_of mask row n) (record { variable = mask n; row = row n } ∷ []), trail-length n)

  pub trail-at : (n k : ℕ) (none : Forced) → k < n → get_or (trail_of mask row n) k none ≡ record { variable = mask k; row = row k }
  unfolding trail_of
  trail-at zero k none l = absurd (not-suc-le-zero l)
  trail-at (suc n) k none l =
      ⊎_elim
      (λ (e : k ≡ n). rw e (get_or_at (trail_of mask row n) (record { variable = mask n; row = row n }) [] none n (trail-length n)))
      (λ m. get_or-append (trail_of mask row n) _ none k (omega (arith, trail-length n)) ∙ trail-at n k none m)
      (eq-or-lt_of_le (le_of_suc-le-suc l))

  pub trail_more : (n : ℕ) → trail_of mask row (n + 1) ≡ trail_of mask row n ++ (record { variable = mask n; row = row n } ∷ [])
  unfolding trail_of
  trail_more n = rw add-one

pub trail-ext : (n : ℕ) (mask row mask' row' : ℕ → ℕ) → ((k : ℕ) → k < n → mask k ≡ mask' k) → ((k : ℕ) → k < n → row k ≡ row' k)
    → trail_of mask row n ≡ trail_of mask' row' n
unfolding trail_of
trail-ext zero mask row mask' row' h g = refl
trail-ext (suc n) mask row mask' row' h g =
    λ t. trail-ext n mask row mask' row' (downwards h) (downwards g) t
    ++ (record { variable = h n (le_refl (suc n)) t; row = g n (le_refl (suc n)) t } ∷ [])

-- an entry stored behind the last
pub trail-stored : (masks rows : List ℕ) (n m r : ℕ) → n < length masks → n < length rows
    → trail_of (λ k. get_or (set masks n m) k 0) (λ k. get_or (set rows n r) k 0) (n + 1)
    ≡ trail_of (λ k. get_or masks k 0) (λ k. get_or rows k 0) n ++ (record { variable = m; row = r } ∷ [])
trail-stored masks rows n m r a b =
    trail_more (λ k. get_or (set masks n m) k 0) (λ k. get_or (set rows n r) k 0) n
    ∙ (λ t. trail-ext n (λ k. get_or (set masks n m) k 0) (λ k. get_or (set rows n r) k 0) (λ k. get_or masks k 0) (λ k. get_or rows k 0)
    (λ k l. get_or-set_other masks n k m 0 (λ e. omega arith)) (λ k l. get_or-set_other rows n k r 0 (λ e. omega arith)) t
    ++ (record { variable = get_or-set_same masks n m 0 a t; row = get_or-set_same rows n r 0 b t } ∷ []))

-- what is still to be gathered: the entries below n, from the last of them on
pub gathered-more : (lits : ℕ → Lits) (W : Weights) (p : Part) (mask row : ℕ → ℕ) (n : ℕ) (g : Group)
    → gathered lits W p (trail_of mask row (n + 1)) g
    ≡ gathered lits W p (trail_of mask row n) (joined lits W p (record { variable = mask n; row = row n }) g)
gathered-more lits W p mask row n g =
    ap (λ (es : List Forced). gathered lits W p es g) (trail_more mask row n)
    ∙ gathered-last lits W p (trail_of mask row n) (record { variable = mask n; row = row n }) g

-- ---- rows of a group

pub rows_ext : (n : ℕ) (row row' : ℕ → ℕ) → ((k : ℕ) → k < n → row k ≡ row' k) → rows_of row n ≡ rows_of row' n
unfolding rows_of
rows_ext zero row row' h = refl
rows_ext (suc n) row row' h = ap₂ (λ (r : ℕ) (rs : List ℕ). r ∷ rs) (h n (le_refl (suc n))) (rows_ext n row row' (downwards h))

pub rows_more : (row : ℕ → ℕ) (n : ℕ) → rows_of row (n + 1) ≡ row n ∷ rows_of row n
unfolding rows_of
rows_more row n = rw add-one

-- a row stored behind the last
pub rows-stored : (rows : List ℕ) (n r : ℕ) → n < length rows
    → rows_of (λ k. get_or (set rows n r) k 0) (n + 1) ≡ r ∷ rows_of (λ k. get_or rows k 0) n
rows-stored rows n r l =
    rows_more (λ k. get_or (set rows n r) k 0) n
    ∙ ap₂ (λ (x : ℕ) (rs : List ℕ). x ∷ rs) (get_or-set_same rows n r 0 l)
    (rows_ext n (λ k. get_or (set rows n r) k 0) (λ k. get_or rows k 0) (λ k m. get_or-set_other rows n k r 0 (λ e. omega arith)))

-- a cost taken from one row after another, the first first
pub taken_more : (cost : ℕ) (row : ℕ → ℕ) (n : ℕ) (W : Weights) → taken cost (rows_of row (n + 1)) W ≡ less_at (row n) cost (taken cost (rows_of row n) W)
unfolding taken
taken_more cost row n W = ap (λ (rs : List ℕ). taken cost rs W) (rows_more row n)
