-- A scan gives the least weight and the first leaf that has it: what is kept weighs less than all that stands in front of it, and no
-- more than all behind it. By induction on the list: a leaf is taken exactly where it is below the best so far.
use Prim.Native.Nat.{ℕ, ◌≤◌, ◌<◌}
use mathlib.Core.Path.{◌≡◌, refl, sym, ap, ◌∙◌, subst}
use mathlib.Core.List.{List, [], ◌∷◌, ◌++◌, Memᴰ}
use mathlib.Core.Bool.{true}
use mathlib.Core.Logic.{◌⊎◌, inl, inr, ⊎_elim}
use native.Mathlib.Omega.{arith}
use borrow.Author.Tests.{le-leb, lt-leb}
use Rattle.masks.proofs.Choice.{lt-or-le}
use Rattle.rules.specs.declared.Part.{Part}
use Rattle.walk_laws.specs.Scan.{Chosen, take, scan, Least}

-- ---- one leaf

pub take-passed : (w r : ℕ) (c : Chosen) → c.best ≤ w → take w r c ≡ c
unfolding take
take-passed w r c h = rw (le-leb c.best w h)

pub take-taken : (w r : ℕ) (c : Chosen) → w < c.best → take w r c ≡ record { best = w; kept = true; reading = r }
unfolding take
take-taken w r c h = rw (lt-leb c.best w h)

-- ---- lists of leaves

pub scan-none : (weight : Part → ℕ) (c : Chosen) → scan weight [] c ≡ c
unfolding scan
scan-none weight c = refl

pub scan-one : (weight : Part → ℕ) (q : Part) (c : Chosen) → scan weight (q ∷ []) c ≡ take (weight q) q.truths c
unfolding scan
scan-one weight q c = refl

pub scan-append : (weight : Part → ℕ) (qs rs : List Part) (c : Chosen) → scan weight (qs ++ rs) c ≡ scan weight rs (scan weight qs c)
unfolding scan
scan-append weight [] rs c = refl
scan-append weight (q ∷ qs) rs c = scan-append weight qs rs (take (weight q) q.truths c)

-- weights that agree on the leaves give the same scan
pub scan-ext : {w u : Part → ℕ} (qs : List Part) (c : Chosen) → ((q : Part) → Memᴰ q qs → w q ≡ u q) → scan w qs c ≡ scan u qs c
unfolding scan
scan-ext [] c h = refl
scan-ext {w} {u} (q ∷ qs) c h = rw (h q (mathlib.Core.List.Memᴰ.head refl)) (scan-ext qs (take (u q) q.truths c) (λ r m. h r (mathlib.Core.List.Memᴰ.tail m)))

-- leaves none of which is below the best change nothing
pub scan-passed : (weight : Part → ℕ) (qs : List Part) (c : Chosen) → ((q : Part) → Memᴰ q qs → c.best ≤ weight q) → scan weight qs c ≡ c
unfolding scan
scan-passed weight [] c h = refl
scan-passed weight (q ∷ qs) c h =
    rw (take-passed (weight q) q.truths c (h q (mathlib.Core.List.Memᴰ.head refl))) (scan-passed weight qs c (λ r m. h r (mathlib.Core.List.Memᴰ.tail m)))

-- ---- the least, and the first that has it

-- what holds of the first and of the others holds of all
pub each : {P : Part → Type 0} {q : Part} {qs : List Part} → P q → ((r : Part) → Memᴰ r qs → P r) → (r : Part) → Memᴰ r (q ∷ qs) → P r
each {P} here there r m = ⊎_elim (λ e. subst P (sym e) here) (there r) (mathlib.Core.List.Memᴰ.cases_cons m)

-- No leaf is below the best, and nothing changes; or one is.
abbrev pub Outcome : (Part → ℕ) → List Part → Chosen → Type 0
Outcome weight qs c =
    ((scan weight qs c ≡ c) × ((q : Part) → Memᴰ q qs → c.best ≤ weight q)) ⊎ Least weight qs c.best (scan weight qs c)

module _ (weight : Part → ℕ) (q : Part) (qs : List Part) (c : Chosen) where
  -- the first leaf is passed over, and what comes of the others comes of all
  outcome-passed : c.best ≤ weight q → Outcome weight qs c → Outcome weight (q ∷ qs) c
  unfolding scan
  outcome-passed h o =
      let same : scan weight (q ∷ qs) c ≡ scan weight qs c = ap (scan weight qs) (take-passed (weight q) q.truths c h) in
      ⊎_elim
      (λ (n : (scan weight qs c ≡ c) × ((r : Part) → Memᴰ r qs → c.best ≤ weight r)).
      inl (same ∙ n.0, each {P = λ r. c.best ≤ weight r} h n.1))
      (λ (l : Least weight qs c.best (scan weight qs c)).
      inr (record {
        front = q ∷ l.front;
        leaf = l.leaf;
        rest = l.rest;
        stands = ap (λ (rs : List Part). q ∷ rs) l.stands;
        is_kept = same ∙ l.is_kept;
        less = l.less;
        in_front = each {P = λ r. weight l.leaf < weight r} (omega (arith, l.less)) l.in_front;
        behind = l.behind;
      }))
      o

  -- the first leaf is taken, and stays unless another is below it
  outcome-taken : weight q < c.best → Outcome weight qs (record { best = weight q; kept = true; reading = q.truths }) → Outcome weight (q ∷ qs) c
  unfolding scan
  outcome-taken h o =
      let here : Chosen = record { best = weight q; kept = true; reading = q.truths } in
      let same : scan weight (q ∷ qs) c ≡ scan weight qs here = ap (scan weight qs) (take-taken (weight q) q.truths c h) in
      ⊎_elim
      (λ (n : (scan weight qs here ≡ here) × ((r : Part) → Memᴰ r qs → weight q ≤ weight r)).
      inr (record {
        front = [];
        leaf = q;
        rest = qs;
        stands = refl;
        is_kept = same ∙ n.0;
        less = h;
        in_front = λ r m. absurd (mathlib.Core.List.Memᴰ.not-nil m);
        behind = n.1;
      }))
      (λ (l : Least weight qs (weight q) (scan weight qs here)).
      inr (record {
        front = q ∷ l.front;
        leaf = l.leaf;
        rest = l.rest;
        stands = ap (λ (rs : List Part). q ∷ rs) l.stands;
        is_kept = same ∙ l.is_kept;
        less = omega (arith, l.less);
        in_front = each {P = λ r. weight l.leaf < weight r} l.less l.in_front;
        behind = l.behind;
      }))
      o

pub scan-outcome : (weight : Part → ℕ) (qs : List Part) (c : Chosen) → Outcome weight qs c
unfolding scan
scan-outcome weight [] c = inl (refl, λ q m. absurd (mathlib.Core.List.Memᴰ.not-nil m))
scan-outcome weight (q ∷ qs) c =
    ⊎_elim
    (λ h. outcome-taken weight q qs c h (scan-outcome weight qs (record { best = weight q; kept = true; reading = q.truths })))
    (λ h. outcome-passed weight q qs c h (scan-outcome weight qs c))
    (lt-or-le (weight q) c.best)

-- from a best that some leaf is below, a leaf is kept
pub scan-least : (weight : Part → ℕ) (qs : List Part) (c : Chosen) (q : Part) → Memᴰ q qs → weight q < c.best
    → Least weight qs c.best (scan weight qs c)
scan-least weight qs c q m h =
    ⊎_elim
    (λ (n : (scan weight qs c ≡ c) × ((r : Part) → Memᴰ r qs → c.best ≤ weight r)). absurd (omega (arith, n.1 q m)))
    (λ l. l)
    (scan-outcome weight qs c)

-- what is kept is the least of all
pub least-of-all : {weight : Part → ℕ} {qs : List Part} {best : ℕ} {c : Chosen} (l : Least weight qs best c) (q : Part) → Memᴰ q qs
    → weight l.leaf ≤ weight q
least-of-all {weight} {qs} l q m =
    let split : Memᴰ q (l.front ++ (l.leaf ∷ l.rest)) = subst (λ (rs : List Part). Memᴰ q rs) l.stands m in
    ⊎_elim
    (λ f. omega (arith, l.in_front q f))
    (each {P = λ r. weight l.leaf ≤ weight r} (omega arith) l.behind q)
    (mathlib.Core.List.Memᴰ.append_cases l.front split)

-- a scan never raises the best, and what is kept stays kept
take-best : (w r : ℕ) (c : Chosen) → (take w r c).best ≤ c.best
take-best w r c =
    ⊎_elim (λ h. rw (take-taken w r c h) (omega arith)) (λ h. rw (take-passed w r c h) (omega arith)) (lt-or-le w c.best)

take-kept : (w r : ℕ) (c : Chosen) → c.kept ≡ true → (take w r c).kept ≡ true
take-kept w r c k = ⊎_elim (λ h. rw (take-taken w r c h)) (λ h. rw (take-passed w r c h) k) (lt-or-le w c.best)

pub scan-best : (weight : Part → ℕ) (qs : List Part) (c : Chosen) → (scan weight qs c).best ≤ c.best
unfolding scan
scan-best weight [] c = omega arith
scan-best weight (q ∷ qs) c = omega (arith, scan-best weight qs (take (weight q) q.truths c), take-best (weight q) q.truths c)

pub scan-kept : (weight : Part → ℕ) (qs : List Part) (c : Chosen) → c.kept ≡ true → (scan weight qs c).kept ≡ true
unfolding scan
scan-kept weight [] c k = k
scan-kept weight (q ∷ qs) c k = scan-kept weight qs (take (weight q) q.truths c) (take-kept (weight q) q.truths c k)
