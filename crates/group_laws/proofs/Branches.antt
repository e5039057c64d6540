-- A hunt, one way at a time, and the same by indices: each law names the tests that lead there, so that code which takes the same tests in the
-- same order meets the definition. Loops count by `k + 1`, go through a trail by its indices, and leave once nothing changes any more.
use Prim.Native.Nat.{ℕ, zero, suc, ◌+◌, ◌-◌, ◌≤◌, ◌<◌}
use mathlib.Core.Path.{◌≡◌, refl, sym, ap, ◌∙◌}
use mathlib.Core.List.{List, [], ◌∷◌, ◌++◌}
use mathlib.Core.Bool.{Bool, true, false, cond}
use mathlib.Core.Logic.{⊎_elim}
use native.Mathlib.Nat.{le_of_suc-le-suc, eq-or-lt_of_le}
use native.Mathlib.Numerals.{add-one}
use native.Mathlib.Omega.{arith}
use lib.Arith.{le-zero}
use lib.Dec.{eqb}
use lib.ListN.{length, get_or, set}
use lib.Seq.{get_or-set_same, get_or-set_other}
use Rattle.masks.proofs.Choice.{clash, eq-or-ne}
use Rattle.masks.proofs.Counts.{count-zero}
use Rattle.literals.specs.declared.Lits.{Lits}
use Rattle.literals.specs.Lits.{no_lits, is_empty, is_one}
use Rattle.literals.proofs.TwoMasks.{empty-none}
use Rattle.rules.specs.declared.Part.{Part}
use Rattle.rules.specs.Desk.{satisfied, remnant}
use Rattle.rules.specs.Groups.{Weights, Forced, Hunt, Group, Tally, conflict_at, forced_at, looked, scanned, entry_scanned, drained, hunted, joined}
use Rattle.rules.specs.Groups.{gathered}
use Rattle.rules.specs.Groups.{less_at, tallied, hunts}
use Rattle.group_laws.specs.Trails.{weights_in}
use Rattle.group_laws.proofs.Hunting.{Seen, looked-by}
use Rattle.group_laws.proofs.Gathering.{joined_by}
use Rattle.group_laws.proofs.Costs.{less-same, less_other, after, tallied-by}

-- one literal is not none
one-some : (l : Lits) → is_one l ≡ true → is_empty l ≡ true → ⊥
unfolding is_one no_lits
one-some l o e = clash (sym (ap is_one (empty-none l e)) ∙ o) (rw count-zero)

module _ (lits : ℕ → Lits) (W : Weights) where
  -- ---- a row

  module _ (test : Lits → Bool) (i : ℕ) (h : Hunt) where
    -- the parameters that looking does not read
    abbrev by : (P : Hunt → Type 0)
        → ((Seen lits W test i h → (is_empty (remnant h.q (lits i)) ≡ false) × (is_one (remnant h.q (lits i)) ≡ false)) → P h)
        → (Seen lits W test i h → is_empty (remnant h.q (lits i)) ≡ true → P (conflict_at i h))
        → (Seen lits W test i h → is_one (remnant h.q (lits i)) ≡ true → P (forced_at i (remnant h.q (lits i)) h))
        → P (looked lits W test i h)
    by P = looked-by lits 0 h.q W P test i h

    pub looked-not : (Seen lits W test i h → ⊥) → looked lits W test i h ≡ h
    looked-not never = by (λ s. s ≡ h) (λ idle. refl) (λ s e. absurd (never s)) (λ s e. absurd (never s))

    pub looked-found : h.found ≡ true → looked lits W test i h ≡ h
    looked-found f = looked-not (λ s. clash f s.running)

    pub looked-light : W i ≡ 0 → looked lits W test i h ≡ h
    looked-light z = looked-not (λ s. omega (arith, s.weighty))

    pub looked-failed : test (lits i) ≡ false → looked lits W test i h ≡ h
    looked-failed e = looked-not (λ s. clash s.passes e)

    pub looked-satisfied : satisfied h.q (lits i) ≡ true → looked lits W test i h ≡ h
    looked-satisfied e = looked-not (λ s. clash e s.unsatisfied)

    pub looked-conflict : Seen lits W test i h → is_empty (remnant h.q (lits i)) ≡ true → looked lits W test i h ≡ conflict_at i h
    looked-conflict s e =
        by (λ k. k ≡ conflict_at i h) (λ idle. absurd (clash e (idle s).0)) (λ s e. refl) (λ s o. absurd (one-some (remnant h.q (lits i)) o e))

    pub looked-forced : Seen lits W test i h → is_one (remnant h.q (lits i)) ≡ true → looked lits W test i h ≡ forced_at i (remnant h.q (lits i)) h
    looked-forced s o =
        by (λ k. k ≡ forced_at i (remnant h.q (lits i)) h) (λ idle. absurd (clash o (idle s).1))
        (λ s e. absurd (one-some (remnant h.q (lits i)) o e)) (λ s o. refl)

    pub looked-idle : is_empty (remnant h.q (lits i)) ≡ false → is_one (remnant h.q (lits i)) ≡ false → looked lits W test i h ≡ h
    looked-idle e o = by (λ k. k ≡ h) (λ idle. refl) (λ s t. absurd (clash t e)) (λ s t. absurd (clash t o))

  -- ---- scans and entries

  pub scanned-more : (test : Lits → Bool) (k : ℕ) (h : Hunt) → scanned lits W test (k + 1) h ≡ looked lits W test k (scanned lits W test k h)
  unfolding scanned
  scanned-more test k h = rw add-one

  -- once there is a conflict the other rows change nothing
  pub scanned-stays : (test : Lits → Bool) (k m : ℕ) (h : Hunt) → (scanned lits W test k h).found ≡ true → k ≤ m
      → scanned lits W test m h ≡ scanned lits W test k h
  unfolding scanned
  scanned-stays test k zero h f l = rw (le-zero l)
  scanned-stays test k (suc m) h f l =
      ⊎_elim
      (λ e. rw e)
      (λ s. ap (looked lits W test m) (scanned-stays test k m h f (le_of_suc-le-suc s)) ∙ looked-found test m (scanned lits W test k h) f)
      (eq-or-lt_of_le l)

  pub drained-more : (rows : ℕ) (p : Part) (k : ℕ) → drained lits W rows p (k + 1) ≡ entry_scanned lits W rows k (drained lits W rows p k)
  unfolding drained
  drained-more rows p k = rw add-one

  -- ---- a group, from the end of the trail: the last entry first, then those in front of it
  pub gathered-last : (p : Part) (es : List Forced) (e : Forced) (g : Group)
      → gathered lits W p (es ++ (e ∷ [])) g ≡ gathered lits W p es (joined lits W p e g)
  unfolding gathered
  gathered-last p [] e g = refl
  gathered-last p (f ∷ es) e g = ap (joined lits W p f) (gathered-last p es e g)

  -- a group has no more rows than the trail has entries, and one
  pub gathered-length : (p : Part) (es : List Forced) (g : Group) → length (gathered lits W p es g).rows ≤ length es + length g.rows
  unfolding gathered
  gathered-length p [] g = omega arith
  gathered-length p (e ∷ es) g =
      let rest = gathered-length p es g in
      joined_by lits 0 p W (λ k. length k.rows ≤ suc (length es) + length g.rows) e (gathered lits W p es g) (λ z. omega arith) (omega arith)

-- ---- what a group costs, taken in any order, from words

pub less-swap : (r s c : ℕ) (W : Weights) (i : ℕ) → less_at r c (less_at s c W) i ≡ less_at s c (less_at r c W) i
unfolding less_at
less-swap r s c W i = go (eqb i r) (eqb i s)
  where
    go : (a b : Bool) → cond a (cond b (W i - c) (W i) - c) (cond b (W i - c) (W i)) ≡ cond b (cond a (W i - c) (W i) - c) (cond a (W i - c) (W i))
    go true true = refl
    go true false = refl
    go false true = refl
    go false false = refl

-- a store
pub less-stored : (words : List ℕ) (r c : ℕ) → r < length words → (i : ℕ)
    → weights_in (set words r (get_or words r 0 - c)) i ≡ less_at r c (weights_in words) i
less-stored words r c l i =
    ⊎_elim
    (λ (e : i ≡ r). rw e (get_or-set_same words r (get_or words r 0 - c) 0 l ∙ sym (less-same r c (weights_in words))))
    (λ n. get_or-set_other words r i (get_or words r 0 - c) 0 n ∙ sym (less_other r c (weights_in words) i n))
    (eq-or-ne i r)

-- ---- hunts

module _ (lits : ℕ → Lits) (rows names : ℕ) (p : Part) where
  pub tallied-found : (t : Tally) → (hunted lits t.weights rows names p).found ≡ true → tallied lits rows names p t ≡ after lits rows names p t
  tallied-found t f = tallied-by lits rows names p (λ s. s ≡ after lits rows names p t) t (λ e. absurd (clash f e)) (λ e. refl)

  -- a hunt that finds nothing is the last
  pub tallied-last : (t : Tally) → (hunted lits t.weights rows names p).found ≡ false → tallied lits rows names p t ≡ t
  tallied-last t f = tallied-by lits rows names p (λ s. s ≡ t) t (λ e. refl) (λ e. absurd (clash e f))

  pub hunts-next : (W : Weights) (k : ℕ) → hunts lits rows names p W (k + 1) ≡ tallied lits rows names p (hunts lits rows names p W k)
  unfolding hunts
  hunts-next W k = rw add-one
