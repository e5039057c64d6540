-- Scans row by row. A conflict is the last that a scan meets: the other rows change nothing.
use Prim.Native.Nat.{ℕ, ◌+◌, ◌≤◌, ◌<◌}
use mathlib.Core.Path.{◌≡◌, refl, sym, ap, ◌∙◌}
use mathlib.Core.List.{List}
use mathlib.Core.Bool.{Bool}
use native.Mathlib.Omega.{arith}
use lib.ListN.{get_or}
use Rattle.masks.specs.Masks.{without}
use Rattle.literals.specs.declared.Lits.{Lits}
use Rattle.rules.specs.declared.Part.{Part}
use Rattle.rules.specs.Desk.{satisfied}
use Rattle.rules.specs.Groups.{Weights, Forced, Hunt, hunt_from, looked, scanned, opposes, entry_scanned, drained}
use Rattle.group_laws.specs.Trails.{trail_of}
use Rattle.group_laws.proofs.Branches.{scanned-more, scanned-stays}
use Rattle.group_laws.proofs.Trails.{trail-at}
use Rattle.looking.specs.declared.Trail.{Trail}
use Rattle.looking.specs.Looks.{left_one, hunt_of, Roomy}
use Rattle.looking.proofs.Looking.{is_found_lem}

module _ (lits : ℕ → Lits) (W : Weights) (test : Lits → Bool) (h : Hunt) (n : ℕ) where
  -- how far a scan of n rows has come: i rows, and no conflict
  pub record Passed (i : ℕ) (t : Trail) (ms rs : List ℕ) : Type 0 where
    pub upto : i ≤ n
    pub running : t.found ≡ 0
    pub far : hunt_of t ms rs ≡ scanned lits W test i h
    pub roomy : Roomy t ms rs

  pub scan-none : (t : Trail) (ms rs : List ℕ) → t.found ≡ 0 → hunt_of t ms rs ≡ h → Roomy t ms rs → Passed 0 t ms rs
  unfolding scanned
  scan-none t ms rs f e roomy = record { upto = omega arith; running = f; far = e; roomy = roomy }

  -- the next row
  module _ {i : ℕ} {t : Trail} {ms rs : List ℕ} (passed : Passed i t ms rs) where
    module _ (less : i < n) (s : Trail) (ns qs : List ℕ) (next : hunt_of s ns qs ≡ looked lits W test i (hunt_of t ms rs)) where
      far-more : hunt_of s ns qs ≡ scanned lits W test (i + 1) h
      far-more = next ∙ ap (looked lits W test i) passed.far ∙ sym (scanned-more lits W test i h)

      pub scan-more : s.found ≡ 0 → Roomy s ns qs → Passed (i + 1) s ns qs
      scan-more f roomy = record { upto = omega arith; running = f; far = far-more; roomy = roomy }

      -- left at a conflict
      pub scan-left : (s.found ≡ 0 → ⊥) → Roomy s ns qs → hunt_of s ns qs ≡ scanned lits W test n h
      scan-left f roomy =
          far-more ∙ sym (scanned-stays lits W test (i + 1) n h (sym (ap (λ (g : Hunt). g.found) far-more) ∙ is_found_lem s f) (omega arith))

    pub scan-done : n ≤ i → hunt_of t ms rs ≡ scanned lits W test n h
    scan-done l =
        let e : i ≡ n = omega (arith, passed.upto) in
        passed.far ∙ ap (λ (k : ℕ). scanned lits W test k h) e

-- ---- which scan it is

-- of all rows in use
pub upto_all : (lits : ℕ → Lits) (W : Weights) (test : Lits → Bool) (n rows : ℕ) → n ≡ rows → (h : Hunt) {g : Hunt}
    → g ≡ scanned lits W test n h → g ≡ scanned lits W test rows h
upto_all lits W test n rows e h f = f ∙ ap (λ (k : ℕ). scanned lits W test k h) e

module _ (lits : ℕ → Lits) (W : Weights) (rows : ℕ) (g : Hunt) where
  -- the first
  pub first-scan : (n : ℕ) → n ≡ rows → (p : Part) → g ≡ scanned lits W (left_one p) n (hunt_from p) → g ≡ drained lits W rows p 0
  unfolding drained
  first-scan n e p f = upto_all lits W (left_one p) n rows e (hunt_from p) f

  -- that of entry k
  module _ (k : ℕ) (t : Trail) (ms rs : List ℕ) (l : k < t.entries) where
    pub entry-scan : (against : Part) → against ≡ record { decided = get_or ms k 0; truths = without (get_or ms k 0) t.q.truths }
        → g ≡ scanned lits W (satisfied against) rows (hunt_of t ms rs) → g ≡ entry_scanned lits W rows k (hunt_of t ms rs)
    unfolding entry_scanned opposes
    entry-scan against is f =
        let h = hunt_of t ms rs in
        let at : get_or h.trail k (record { variable = 0; row = 0 }) ≡ record { variable = get_or ms k 0; row = get_or rs k 0 } =
        trail-at (λ j. get_or ms j 0) (λ j. get_or rs j 0) t.entries k (record { variable = 0; row = 0 }) l in
        f
        ∙ ap (λ (p : Part). scanned lits W (satisfied p) rows h) is
        ∙ sym (ap (λ (entry : Forced). scanned lits W (opposes t.q entry.variable) rows h) at)

-- at its start the trail is empty, whatever the words hold
pub hunt-start : (p : Part) (ms rs : List ℕ) → hunt_of (record { q = p; entries = 0; found = 0; conflict = 0 }) ms rs ≡ hunt_from p
unfolding trail_of
hunt-start p ms rs = refl
