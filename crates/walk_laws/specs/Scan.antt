-- What a walk is measured by: a scan of leaves, which looks at each and cuts none. All is over any bound, any weight and any value tried first.
use Rattle.std.specs.Prelude.{ℕ, ◌≤◌, ◌<◌, ◌≡◌, Bool, true, false, cond, leb, length}
use mathlib.Core.List.{List, [], ◌∷◌, ◌++◌, Memᴰ}
use Rattle.rules.specs.declared.Part.{Part}
use Rattle.rules.specs.declared.Walked.{Walked}

-- the best weight so far, whether a reading is kept, and which
pub record Chosen : Type 0 where
  pub best : ℕ
  pub kept : Bool
  pub reading : ℕ

unfoldable pub chosen : Walked → Chosen
chosen s = record { best = s.best; kept = s.kept; reading = s.reading }

-- A leaf takes the place of what is kept only where it weighs strictly less.
unfoldable pub take : ℕ → ℕ → Chosen → Chosen
take weight reading c = cond (leb c.best weight) c (record { best = weight; kept = true; reading = reading })

unfoldable pub scan : (Part → ℕ) → List Part → Chosen → Chosen
scan weight [] c = c
scan weight (q ∷ qs) c = scan weight qs (take (weight q) q.truths c)

-- Of a list of leaves, one is kept: it weighs less than a best, less than each leaf in front of it and no more than each behind it.
pub record Least (weight : Part → ℕ) (qs : List Part) (best : ℕ) (c : Chosen) : Type 0 where
  pub front : List Part
  pub leaf : Part
  pub rest : List Part
  pub stands : qs ≡ front ++ (leaf ∷ rest)
  pub is_kept : c ≡ record { best = weight leaf; kept = true; reading = leaf.truths }
  pub less : weight leaf < best
  pub in_front : (q : Part) → Memᴰ q front → weight leaf < weight q
  pub behind : (q : Part) → Memᴰ q rest → weight leaf ≤ weight q

-- How far a walk has come, from what was chosen before it: of all leaves it has seen, or cut, the front ones, and what it has chosen is the
-- best of these. Where it is not stopped these are all leaves; where it is, those below the node that was due are left at least.
pub record Reached (weight : Part → ℕ) (all : List Part) (c : Chosen) (w : Walked) : Type 0 where
  pub front : List Part
  pub rest : List Part
  pub split : all ≡ front ++ rest
  pub is_best : chosen w ≡ scan weight front c
  pub whole : w.stopped ≡ false → rest ≡ []
  pub some_left : w.stopped ≡ true → 1 ≤ length rest

-- The count is at most the budget, and is the budget where the walk is stopped.
pub record WithinBudget (budget : ℕ) (s : Walked) : Type 0 where
  pub within : s.nodes ≤ budget
  pub at_stop : s.stopped ≡ true → s.nodes ≡ budget
