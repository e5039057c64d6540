-- What the groups cost never exceeds what a reading below the node gives up of the working weights: of each group it misses a row, and from
-- that row the cost is taken. So the costs and what is given up of the weights that are left never grow.
use Prim.Native.Nat.{ℕ, zero, suc, ◌+◌, ◌-◌, ◌≤◌, ◌<◌}
use mathlib.Core.Path.{◌≡◌, refl, ap}
use mathlib.Core.List.Memᴰ
use mathlib.Core.List.{List, [], ◌∷◌, Memᴰ}
use mathlib.Core.Bool.{Bool, true, false, cond}
use mathlib.Core.Logic.{⊎_elim}
use native.Mathlib.Nat.{le_refl, le_of_suc-le-suc, eq-or-lt_of_le, not-suc-le-zero}
use native.Mathlib.Omega.{arith}
use borrow.Author.Tests.{eq-eqb, ne_eqb}
use lib.Arith.{le-zero}
use lib.Dec.{eqb}
use Rattle.masks.specs.Sums.{sum}
use Rattle.masks.proofs.Choice.{cond-elim}
use Rattle.masks.proofs.Sums.{downwards, sum-le}
use Rattle.literals.specs.declared.Lits.{Lits}
use Rattle.literals.proofs.TwoMasks.{Held}
use Rattle.rules.specs.declared.Part.{Part}
use Rattle.rules.specs.Table.{holds}
use Rattle.rules.specs.Groups.{Weights, Group, Tally, hunted, group_of, less_at, taken, tallied, hunts}
use Rattle.walk_laws.specs.Sound.{Extends}
use Rattle.walk_laws.proofs.Agreeing.{Nested}
use Rattle.group_laws.proofs.Hunting.{Hunting, hunting}
use Rattle.group_laws.proofs.Gathering.{Costed, group-missed, group-costed}

-- ---- a cost taken from rows

less-le : (row cost : ℕ) (W : Weights) (i : ℕ) → less_at row cost W i ≤ W i
unfolding less_at
less-le row cost W i = cond-elim (λ (w : ℕ). w ≤ W i) (eqb i row) (W i - cost) (W i) (λ t. omega arith) (λ t. omega arith)

pub less-same : (row cost : ℕ) (W : Weights) → less_at row cost W row ≡ W row - cost
unfolding less_at
less-same row cost W = rw (eq-eqb row row refl)

pub less_other : (row cost : ℕ) (W : Weights) (i : ℕ) → (i ≡ row → ⊥) → less_at row cost W i ≡ W i
unfolding less_at
less_other row cost W i h = rw (ne_eqb i row h)

pub taken-le : (cost : ℕ) (rs : List ℕ) (W : Weights) (i : ℕ) → taken cost rs W i ≤ W i
unfolding taken
taken-le cost [] W i = le_refl (W i)
taken-le cost (r ∷ rs) W i = omega (arith, less-le r cost (taken cost rs W) i, taken-le cost rs W i)

pub taken_in : (cost : ℕ) (rs : List ℕ) (W : Weights) (j : ℕ) → Memᴰ j rs → taken cost rs W j ≤ W j - cost
unfolding taken
taken_in cost [] W j m = absurd (Memᴰ.not-nil m)
taken_in cost (r ∷ rs) W j m =
    ⊎_elim
    (λ (e : j ≡ r). rw e (omega (arith, less-same r cost (taken cost rs W), taken-le cost rs W r)))
    (λ k. omega (arith, less-le r cost (taken cost rs W) j, taken_in cost rs W j k))
    (Memᴰ.cases_cons m)

pub given-le : (b : Bool) {v w : ℕ} → v ≤ w → cond b 0 v ≤ cond b 0 w
given-le true l = omega arith
given-le false l = l

-- at most everywhere, and less by so much at one index
pub sum_drop : (n : ℕ) {f g : ℕ → ℕ} (j c : ℕ) → j < n → ((i : ℕ) → i < n → f i ≤ g i) → f j + c ≤ g j → sum n f + c ≤ sum n g
unfolding sum
sum_drop zero j c l h s = absurd (not-suc-le-zero l)
sum_drop (suc n) {f} {g} j c l h s =
    ⊎_elim
    (λ e. omega (arith, sum-le n {f = f} {g = g} (downwards h), ap f e, ap g e))
    (λ m. omega (arith, sum_drop n {f = f} {g = g} j c m (downwards h) s, h n (le_refl (suc n))))
    (eq-or-lt_of_le (le_of_suc-le-suc l))

module _ (lits : ℕ → Lits) (rows names : ℕ) (p : Part) where
  -- ---- one hunt: nothing found, or a group

  abbrev pub group_at : Tally → Group
  group_at t = group_of lits t.weights p (hunted lits t.weights rows names p)

  abbrev pub after : Tally → Tally
  after t = record { weights = taken (group_at t).cost (group_at t).rows t.weights; costs = t.costs + (group_at t).cost }

  pub tallied-by : (P : Tally → Type 0) (t : Tally) → ((hunted lits t.weights rows names p).found ≡ false → P t)
      → ((hunted lits t.weights rows names p).found ≡ true → P (after t)) → P (tallied lits rows names p t)
  unfolding tallied
  tallied-by P t nothing found = cond-elim P (hunted lits t.weights rows names p).found (after t) t found nothing

  pub hunted-hunting : (W : Weights) → Hunting lits rows p W (hunted lits W rows names p)
  unfolding hunted
  hunted-hunting W = hunting lits rows p W names

  -- what a group costs, of the weights it is found in
  pub costed : (t : Tally) → (hunted lits t.weights rows names p).found ≡ true → Costed lits rows p t.weights (group_at t)
  costed t = group-costed lits rows p t.weights (hunted lits t.weights rows names p) (hunted-hunting t.weights)

  -- ---- the costs only grow

  pub tallied-more : (t : Tally) → t.costs ≤ (tallied lits rows names p t).costs
  tallied-more t = tallied-by (λ s. t.costs ≤ s.costs) t (λ f. le_refl t.costs) (λ f. omega arith)

  -- fewer hunts cost no more: a hunt may be left out once the costs so far are enough
  pub hunts-more : (W : Weights) (k m : ℕ) → k ≤ m → (hunts lits rows names p W k).costs ≤ (hunts lits rows names p W m).costs
  unfolding hunts
  hunts-more W k zero l = rw (le-zero l) (le_refl 0)
  hunts-more W k (suc m) l =
      ⊎_elim
      (λ e. rw e (le_refl (tallied lits rows names p (hunts lits rows names p W m)).costs))
      (λ s. omega (arith, hunts-more W k m (le_of_suc-le-suc s), tallied-more (hunts lits rows names p W m)))
      (eq-or-lt_of_le l)

  -- ---- a reading below the node

  module _ (x : ℕ) (held : (i : ℕ) → i < rows → Held (lits i)) (nested : Nested p) (extends : Extends p x) where
    -- what the reading gives up of the working weights
    unfoldable pub gives : Weights → ℕ
    gives W = sum rows (λ i. cond (holds (lits i) x) 0 (W i))

    found-gives : (t : Tally) → (hunted lits t.weights rows names p).found ≡ true → gives (after t).weights + (group_at t).cost ≤ gives t.weights
    unfolding gives
    found-gives t f =
        let W = t.weights in
        let h = hunted lits W rows names p in
        let g = group_at t in
        let m = group-missed lits rows p W x held h nested extends (hunted-hunting W) f in
        let c = costed t f in
        sum_drop rows m.row g.cost (c.used m.row m.among)
        (λ i l. given-le (holds (lits i) x) (taken-le g.cost g.rows W i))
        (rw m.missed (omega (arith, taken_in g.cost g.rows W m.row m.among, c.least m.row m.among)))

    pub hunts-give : (W : Weights) (k : ℕ) → (hunts lits rows names p W k).costs + gives (hunts lits rows names p W k).weights ≤ gives W
    unfolding hunts
    hunts-give W zero = omega arith
    hunts-give W (suc k) =
        let t = hunts lits rows names p W k in
        tallied-by (λ s. s.costs + gives s.weights ≤ gives W) t
        (λ f. hunts-give W k)
        (λ f. omega (arith, hunts-give W k, found-gives t f))
