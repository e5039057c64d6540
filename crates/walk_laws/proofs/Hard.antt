-- Hard rows and the walk. Every reading below a dead node breaks a hard row, and a leaf is dead just where its reading does. So the price of a node, with
-- any bound that is sound for weights, is sound for what readings come to; and a reading that is kept breaks none.
use Prim.Native.Nat.{ℕ, ◌+◌, ◌≤◌, ◌<◌}
use mathlib.Core.Path.{◌≡◌, refl, sym, ap, ◌∙◌}
use mathlib.Core.List.{List, []}
use mathlib.Core.Bool.{Bool, true, false, cond, not, ◌&&◌, ◌||◌}
use native.Mathlib.Omega.{arith}
use borrow.Author.Tests.{not-true, not-false}
use Rattle.masks.specs.Masks.{has}
use Rattle.masks.specs.Sums.{every}
use Rattle.masks.proofs.Sums.{every-ext, every-fails, every-false}
use Rattle.masks.proofs.Choice.{and_left, and_right}
use Rattle.literals.specs.declared.Lits.{Lits}
use Rattle.literals.specs.Lits.{is_empty}
use Rattle.rules.specs.declared.Part.{Part}
use Rattle.rules.specs.declared.Row.{Row}
use Rattle.rules.specs.Table.{most_weight, is_hard, holds, breaks}
use Rattle.rules.specs.Desk.{variables, in_use, row_on, satisfied, remnant, desk_weighs, hard_hold_on, weight_on}
use Rattle.rules.specs.Bound.{lost_hard, dead}
use Rattle.desk_laws.proofs.Formed.{Formed, Sound as SoundLits}
use Rattle.walk_laws.specs.Hard.{comes_to}
use Rattle.walk_laws.specs.Sound.{Extends, Sound, Node}
use Rattle.walk_laws.proofs.Remnants.{holds-split, holds-empty}
use Rattle.walk_laws.proofs.Bounds.{no-remnant, weighs-most}
use Rattle.walk_laws.proofs.Nodes.{leaf-extends, node-itself, node-full}

-- ---- dead nodes

lost-broken : (p : Part) (row : Row) (reading : ℕ) → Extends p reading → lost_hard p row ≡ true → breaks row reading ≡ true
unfolding lost_hard breaks
lost-broken p row reading extends e =
    let left = and_right (is_hard row) (not (satisfied p row.lits) && is_empty (remnant p row.lits)) e in
    let unsatisfied = not-true (satisfied p row.lits) (and_left (not (satisfied p row.lits)) (is_empty (remnant p row.lits)) left) in
    let empty = and_right (not (satisfied p row.lits)) (is_empty (remnant p row.lits)) left in
    rw (
      and_left (is_hard row) (not (satisfied p row.lits) && is_empty (remnant p row.lits)) e,
      holds-split p reading row.lits extends,
      unsatisfied,
      holds-empty (remnant p row.lits) reading empty,
    )

-- every reading below a dead node breaks a hard row
pub dead-broken : (d : List ℕ) (p : Part) (reading : ℕ) → Extends p reading → dead d p ≡ true → hard_hold_on d reading ≡ false
unfolding dead hard_hold_on
dead-broken d p reading extends e =
    let x = every-fails (in_use d) (λ i. not (lost_hard p (row_on d i))) (not-true (every (in_use d) (λ i. not (lost_hard p (row_on d i)))) e) in
    let broken = lost-broken p (row_on d x.0) reading extends (not-false (lost_hard p (row_on d x.0)) x.2) in
    every-false (in_use d) (λ i. not (breaks (row_on d i) reading)) x.0 x.1 (ap not broken)

-- a leaf is dead just where its reading breaks one
module _ (d : List ℕ) (p : Part) (sound : (i : ℕ) → i < in_use d → SoundLits (variables d) (row_on d i).lits) (extends : Extends p p.truths)
    (all : (v : ℕ) → v < variables d → has p.decided v ≡ true) where
  lost-leaf : (i : ℕ) → i < in_use d → lost_hard p (row_on d i) ≡ breaks (row_on d i) p.truths
  unfolding lost_hard breaks
  lost-leaf i l =
      let lits : Lits = (row_on d i).lits in
      let none = no-remnant d p sound extends all i l in
      rw (none, holds-split p p.truths lits extends, holds-empty (remnant p lits) p.truths none) (ap (λ (x : Bool). is_hard (row_on d i) && x)
      (go (satisfied p lits)))
    where
      go : (s : Bool) → (not s && true) ≡ not (s || false)
      go true = refl
      go false = refl

  pub dead-leaf : dead d p ≡ not (hard_hold_on d p.truths)
  unfolding dead hard_hold_on
  dead-leaf = ap not (every-ext (in_use d) (λ i l. ap not (lost-leaf i l)))

-- ---- the price of a node

-- what a reading weighs is at most what it comes to
comes-up : (d : List ℕ) → Formed d → (reading : ℕ) → desk_weighs d reading ≤ comes_to d reading
unfolding comes_to
comes-up d f reading = go (hard_hold_on d reading)
  where
    go : (h : Bool) → desk_weighs d reading ≤ cond h (desk_weighs d reading) (most_weight + 1)
    go true = omega arith
    go false = omega (arith, weighs-most d reading, f.light)

module _ (d : List ℕ) (f : Formed d) (b : Part → ℕ) where
  at-most : (p : Part) (reading : ℕ) → Extends p reading → b p ≤ desk_weighs d reading → (t : Bool) → dead d p ≡ t
      → cond t (most_weight + 1) (b p) ≤ comes_to d reading
  unfolding comes_to
  at-most p reading extends l true e = rw (dead-broken d p reading extends e) (omega arith)
  at-most p reading extends l false e = omega (arith, l, comes-up d f reading)

  at_leaf_lem : (p : Part) → dead d p ≡ not (hard_hold_on d p.truths) → b p ≡ desk_weighs d p.truths
      → cond (dead d p) (most_weight + 1) (b p) ≡ comes_to d p.truths
  unfolding comes_to
  at_leaf_lem p e w = rw (e, w) (go (hard_hold_on d p.truths))
    where
      go : (h : Bool) → cond (not h) (most_weight + 1) (desk_weighs d p.truths) ≡ cond h (desk_weighs d p.truths) (most_weight + 1)
      go true = refl
      go false = refl

  pub price-sound : Sound (Node (variables d)) b (desk_weighs d) → Sound (Node (variables d)) (λ p. cond (dead d p) (most_weight + 1) (b p)) (comes_to d)
  price-sound s =
      record {
        deeper = λ node value. s.deeper node value;
        at_most = λ {vs} {p} {q} node below. at-most p q.truths (leaf-extends node below) (s.at_most node below) (dead d p) refl;
        at_leaf = λ {p} node. at_leaf_lem p (dead-leaf d p f.sound (node-itself node) (node-full node)) (s.at_leaf node);
      }

-- ---- what a reading that comes to little says

pub held : (d : List ℕ) (reading : ℕ) → comes_to d reading ≤ most_weight → (hard_hold_on d reading ≡ true) × (desk_weighs d reading ≡ comes_to d reading)
unfolding comes_to
held d reading = go (hard_hold_on d reading)
  where
    go : (h : Bool) → cond h (desk_weighs d reading) (most_weight + 1) ≤ most_weight
        → (h ≡ true) × (desk_weighs d reading ≡ cond h (desk_weighs d reading) (most_weight + 1))
    go true l = (refl, refl)
    go false l = absurd (omega arith)

pub holding : (d : List ℕ) (reading : ℕ) → hard_hold_on d reading ≡ true → comes_to d reading ≡ desk_weighs d reading
unfolding comes_to
holding d reading e = rw e
