-- The bound by groups is sound: it is at most what every reading that extends the decisions weighs, and is that weight where all is decided.
-- A row counts as lost or has a working weight, never both, and of the working weights the groups cost no more than the reading gives up.
-- Where all is decided no row has a working weight.
use Prim.Native.Nat.{ℕ, ◌+◌, ◌≤◌, ◌<◌}
use mathlib.Core.Path.{◌≡◌, refl}
use mathlib.Core.List.{List}
use mathlib.Core.Bool.{Bool, true, false, cond, not, ◌&&◌, ◌||◌, and-false}
use native.Mathlib.Nat.{le_refl}
use native.Mathlib.Omega.{arith}
use Rattle.masks.specs.Masks.{has}
use Rattle.masks.specs.Sums.{sum}
use Rattle.masks.proofs.Choice.{cond_same}
use Rattle.masks.proofs.Sums.{sum-le, sum-add, sum-zero}
use Rattle.masks.proofs.Sets.{within-and}
use Rattle.literals.specs.Lits.{is_empty}
use Rattle.literals.proofs.TwoMasks.{Held}
use Rattle.rules.specs.declared.Part.{Part}
use Rattle.rules.specs.declared.Row.{Row}
use Rattle.rules.specs.Table.{holds, given_up}
use Rattle.rules.specs.Desk.{variables, in_use, row_on, weight_on, satisfied, remnant, desk_weighs}
use Rattle.rules.specs.Bound.{weight_where, lost_beyond, lost, total}
use Rattle.rules.specs.Groups.{Weights, hunts, working_weight, hunts_on, groups_cost, groups_bound, losses_by_groups}
use Rattle.desk_laws.proofs.Formed.{Formed, sound-held}
use Rattle.walk_laws.specs.Sound.{Sound, Extends, Node}
use Rattle.walk_laws.proofs.Agreeing.{Nested}
use Rattle.walk_laws.proofs.Remnants.{holds-split, holds-empty}
use Rattle.walk_laws.proofs.Bounds.{no-remnant, lost-at-leaf, weighs-most}
use Rattle.walk_laws.proofs.Nodes.{node-itself, node-full, node-deeper, leaf-extends}
use Rattle.group_laws.proofs.Costs.{given-le, gives, hunts-give}

-- ---- a row is lost, or has a working weight

row_apart : (p : Part) (row : Row) (x : ℕ) → Extends p x
    → weight_where is_empty p row + cond (holds row.lits x) 0 (weight_where (λ l. not (is_empty l)) p row) ≤ given_up row x
unfolding weight_where given_up
row_apart p row x e =
    rw (holds-split p x row.lits e)
    (go (satisfied p row.lits) (is_empty (remnant p row.lits)) (holds (remnant p row.lits) x) (holds-empty (remnant p row.lits) x))
  where
    go : (s e m : Bool) → (e ≡ true → m ≡ false)
        → cond (not s && e) row.weight 0 + cond (s || m) 0 (cond (not s && not e) row.weight 0) ≤ cond (s || m) 0 row.weight
    go true e m k = omega arith
    go false true m k = rw (k refl) (omega arith)
    go false false true k = omega arith
    go false false false k = omega arith

module _ (d : List ℕ) (f : Formed d) (p : Part) where
  rows-held : (i : ℕ) → i < in_use d → Held (row_on d i).lits
  rows-held i l = sound-held f.named (f.sound i l)

  -- Hunts that start with no more than the working weights cost no more than a reading gives up of these.
  module _ (W : Weights) (light : (i : ℕ) → i < in_use d → W i ≤ working_weight d p i) (x k : ℕ) (nested : Nested p) (extends : Extends p x) where
    costs-most : (hunts (λ i. (row_on d i).lits) (in_use d) (variables d) p W k).costs
        ≤ sum (in_use d) (λ i. cond (holds (row_on d i).lits x) 0 (working_weight d p i))
    unfolding gives
    costs-most =
        let less : sum (in_use d) (λ i. cond (holds (row_on d i).lits x) 0 (W i))
        ≤ sum (in_use d) (λ i. cond (holds (row_on d i).lits x) 0 (working_weight d p i)) =
        sum-le (in_use d) (λ i l. given-le (holds (row_on d i).lits x) (light i l)) in
        omega (arith, hunts-give (λ i. (row_on d i).lits) (in_use d) (variables d) p x rows-held nested extends W k)

    pub costs-below : lost d p + (hunts (λ i. (row_on d i).lits) (in_use d) (variables d) p W k).costs ≤ desk_weighs d x
    unfolding lost lost_beyond desk_weighs working_weight
    costs-below =
        let empties : ℕ → ℕ = λ i. weight_where is_empty p (row_on d i) in
        let given : ℕ → ℕ = λ i. cond (holds (row_on d i).lits x) 0 (weight_where (λ l. not (is_empty l)) p (row_on d i)) in
        let rows : sum (in_use d) (λ i. empties i + given i) ≤ sum (in_use d) (λ i. given_up (row_on d i) x) =
        sum-le (in_use d) (λ i l. row_apart p (row_on d i) x extends) in
        omega (arith, costs-most, sum-add (in_use d) empties given)

  pub groups-below : (x : ℕ) → Nested p → Extends p x → groups_bound d p ≤ desk_weighs d x
  unfolding groups_bound groups_cost hunts_on
  groups-below x = costs-below (working_weight d p) (λ i l. le_refl (working_weight d p i)) x (in_use d)

  -- ---- where all is decided

  module _ (nested : Nested p) (extends : Extends p p.truths) (all : (v : ℕ) → v < variables d → has p.decided v ≡ true) where
    nothing-works : (i : ℕ) → i < in_use d → working_weight d p i ≡ 0
    unfolding working_weight weight_where
    nothing-works i l = rw (no-remnant d p f.sound extends all i l, and-false (not (satisfied p (row_on d i).lits)))

    pub groups-at-leaf : groups_bound d p ≡ desk_weighs d p.truths
    unfolding groups_bound groups_cost hunts_on
    groups-at-leaf =
        let none : sum (in_use d) (λ i. cond (holds (row_on d i).lits p.truths) 0 (working_weight d p i)) ≡ 0 =
        sum-zero (in_use d) (λ i l. rw (nothing-works i l) (cond_same (holds (row_on d i).lits p.truths) 0)) in
        omega (
          arith,
          costs-most (working_weight d p) (λ i l. le_refl (working_weight d p i)) p.truths (in_use d) nested extends,
          lost-at-leaf d p f.sound extends all,
        )

-- ---- at every node

pub groups-sound : (d : List ℕ) → Formed d → Sound (Node (variables d)) (groups_bound d) (desk_weighs d)
groups-sound d f =
    record {
      deeper = λ node value. node-deeper node value;
      at_most = λ {vs} {p} {q} node b. groups-below d f p q.truths node.nested (leaf-extends node b);
      at_leaf = λ {p} node. groups-at-leaf d f p node.nested (node-itself node) (node-full node);
    }

-- ---- the three numbers

pub groups-total : (d : List ℕ) (p : Part) → total (losses_by_groups d p) ≡ groups_bound d p
unfolding losses_by_groups groups_bound lost
groups-total d p = refl

-- no more than all there is, and so a number of the machine
pub groups-most : (d : List ℕ) → Formed d → (p : Part) → Nested p → groups_bound d p ≤ weight_on d
groups-most d f p nested =
    omega (arith, groups-below d f p p.truths nested (within-and p.truths p.decided nested), weighs-most d p.truths)
