-- An entry joins a group, or it is not needed: the row is stored behind the last. The group is gathered from the end of the trail, so that what is
-- still to be gathered are the entries below an index.
use Prim.Native.Nat.{ℕ, ◌+◌, ◌-◌, ◌<◌, min}
use mathlib.Core.Path.{◌≡◌, sym, ap, ◌∙◌}
use mathlib.Core.List.{List}
use native.Mathlib.Omega.{arith}
use lib.Bits.{bit_and, bit_or}
use lib.ListN.{length, get_or, set}
use Rattle.literals.specs.declared.Lits.{Lits}
use Rattle.literals.specs.Lits.{variables_of}
use Rattle.rules.specs.declared.Part.{Part}
use Rattle.rules.specs.declared.Row.{Row}
use Rattle.rules.specs.Desk.{row_on, remnant}
use Rattle.rules.specs.Groups.{Group, joined, gathered, conflict_group, group_of}
use Rattle.group_laws.specs.Trails.{trail_of, rows_of, weights_in}
use Rattle.group_laws.proofs.Gathering.{joined-out, joined_in}
use Rattle.group_laws.proofs.Trails.{gathered-more, rows-stored}
use Rattle.looking.specs.declared.Trail.{Trail}
use Rattle.looking.specs.Looks.{lits_on, hunt_of}
use Rattle.gathering.specs.declared.Joined.{Joined}
use Rattle.gathering.specs.Gathered.{group_in}

-- what is left of a row at the node
variables-left : (d : List ℕ) (p : Part) (row : ℕ) (there : Row) → there ≡ row_on d row → (rest : Lits) → rest ≡ remnant p there.lits
    → bit_or rest.positive rest.negative ≡ variables_of (remnant p (row_on d row).lits)
unfolding variables_of
variables-left d p row there is rest left = ap variables_of (left ∙ ap (λ (r : Row). remnant p r.lits) is)

module _ (d words : List ℕ) (p : Part) (variable row : ℕ) (g : Joined) (group : List ℕ) where
  pub not-needed : bit_and variable g.needed ≡ 0
      → group_in g group ≡ joined (lits_on d) (weights_in words) p (record { variable = variable; row = row }) (group_in g group)
  not-needed z = sym (joined-out (lits_on d) 0 p (weights_in words) (record { variable = variable; row = row }) (group_in g group) z)

  module _ (there : Row) (is : there ≡ row_on d row) (rest : Lits) (left : rest ≡ remnant p there.lits) where
    pub needed-joins : (bit_and variable g.needed ≡ 0 → ⊥) → g.size < length group → (cost : ℕ) → cost ≡ min (get_or words row 0) g.cost
        → group_in (record { needed = bit_or g.needed (bit_or rest.positive rest.negative); cost = cost; size = g.size + 1 })
        (set group g.size row)
        ≡ joined (lits_on d) (weights_in words) p (record { variable = variable; row = row }) (group_in g group)
    needed-joins needed room cost least =
        (λ k.
        record {
          needed = bit_or g.needed (variables-left d p row there is rest left k);
          cost = least k;
          rows = rows-stored group g.size row room k;
        })
        ∙ sym (joined_in (lits_on d) 0 p (weights_in words) (record { variable = variable; row = row }) (group_in g group) needed)

-- ---- the conflict row, then the trail from its end

module _ (d words : List ℕ) (p : Part) where
  pub conflict-first : (c : ℕ) (group : List ℕ) → 0 < length group → (there : Row) → there ≡ row_on d c → (rest : Lits) → rest ≡ remnant p there.lits
      → group_in (record { needed = bit_or rest.positive rest.negative; cost = get_or words c 0; size = 1 }) (set group 0 c)
      ≡ conflict_group (lits_on d) (weights_in words) p c
  unfolding rows_of
  conflict-first c group room there is rest left k =
      record { needed = variables-left d p c there is rest left k; cost = get_or words c 0; rows = rows-stored group 0 c room k }

  module _ (mask row : ℕ → ℕ) (k : ℕ) (all g : Group) (so : gathered (lits_on d) (weights_in words) p (trail_of mask row k) g ≡ all) where
    pub gather-next : 0 < k → (next : Group)
        → next ≡ joined (lits_on d) (weights_in words) p (record { variable = mask (k - 1); row = row (k - 1) }) g
        → gathered (lits_on d) (weights_in words) p (trail_of mask row (k - 1)) next ≡ all
    gather-next some next e =
        let back : k - 1 + 1 ≡ k = omega arith in
        ap (gathered (lits_on d) (weights_in words) p (trail_of mask row (k - 1))) e
        ∙ sym (gathered-more (lits_on d) (weights_in words) p mask row (k - 1) g)
        ∙ ap (λ (n : ℕ). gathered (lits_on d) (weights_in words) p (trail_of mask row n) g) back
        ∙ so

    pub gather-done : k ≡ 0 → g ≡ all
    unfolding gathered trail_of
    gather-done none = sym (ap (λ (n : ℕ). gathered (lits_on d) (weights_in words) p (trail_of mask row n) g) none) ∙ so

  -- all of the trail
  pub gather-all : (t : Trail) (ms rs : List ℕ) (g : Group) → g ≡ conflict_group (lits_on d) (weights_in words) p t.conflict
      → gathered (lits_on d) (weights_in words) p (trail_of (λ j. get_or ms j 0) (λ j. get_or rs j 0) t.entries) g
      ≡ group_of (lits_on d) (weights_in words) p (hunt_of t ms rs)
  unfolding group_of
  gather-all t ms rs g e = ap (gathered (lits_on d) (weights_in words) p (trail_of (λ j. get_or ms j 0) (λ j. get_or rs j 0) t.entries)) e
