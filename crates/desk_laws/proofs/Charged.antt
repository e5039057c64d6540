-- What is lost with a charge for each hard row: what is lost, and a charge for each hard row that is. With no charge, and where no hard row is lost, it
-- is what is lost; at a dead node it is no less than the charge.
use Prim.Native.Nat.{ℕ, ◌+◌, ◌*◌, ◌^◌, ◌≤◌, ◌<◌}
use mathlib.Core.Path.{◌≡◌, refl, ◌∙◌}
use mathlib.Core.List.{List}
use mathlib.Core.Bool.{Bool, true, false, cond, not, ◌&&◌}
use native.Mathlib.Omega.{arith}
use borrow.Author.Tests.{not-true, not-false}
use Rattle.masks.specs.Sums.{sum, every}
use Rattle.masks.proofs.Choice.{cond_same, so, not_so}
use Rattle.masks.proofs.Sums.{sum-ext, sum-add, sum_bound, sum_mono, le-sum, every-at, every-fails}
use Rattle.literals.specs.Lits.{is_empty}
use Rattle.rules.specs.declared.Part.{Part}
use Rattle.rules.specs.declared.Row.{Row}
use Rattle.rules.specs.Table.{is_hard}
use Rattle.rules.specs.Desk.{most_capacity, in_use, conceded, row_on, satisfied, remnant}
use Rattle.rules.specs.Bound.{weight_where, lost_beyond, lost_hard, dead}
use Rattle.desk_laws.specs.Charged.{dead_charge, charged_row, lost_charged}
use Rattle.desk_laws.specs.Readable.{Readable}
use Rattle.desk_laws.proofs.Readable.{rows-most, row_fits}

-- the charge that a row adds to what is lost
abbrev charge_of : ℕ → Part → Row → ℕ
charge_of charge p row = cond (lost_hard p row) charge 0

charge-apart : (charge : ℕ) (p : Part) (row : Row) → weight_where is_empty p (charged_row charge row) ≡ weight_where is_empty p row + charge_of charge p row
unfolding weight_where lost_hard
charge-apart charge p row = go (not (satisfied p row.lits) && is_empty (remnant p row.lits)) (is_hard row)
  where
    go : (gone hard : Bool) → cond gone (row.weight + cond hard charge 0) 0 ≡ cond gone row.weight 0 + cond (hard && gone) charge 0
    go true true = refl
    go true false = refl
    go false true = refl
    go false false = refl

charge-most : (charge : ℕ) (gone : Bool) → cond gone charge 0 ≤ charge
charge-most charge true = omega arith
charge-most charge false = omega arith

module _ (d : List ℕ) (p : Part) where
  split_at : (charge n : ℕ)
      → lost_charged charge d p n ≡ sum n (λ i. weight_where is_empty p (row_on d i)) + sum n (λ i. charge_of charge p (row_on d i))
  split_at charge n =
      sum-ext n (λ i l. charge-apart charge p (row_on d i)) ∙ sum-add n (λ i. weight_where is_empty p (row_on d i)) (λ i. charge_of charge p (row_on d i))

  -- where no row's charge is lost it is what is lost
  uncharged : (charge : ℕ) → ((i : ℕ) → i < in_use d → charge_of charge p (row_on d i) ≡ 0) → lost_charged charge d p (in_use d) ≡ lost_beyond d p
  unfolding lost_beyond
  uncharged charge none = sum-ext (in_use d) (λ i l. omega (arith, charge-apart charge p (row_on d i), none i l))

  pub charged-none : lost_charged 0 d p (in_use d) ≡ lost_beyond d p
  charged-none = uncharged 0 (λ i l. cond_same (lost_hard p (row_on d i)) 0)

  pub charged-alive : (charge : ℕ) → dead d p ≡ false → lost_charged charge d p (in_use d) ≡ lost_beyond d p
  unfolding dead
  charged-alive charge e =
      let alive = not-false (every (in_use d) (λ i. not (lost_hard p (row_on d i)))) e in
      uncharged charge (λ i l. rw (not-true (lost_hard p (row_on d i)) (every-at (in_use d) (λ k. not (lost_hard p (row_on d k))) alive i l)))

  pub charged-dead : (charge : ℕ) → dead d p ≡ true → charge ≤ lost_charged charge d p (in_use d)
  unfolding dead
  charged-dead charge e =
      let x = every-fails (in_use d) (λ i. not (lost_hard p (row_on d i))) (not-true (every (in_use d) (λ i. not (lost_hard p (row_on d i)))) e) in
      let here = not-false (lost_hard p (row_on d x.0)) x.2 in
      let one : charge_of charge p (row_on d x.0) ≡ charge = rw here in
      omega (arith, one, split_at charge (in_use d), le-sum (in_use d) (λ i. charge_of charge p (row_on d i)) x.0 x.1)

  -- what is lost with a charge that is more than any weight tells whether the node is dead
  module _ (readable : Readable d) {lost : ℕ} (gathered : lost ≡ lost_charged dead_charge d p (in_use d)) where
    pub dead-so : dead_charge ≤ lost → dead d p ≡ true
    unfolding lost_beyond
    dead-so h = so (λ e. omega (arith, gathered, charged-alive dead_charge e, rows-most d readable p is_empty))

    pub alive-so : lost < dead_charge → dead d p ≡ false
    alive-so h = not_so (λ e. omega (arith, gathered, charged-dead dead_charge e))

    pub alive-lost : lost < dead_charge → lost ≡ lost_beyond d p
    alive-lost h = gathered ∙ charged-alive dead_charge (alive-so h)

  -- no sum of weights and charges wraps
  module _ (readable : Readable d) (charge : ℕ) (fair : charge ≤ dead_charge) where
    pub charged-most : (n : ℕ) → n ≤ in_use d → conceded d + lost_charged charge d p n ≤ dead_charge + most_capacity * dead_charge
    charged-most n h =
        let f : ℕ → ℕ = λ i. weight_where is_empty p (row_on d i) in
        let each = sum_bound n dead_charge {f = λ i. charge_of charge p (row_on d i)} (λ i l. omega (arith, charge-most charge (lost_hard p (row_on d i)))) in
        omega (arith, split_at charge n, rows-most d readable p is_empty, sum_mono n (in_use d) f h, each, readable.few)

    pub charged-fits : (i : ℕ) → i < in_use d → lost_charged charge d p i + (charged_row charge (row_on d i)).weight < 2 ^ 64
    charged-fits i h =
        omega (arith, charged-most i (omega arith), row_fits d readable p i h, charge-most charge (is_hard (row_on d i)))
