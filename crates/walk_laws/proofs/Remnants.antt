-- A row under a partial reading. Every reading that extends it satisfies the row exactly where the row is satisfied already or the
-- remnant is satisfied (`holds-agreed`). So an unsatisfied row with an empty remnant is missed, and so is one whose remnant is one literal
-- that the reading makes false.
-- Rows that are lost and rows of a unit are different, and so are rows of units on different variables: the remnant tells them apart.
use Prim.Native.Nat.{ℕ, ◌+◌, ◌^◌, ◌≤◌, ◌<◌}
use mathlib.Core.Path.{◌≡◌, refl, sym, ap, ◌∙◌}
use mathlib.Core.Bool.{Bool, true, false, cond, not, ◌&&◌, ◌||◌}
use mathlib.Core.Logic.{⊎_elim}
use native.Mathlib.Nat.{eq-zero-or-pos, add-zero}
use native.Mathlib.Omega.{arith}
use lib.Bits.{bit_and, and_comm, and_zero_l}
use lib.Pow.{pow_pos}
use Rattle.masks.specs.Masks.{has, without, none, single}
use Rattle.masks.specs.Sums.{sum}
use Rattle.masks.proofs.Choice.{cond-elim}
use Rattle.masks.proofs.Sums.{sum-zero, sum-one-of}
use Rattle.masks.proofs.Sets.{zero-without, and-pow-apart, pow-within, single-pow, pow-inj, none-zero}
use Rattle.literals.specs.declared.Lits.{Lits}
use Rattle.literals.specs.Lits.{variables_of, is_empty, same_lits}
use Rattle.literals.proofs.TwoMasks.{same-eq, empty-masks}
use Rattle.rules.specs.declared.Row.{Row}
use Rattle.rules.specs.declared.Part.{Part}
use Rattle.rules.specs.Table.{holds, given_up}
use Rattle.rules.specs.Desk.{satisfied, remnant}
use Rattle.rules.specs.Bound.{weight_where}
use Rattle.walk_laws.specs.Sound.{Extends}
use Rattle.walk_laws.proofs.Agreeing.{extends-agrees, extends-nested, holds-agreed}

-- ---- satisfied already, or by the remnant

pub holds-split : (p : Part) (reading : ℕ) (l : Lits) → Extends p reading → holds l reading ≡ (satisfied p l || holds (remnant p l) reading)
holds-split p reading l e = holds-agreed p l reading (extends-nested p reading e) (extends-agrees p (variables_of l) reading e)

-- no literals are never satisfied
pub holds-empty : (l : Lits) (reading : ℕ) → is_empty l ≡ true → holds l reading ≡ false
unfolding holds
holds-empty l reading h =
    let e = empty-masks l h in
    let positive : none (bit_and l.positive reading) ≡ true = none-zero (rw e.0 (and_zero_l reading)) in
    let negative : none (without l.negative reading) ≡ true = none-zero (rw e.1 (zero-without reading)) in
    rw (positive, negative)

-- ---- one literal: variable v with this value

abbrev pub unit : ℕ → Bool → Lits
unit v value = record { positive = cond value (single v) 0; negative = cond value 0 (single v) }

-- the literal on v that a reading makes false
abbrev pub missed_at : ℕ → ℕ → Lits
missed_at reading v = unit v (not (has reading v))

pub holds-missed : (reading v : ℕ) → v < 64 → holds (missed_at reading v) reading ≡ false
unfolding holds
holds-missed reading v below = go (has reading v) refl
  where
    go : (t : Bool) → has reading v ≡ t → holds (unit v (not t)) reading ≡ false
    go true e =
        let positive : none (bit_and 0 reading) ≡ true = none-zero (and_zero_l reading) in
        let negative : none (without (single v) reading) ≡ true = none-zero (rw (single-pow v below) (pow-within reading v e)) in
        rw (positive, negative)
    go false e =
        let positive : none (bit_and (single v) reading) ≡ true =
        none-zero (rw (single-pow v below) (and_comm (2 ^ v) reading ∙ and-pow-apart reading v e)) in
        let negative : none (without 0 reading) ≡ true = none-zero (zero-without reading) in
        rw (positive, negative)

unit-mask : (v : ℕ) (t : Bool) → (unit v t).positive + (unit v t).negative ≡ single v
unit-mask v true = add-zero (single v)
unit-mask v false = omega arith

pub unit-some : (v : ℕ) (t : Bool) → v < 64 → is_empty (unit v t) ≡ true → ⊥
unit-some v t below h =
    let e = empty-masks (unit v t) h in
    omega (arith, unit-mask v t, single-pow v below, pow_pos v)

-- units on different variables differ
pub unit-variable : (u v : ℕ) (s t : Bool) → u < 64 → v < 64 → unit u s ≡ unit v t → u ≡ v
unit-variable u v s t hu hv e =
    pow-inj u v
    (sym (single-pow u hu) ∙ sym (unit-mask u s) ∙ ap (λ (l : Lits). l.positive + l.negative) e ∙ unit-mask v t ∙ single-pow v hv)

-- ---- a row that is unsatisfied and whose remnant passes a test

-- a row that counts passes the test
pub where-some : (test : Lits → Bool) (p : Part) (row : Row) → 0 < weight_where test p row → test (remnant p row.lits) ≡ true
unfolding weight_where
where-some test p row = go (not (satisfied p row.lits)) (test (remnant p row.lits))
  where
    go : (a b : Bool) → 0 < cond (a && b) row.weight 0 → b ≡ true
    go a true h = refl
    go true false h = absurd (omega arith)
    go false false h = absurd (omega arith)

-- and is missed, where what passes the test is
pub where-missed : (test : Lits → Bool) (p : Part) (row : Row) (reading : ℕ) → Extends p reading
    → (test (remnant p row.lits) ≡ true → holds (remnant p row.lits) reading ≡ false) → weight_where test p row ≤ given_up row reading
unfolding weight_where given_up
where-missed test p row reading e h =
    rw (holds-split p reading row.lits e)
    (go (satisfied p row.lits) (test (remnant p row.lits)) (holds (remnant p row.lits) reading) h)
  where
    go : (s t m : Bool) → (t ≡ true → m ≡ false) → cond (not s && t) row.weight 0 ≤ cond (s || m) 0 row.weight
    go true t m k = omega arith
    go false true m k = rw (k refl) (omega arith)
    go false false m k = omega arith

module _ (p : Part) (row : Row) (reading : ℕ) (extends : Extends p reading) where
  -- an unsatisfied row with an empty remnant is missed by every reading that extends
  pub empty-missed : weight_where is_empty p row ≤ given_up row reading
  empty-missed = where-missed is_empty p row reading extends (holds-empty (remnant p row.lits) reading)

  pub unit-missed : (v : ℕ) → v < 64 → weight_where (same_lits (missed_at reading v)) p row ≤ given_up row reading
  unit-missed v below =
      where-missed (same_lits (missed_at reading v)) p row reading extends
      (λ t. ap (λ (l : Lits). holds l reading) (sym (same-eq (missed_at reading v) (remnant p row.lits) t)) ∙ holds-missed reading v below)

-- rows of units and rows with an empty remnant are different
pub empty-no-unit : (p : Part) (row : Row) (v : ℕ) (t : Bool) → v < 64 → 0 < weight_where is_empty p row → weight_where (same_lits (unit v t)) p row ≡ 0
empty-no-unit p row v t below h =
    ⊎_elim (λ z. z)
    (λ s.
    absurd (unit-some v t below
    (rw (same-eq (unit v t) (remnant p row.lits) (where-some (same_lits (unit v t)) p row s)) (where-some is_empty p row h))))
    (eq-zero-or-pos (weight_where (same_lits (unit v t)) p row))

-- and so are rows of units on different variables
pub one_unit : (p : Part) (row : Row) (u v : ℕ) (s t : Bool) → u < 64 → v < 64
    → 0 < weight_where (same_lits (unit u s)) p row → 0 < weight_where (same_lits (unit v t)) p row → u ≡ v
one_unit p row u v s t hu hv a b =
    unit-variable u v s t hu hv
    (same-eq (unit u s) (remnant p row.lits) (where-some (same_lits (unit u s)) p row a)
    ∙ sym (same-eq (unit v t) (remnant p row.lits) (where-some (same_lits (unit v t)) p row b)))

-- ---- so a row counts once at most

-- what a row adds to lost, and to foreseen by the literals that a reading makes false
module _ (n : ℕ) (fits : n ≤ 64) (p : Part) (row : Row) (reading : ℕ) (extends : Extends p reading) where
  abbrev pub missed_unit : ℕ → ℕ
  missed_unit v = cond (has p.decided v) 0 (weight_where (same_lits (missed_at reading v)) p row)

  missed-le : (v : ℕ) → missed_unit v ≤ weight_where (same_lits (missed_at reading v)) p row
  missed-le v =
      cond-elim (λ (x : ℕ). x ≤ weight_where (same_lits (missed_at reading v)) p row) (has p.decided v) 0
      (weight_where (same_lits (missed_at reading v)) p row) (λ t. omega arith) (λ t. omega arith)

  pub row-once : weight_where is_empty p row + sum n missed_unit ≤ given_up row reading
  row-once =
      ⊎_elim
      (λ z.
      let units : sum n missed_unit ≤ given_up row reading =
      sum-one-of n (given_up row reading)
      (λ v l. omega (arith, missed-le v, unit-missed p row reading extends v (omega arith)))
      (λ u v hu hv a b.
      one_unit p row u v (not (has reading u)) (not (has reading v)) (omega arith) (omega arith) (omega (arith, missed-le u)) (omega (arith, missed-le v))) in
      omega arith)
      (λ s.
      let units : sum n missed_unit ≡ 0 =
      sum-zero n (λ v l. omega (arith, missed-le v, empty-no-unit p row v (not (has reading v)) (omega arith) s)) in
      omega (arith, empty-missed p row reading extends))
      (eq-zero-or-pos (weight_where is_empty p row))
