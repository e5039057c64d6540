-- How a chain and a fork end. The last row of a chain is the negation of its last literal, so of the two a reading misses one: that is the empty row.
-- A fork's end is an identity of rows missed in what holds of a, b and c: eight cases.
use Prim.Native.Nat.{ℕ, suc, ◌+◌}
use mathlib.Core.Path.{◌≡◌, refl, ap}
use mathlib.Core.Bool.{Bool, true, false, cond, not, ◌||◌}
use mathlib.Core.List.{[], ◌∷◌, ◌++◌}
use native.Mathlib.Omega.{arith}
use native.Mathlib.Numerals.{add-one, add-two, add-three}
use lib.Bits.{bit_and, bit_or}
use Rattle.masks.specs.Masks.{has}
use Rattle.masks.specs.Sums.{sum}
use Rattle.masks.proofs.Bits.{has-ext, has-or}
use Rattle.masks.proofs.Sets.{and-or}
use Rattle.masks.proofs.Sums.{sum-suc}
use Rattle.literals.specs.declared.Lits.{Lits}
use Rattle.literals.specs.Lits.{no_lits, negated_lits, together, variables_of}
use Rattle.literals.proofs.TwoMasks.{negated-together}
use Rattle.rules.specs.Table.{holds}
use Rattle.rules.specs.Rewrite.{lit, compensating}
use Rattle.desk_laws.proofs.Weights.{missed}
use Rattle.step_laws.proofs.Balance.{total}
use Rattle.desk_laws.proofs.Readings.{Alone, holds-none, holds-together, holds_negated}
use Rattle.step_laws.proofs.Sounds.{total-append}

eight : (x y z : Bool)
    → cond x 0 1 + cond (not x || y) 0 1 + cond (not x || z) 0 1 + cond (not y || not z) 0 1 ≡ 1 + cond (x || (not y || not z)) 0 1 + cond
    (not x || (y || z)) 0 1
eight true true true = refl
eight true true false = refl
eight true false true = refl
eight true false false = refl
eight false true true = refl
eight false true false = refl
eight false false true = refl
eight false false false = refl

either : (x : Bool) → cond x 0 1 + cond (not x) 0 1 ≡ 1
either true = refl
either false = refl

pub missed-none : (reading : ℕ) → missed reading no_lits ≡ 1
unfolding missed
missed-none reading = rw (holds-none reading)

pub missed-negated : (reading : ℕ) {l : Lits} → Alone l → missed reading l + missed reading (negated_lits l) ≡ 1
unfolding missed
missed-negated reading {l} a = rw (holds_negated reading a) (either (holds l reading))

-- a variable apart from those of two sets
or-pairs : (x y z t : Bool) → (x || y || (z || t)) ≡ (x || z || (y || t))
or-pairs true y z t = refl
or-pairs false true true t = refl
or-pairs false true false t = refl
or-pairs false false z t = refl

variables-together : (b c : Lits) → variables_of (together b c) ≡ bit_or (variables_of b) (variables_of c)
unfolding variables_of together
variables-together b c = has-ext (λ v. simp has-or (or-pairs (has b.positive v) (has c.positive v) (has b.negative v) (has c.negative v)))

pub apart-together : (m : ℕ) (b c : Lits) → bit_and m (variables_of b) ≡ 0 → bit_and m (variables_of c) ≡ 0 → bit_and m (variables_of (together b c)) ≡ 0
apart-together m b c p q = rw (variables-together b c, and-or m (variables_of b) (variables_of c), p, q)

-- ---- the end of a chain, and of a fork

module _ (f : ℕ → Lits) (k reading : ℕ) where
  abbrev all : ℕ → ℕ
  all i = missed reading (f i)

  pub chain-closes : sum (suc k) all ≡ total (missed reading) (compensating f k) + missed reading (lit f k) → Alone (lit f k)
      → f (k + 1) ≡ negated_lits (lit f k)
      → sum (suc (suc k)) all ≡ total (missed reading) (no_lits ∷ compensating f k)
  unfolding total
  chain-closes t alone end =
      let next : f (suc k) ≡ negated_lits (lit f k) = rw add-one at end in
      omega (arith, sum-suc (suc k) all, ap (missed reading) next, missed-negated reading alone, missed-none reading)

  module _ (a b c : Lits) where
    fork-missed : Alone a → Alone b → Alone c
        → missed reading a + missed reading (together (negated_lits a) b) + missed reading (together (negated_lits a) c) + missed reading
        (together (negated_lits b) (negated_lits c))
        ≡ 1 + missed reading (together a (negated_lits (together b c))) + missed reading (together (negated_lits a) (together b c))
    unfolding missed
    fork-missed p q r =
        rw (
          negated-together b c,
          holds-together reading (negated_lits a) b,
          holds-together reading (negated_lits a) c,
          holds-together reading (negated_lits b) (negated_lits c),
          holds-together reading a (together (negated_lits b) (negated_lits c)),
          holds-together reading (negated_lits b) (negated_lits c),
          holds-together reading (negated_lits a) (together b c),
          holds-together reading b c,
          holds_negated reading p,
          holds_negated reading q,
          holds_negated reading r,
        )
        (eight (holds a reading) (holds b reading) (holds c reading))

    pub fork-closes : sum (suc k) all ≡ total (missed reading) (compensating f k) + missed reading a → Alone a → Alone b → Alone c
        → f (k + 1) ≡ together (negated_lits a) b → f (k + 2) ≡ together (negated_lits a) c → f (k + 3) ≡ together (negated_lits b) (negated_lits c)
        → sum (k + 4) all ≡ total (missed reading)
        (no_lits ∷ (compensating f k ++ (together a (negated_lits (together b c)) ∷ together (negated_lits a) (together b c) ∷ [])))
    unfolding total
    fork-closes t p q r e1 e2 e3 =
        let n4 : k + 4 ≡ suc (suc (suc (suc k))) = omega arith in
        let g1 : f (suc k) ≡ together (negated_lits a) b = rw add-one at e1 in
        let g2 : f (suc (suc k)) ≡ together (negated_lits a) c = rw add-two at e2 in
        let g3 : f (suc (suc (suc k))) ≡ together (negated_lits b) (negated_lits c) = rw add-three at e3 in
        rw (n4, total-append (missed reading) (compensating f k) (together a (negated_lits (together b c)) ∷ together (negated_lits a) (together b c) ∷ []))
        (omega (
          arith,
          sum-suc (suc k) all,
          sum-suc (suc (suc k)) all,
          sum-suc (suc (suc (suc k))) all,
          ap (missed reading) g1,
          ap (missed reading) g2,
          ap (missed reading) g3,
          fork-missed p q r,
          missed-none reading,
        ))
