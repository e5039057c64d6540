-- l1 and k rows (not li, l(i+1)): each literal stands alone, and rows missed telescope.
-- A reading that misses (not a, b) and a is counted as one that misses (a, not b) and b: four cases.
-- So among the first k + 1 rows as many are missed as among the compensating rows, and one more where the last literal is.
use Prim.Native.Nat.{ℕ, zero, suc, ◌+◌, ◌≤◌, ◌<◌}
use mathlib.Core.Path.{◌≡◌, refl, ap, ◌∙◌}
use mathlib.Core.Bool.{Bool, true, false, cond, not, ◌||◌}
use mathlib.Core.List.{[], ◌∷◌}
use native.Mathlib.Nat.{le_step, le_refl}
use native.Mathlib.Omega.{arith}
use lib.Bits.{bit_and}
use lib.ListN.{length, length-append}
use Rattle.masks.specs.Sums.{sum}
use Rattle.masks.proofs.Choice.{and_left, and_right}
use Rattle.masks.proofs.Sums.{sum-empty, sum-suc}
use Rattle.literals.specs.declared.Lits.{Lits}
use Rattle.literals.specs.Lits.{negated_lits, together, variables_of, is_one}
use Rattle.literals.proofs.TwoMasks.{variables-negated}
use Rattle.rules.specs.Table.{holds}
use Rattle.rules.specs.Rewrite.{shows, lit, links, compensating}
use Rattle.rules.specs.Steps.{empties}
use Rattle.desk_laws.proofs.Formed.{Sound, sound-held}
use Rattle.desk_laws.proofs.Weights.{missed}
use Rattle.step_laws.proofs.Balance.{total}
use Rattle.desk_laws.proofs.Readings.{Alone, one-alone, holds-together, holds_negated}
use Rattle.step_laws.proofs.Sounds.{less-sound, negated-sound, together-sound, one-some, together-some, Shows, shows-facts, Each}
use Rattle.step_laws.proofs.Sounds.{each_append, total-append, empties-append}

-- rows missed, by what holds of the literals: (not a, b) and a against (a, not b) and b
four : (x y : Bool) → cond (not x || y) 0 1 + cond x 0 1 ≡ cond (x || not y) 0 1 + cond y 0 1
four true true = refl
four true false = refl
four false true = refl
four false false = refl

pub turn : (reading : ℕ) {a b : Lits} → Alone a → Alone b
    → missed reading (together (negated_lits a) b) + missed reading a ≡ missed reading (together a (negated_lits b)) + missed reading b
unfolding missed
turn reading {a} {b} p q =
    rw (holds-together reading (negated_lits a) b, holds-together reading a (negated_lits b), holds_negated reading p, holds_negated reading q)
    (four (holds a reading) (holds b reading))

pub first-lit : (f : ℕ → Lits) → lit f 0 ≡ f 0
unfolding lit
first-lit f = refl

module _ (n : ℕ) (few : n ≤ 64) (f : ℕ → Lits) where
  pub lit-sound : (k : ℕ) → ((i : ℕ) → i < suc k → Sound n (f i)) → Sound n (lit f k)
  unfolding lit
  lit-sound zero s = s 0 (le_refl 1)
  lit-sound (suc k) s = less-sound (negated_lits (lit f k)) (s (suc k) (le_refl (suc (suc k))))

  pub links-before : (k : ℕ) → links f (suc k) ≡ true → links f k ≡ true
  unfolding links
  links-before k e = and_left (links f k) (shows (f (suc k)) (negated_lits (lit f k)) (lit f (suc k))) e

  pub links-shows : (k : ℕ) → links f (suc k) ≡ true → Shows (f (suc k)) (negated_lits (lit f k)) (lit f (suc k))
  unfolding links
  links-shows k e =
      shows-facts (f (suc k)) (negated_lits (lit f k)) (lit f (suc k))
      (and_right (links f k) (shows (f (suc k)) (negated_lits (lit f k)) (lit f (suc k))) e)

  pub links-one : (k : ℕ) → links f k ≡ true → is_one (lit f k) ≡ true
  unfolding links lit
  links-one zero e = e
  links-one (suc k) e = (links-shows k e).second

  pub links-alone : (k : ℕ) → ((i : ℕ) → i < suc k → Sound n (f i)) → links f k ≡ true → Alone (lit f k)
  links-alone k s e = one-alone (lit f k) (sound-held few (lit-sound k s)) (links-one k e)

  -- a literal and the next stand on two variables
  pub links-apart : (k : ℕ) → links f (suc k) ≡ true → bit_and (variables_of (lit f k)) (variables_of (lit f (suc k))) ≡ 0
  links-apart k e = rw (← variables-negated (lit f k)) (links-shows k e).apart

  pub telescoped : (reading k : ℕ) → ((i : ℕ) → i < suc k → Sound n (f i)) → links f k ≡ true
      → sum (suc k) (λ i. missed reading (f i)) ≡ total (missed reading) (compensating f k) + missed reading (lit f k)
  unfolding compensating total
  telescoped reading zero s e =
      omega (arith, sum-suc 0 (λ i. missed reading (f i)), sum-empty (λ i. missed reading (f i)), ap (missed reading) (first-lit f))
  telescoped reading (suc k) s e =
      let ih = telescoped reading k (λ i l. s i (le_step l)) (links-before k e) in
      let t = turn reading (links-alone k (λ i l. s i (le_step l)) (links-before k e)) (links-alone (suc k) s e) in
      let row : missed reading (f (suc k)) ≡ missed reading (together (negated_lits (lit f k)) (lit f (suc k))) = ap (missed reading) (links-shows k e).whole in
      rw (total-append (missed reading) (compensating f k) (together (lit f k) (negated_lits (lit f (suc k))) ∷ []))
      (omega (arith, sum-suc (suc k) (λ i. missed reading (f i))))

  -- the compensating rows are sound, none is empty, and there are k
  pub compensating-sound : (k : ℕ) → ((i : ℕ) → i < suc k → Sound n (f i)) → links f k ≡ true → Each (Sound n) (compensating f k)
  unfolding compensating
  compensating-sound zero s e = tt
  compensating-sound (suc k) s e =
      let before : (i : ℕ) → i < suc k → Sound n (f i) = λ i l. s i (le_step l) in
      let apart : bit_and (variables_of (lit f k)) (variables_of (negated_lits (lit f (suc k)))) ≡ 0 = rw (variables-negated (lit f (suc k))) (links-apart k e) in
      each_append (Sound n) (compensating f k) (together (lit f k) (negated_lits (lit f (suc k))) ∷ [])
      (compensating-sound k before (links-before k e))
      (together-sound (lit-sound k before) (negated-sound (lit-sound (suc k) s)) apart, tt)

  pub compensating-full : (k : ℕ) → links f k ≡ true → empties (compensating f k) ≡ 0
  unfolding compensating empties
  compensating-full zero e = refl
  compensating-full (suc k) e =
      rw (
        empties-append (compensating f k) (together (lit f k) (negated_lits (lit f (suc k))) ∷ []),
        together-some (lit f k) (negated_lits (lit f (suc k))) (one-some (lit f k) (links-one k (links-before k e))),
      )
      (omega (arith, compensating-full k (links-before k e)))

  pub compensating-count : (k : ℕ) → length (compensating f k) ≡ k
  unfolding compensating
  compensating-count zero = refl
  compensating-count (suc k) = length-append (compensating f k) (together (lit f k) (negated_lits (lit f (suc k))) ∷ []) ∙ omega (arith, compensating-count k)
