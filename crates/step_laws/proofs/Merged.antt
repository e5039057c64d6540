-- Merge: two rows alike but for one variable, of opposite signs. The reading satisfies one of the two literals,
-- so it misses one of the two rows where it misses the common rest, and none where it satisfies the rest.
-- Rows are sound, so each holds the variable one way only, and taking its bit out takes out that one literal.
use Prim.Native.Nat.{ℕ, ◌+◌, ◌<◌, ◌^◌}
use mathlib.Core.Path.{◌≡◌, refl, sym, ap, ◌∙◌}
use mathlib.Core.Logic.{⊎_elim}
use mathlib.Core.Bool.{Bool, true, false, cond, not, ◌&&◌, ◌||◌}
use lib.Bits.{bit_and, or_lt, or_zero_r}
use Rattle.masks.specs.Masks.{has, without}
use Rattle.masks.proofs.Choice.{clash, not_so, and_left, and_right, or_cases}
use Rattle.masks.proofs.Bits.{has-and, has-or}
use Rattle.masks.proofs.Sets.{apart, and-lt-left, take_put, take_out}
use Rattle.literals.specs.declared.Lits.{Lits}
use Rattle.literals.specs.Lits.{together}
use Rattle.literals.proofs.TwoMasks.{Held, lits-ext}
use Rattle.rules.specs.Table.{holds}
use Rattle.rules.specs.Rewrite.{clash as meet, apart_from}
use Rattle.desk_laws.proofs.Formed.{Sound}
use Rattle.desk_laws.proofs.Weights.{missed}
use Rattle.desk_laws.proofs.Readings.{holds-together, holds-positive, holds-negative}

two : (x y : Bool) → cond (x || y) 0 1 + cond (x || not y) 0 1 ≡ cond x 0 1
two true y = refl
two false true = refl
two false false = refl

-- ---- a set and the bit of one of its literals

module _ {n : ℕ} {l : Lits} (s : Sound n l) (t : ℕ) where
  -- the set is the rest and that literal
  pub split-positive : has l.positive t ≡ true → l ≡ together (apart_from (2 ^ t) l) (record { positive = 2 ^ t; negative = 0 })
  unfolding together apart_from
  split-positive h =
      lits-ext _ _ (sym (take_put l.positive t h))
      (sym (or_zero_r (without l.negative (2 ^ t)) ∙ take_out l.negative t (apart l.positive l.negative s.once t h)))

  pub split-negative : has l.negative t ≡ true → l ≡ together (apart_from (2 ^ t) l) (record { positive = 0; negative = 2 ^ t })
  unfolding together apart_from
  split-negative h =
      lits-ext _ _
      (sym (or_zero_r (without l.positive (2 ^ t)) ∙ take_out l.positive t (not_so (λ k. clash h (apart l.positive l.negative s.once t k)))))
      (sym (take_put l.negative t h))

  take-positive : (reading : ℕ) → has l.positive t ≡ true → holds l reading ≡ (holds (apart_from (2 ^ t) l) reading || has reading t)
  take-positive reading h =
      ap (λ (k : Lits). holds k reading) (split-positive h)
      ∙ holds-together reading (apart_from (2 ^ t) l) (record { positive = 2 ^ t; negative = 0 })
      ∙ ap (λ (x : Bool). holds (apart_from (2 ^ t) l) reading || x) (holds-positive reading t)

  take-negative : (reading : ℕ) → has l.negative t ≡ true → holds l reading ≡ (holds (apart_from (2 ^ t) l) reading || not (has reading t))
  take-negative reading h =
      ap (λ (k : Lits). holds k reading) (split-negative h)
      ∙ holds-together reading (apart_from (2 ^ t) l) (record { positive = 0; negative = 2 ^ t })
      ∙ ap (λ (x : Bool). holds (apart_from (2 ^ t) l) reading || x) (holds-negative reading t)

two-swapped : (x y : Bool) → cond (x || not y) 0 1 + cond (x || y) 0 1 ≡ cond x 0 1
two-swapped true y = refl
two-swapped false true = refl
two-swapped false false = refl

pub meet-held : {l : Lits} (m : Lits) → Held l → meet l m < 2 ^ 64
unfolding meet
meet-held {l} m h =
    or_lt 64 (bit_and l.positive m.negative) (bit_and l.negative m.positive) (and-lt-left 64 m.negative h.positives)
    (and-lt-left 64 m.positive h.negatives)

-- two rows alike but for the variable of bit t
pub merged : {n : ℕ} {l m : Lits} → Sound n l → Sound n m → (t reading : ℕ) → has (meet l m) t ≡ true → apart_from (2 ^ t) l ≡ apart_from (2 ^ t) m
    → missed reading l + missed reading m ≡ missed reading (apart_from (2 ^ t) l)
unfolding missed meet
merged {n} {l} {m} sl sm t reading h same =
    ⊎_elim
    (λ q.
    let p : (has l.positive t && has m.negative t) ≡ true = sym (has-and l.positive m.negative t) ∙ q in
    rw (
      take-positive sl t reading (and_left (has l.positive t) (has m.negative t) p),
      take-negative sm t reading
          (and_right (has l.positive t) (has m.negative t) p),
      ← same,
    )
    (two (holds (apart_from (2 ^ t) l) reading) (has reading t)))
    (λ q.
    let p : (has l.negative t && has m.positive t) ≡ true = sym (has-and l.negative m.positive t) ∙ q in
    rw (
      take-negative sl t reading (and_left (has l.negative t) (has m.positive t) p),
      take-positive sm t reading
          (and_right (has l.negative t) (has m.positive t) p),
      ← same,
    )
    (two-swapped (holds (apart_from (2 ^ t) l) reading) (has reading t)))
    (or_cases (has (bit_and l.positive m.negative) t) (has (bit_and l.negative m.positive) t)
    (sym (has-or (bit_and l.positive m.negative) (bit_and l.negative m.positive) t) ∙ h))
