-- Sets of literals that stay sound: what is taken out of a sound one, its negation, two on variables apart, and one literal alone.
-- And lists of rows given: those stored, those empty, and what a reading misses of them.
use Prim.Native.Nat.{ℕ, zero, suc, ◌+◌, ◌<◌}
use mathlib.Core.Path.{◌≡◌, refl, sym, ap, ◌∙◌}
use mathlib.Core.Logic.{◌⊎◌, inl, inr, ⊎_elim}
use mathlib.Core.Bool.{Bool, true, false, not, ◌&&◌}
use mathlib.Core.List.{List, [], ◌∷◌, ◌++◌}
use native.Mathlib.Nat.{le_of_suc-le-suc}
use native.Mathlib.Omega.{arith}
use borrow.Author.Tests.{eqb-true}
use lib.Bits.{bit_and, bit_or, and_comm, or_lt, or_comm}
use lib.ListN.{length, get_or}
use lib.Pow.{pow_pos}
use Rattle.masks.specs.Masks.{has, none, without, count}
use Rattle.masks.proofs.Choice.{cases, clash, not_so, and_left, and_right, or_cases}
use Rattle.masks.proofs.Bits.{has-or, has-without}
use Rattle.masks.proofs.Sets.{apart, apart_of, or-empty, without-lt, zero-none}
use Rattle.masks.proofs.Counts.{count-zero}
use Rattle.literals.specs.declared.Lits.{Lits}
use Rattle.literals.specs.Lits.{no_lits, negated_lits, together, less, variables_of, is_empty, same_lits, is_one}
use Rattle.literals.proofs.TwoMasks.{same-eq, empty-masks, masks-empty, empty-none}
use Rattle.rules.specs.Rewrite.{shows, apart_from}
use Rattle.rules.specs.Steps.{stored, empties}
use Rattle.desk_laws.proofs.Formed.{Sound}
use Rattle.desk_laws.proofs.Weights.{missed}
use Rattle.step_laws.proofs.Balance.{total}
use Rattle.desk_laws.proofs.Readings.{holds-none}

-- ---- sound sets

pub none-sound : (n : ℕ) → Sound n no_lits
unfolding no_lits
none-sound n = record { once = refl; positives = pow_pos n; negatives = pow_pos n }

pub negated-sound : {n : ℕ} {l : Lits} → Sound n l → Sound n (negated_lits l)
unfolding negated_lits
negated-sound {n} {l} s = record { once = and_comm l.negative l.positive ∙ s.once; positives = s.negatives; negatives = s.positives }

-- parts of masks that are apart are apart
parts-apart : (a b x y : ℕ) → bit_and a b ≡ 0 → bit_and (without a x) (without b y) ≡ 0
parts-apart a b x y e =
    apart_of (without a x) (without b y)
    (λ v h. not_so (λ k. clash (left b y v k) (apart a b e v (left a x v h))))
  where
    left : (a x v : ℕ) → has (without a x) v ≡ true → has a v ≡ true
    left a x v h = and_left (has a v) (not (has x v)) (sym (has-without a x v) ∙ h)

pub less-sound : {n : ℕ} {a : Lits} (b : Lits) → Sound n a → Sound n (less a b)
unfolding less
less-sound {n} {a} b s =
    record {
      once = parts-apart a.positive a.negative b.positive b.negative s.once;
      positives = without-lt n b.positive s.positives;
      negatives = without-lt n b.negative s.negatives;
    }

pub apart-sound : {n : ℕ} {a : Lits} (mask : ℕ) → Sound n a → Sound n (apart_from mask a)
unfolding apart_from
apart-sound {n} {a} mask s =
    record {
      once = parts-apart a.positive a.negative mask mask s.once;
      positives = without-lt n mask s.positives;
      negatives = without-lt n mask s.negatives;
    }

pub together-sound : {n : ℕ} {a b : Lits} → Sound n a → Sound n b → bit_and (variables_of a) (variables_of b) ≡ 0 → Sound n (together a b)
unfolding together variables_of
together-sound {n} {a} {b} s t e =
    record {
      once =
          apart_of (bit_or a.positive b.positive) (bit_or a.negative b.negative)
          (λ v h. not_so (λ k. both_ways v (in_either a.positive b.positive v h) (in_either a.negative b.negative v k)));
      positives = or_lt n a.positive b.positive s.positives t.positives;
      negatives = or_lt n a.negative b.negative s.negatives t.negatives;
    }
  where
    in_either : (x y v : ℕ) → has (bit_or x y) v ≡ true → (has x v ≡ true) ⊎ (has y v ≡ true)
    in_either x y v h = or_cases (has x v) (has y v) (sym (has-or x y v) ∙ h)

    left : (x y v : ℕ) → has x v ≡ true → has (bit_or x y) v ≡ true
    left x y v h = has-or x y v ∙ rw h

    right : (x y v : ℕ) → has y v ≡ true → has (bit_or x y) v ≡ true
    right x y v h = rw (or_comm x y) (left y x v h)

    cross : (v : ℕ) → has (bit_or a.positive a.negative) v ≡ true → has (bit_or b.positive b.negative) v ≡ true → ⊥
    cross v h k = clash k (apart (bit_or a.positive a.negative) (bit_or b.positive b.negative) e v h)

    both_ways : (v : ℕ) → (has a.positive v ≡ true) ⊎ (has b.positive v ≡ true) → (has a.negative v ≡ true) ⊎ (has b.negative v ≡ true) → ⊥
    both_ways v (inl p) (inl q) = clash q (apart a.positive a.negative s.once v p)
    both_ways v (inl p) (inr q) = cross v (left a.positive a.negative v p) (right b.positive b.negative v q)
    both_ways v (inr p) (inl q) = cross v (right a.positive a.negative v q) (left b.positive b.negative v p)
    both_ways v (inr p) (inr q) = clash q (apart b.positive b.negative t.once v p)

-- ---- not empty

pub one-some : (l : Lits) → is_one l ≡ true → is_empty l ≡ false
unfolding is_one
one-some l h =
    not_so (λ t.
    let e = empty-masks l t in
    let c : count l.positive + count l.negative ≡ 1 = eqb-true (count l.positive + count l.negative) 1 h in
    omega (arith, ap count e.0, ap count e.1, count-zero))

pub together-some : (a b : Lits) → is_empty a ≡ false → is_empty (together a b) ≡ false
unfolding together
together-some a b h =
    not_so (λ t.
    let e = empty-masks (together a b) t in
    clash (masks-empty a (or-empty a.positive b.positive e.0).0 (or-empty a.negative b.negative e.1).0) h)

-- ---- a remnant that holds just two literals

pub record Shows (r l m : Lits) : Type 0 where
  pub first : is_one l ≡ true
  pub second : is_one m ≡ true
  pub apart : bit_and (variables_of l) (variables_of m) ≡ 0
  pub whole : r ≡ together l m

pub shows-facts : (r l m : Lits) → shows r l m ≡ true → Shows r l m
unfolding shows
shows-facts r l m e =
    let meet : Bool = none (bit_and (variables_of l) (variables_of m)) in
    let a = and_right (is_one l) (is_one m && (meet && same_lits r (together l m))) e in
    let b = and_right (is_one m) (meet && same_lits r (together l m)) a in
    record {
      first = and_left (is_one l) (is_one m && (meet && same_lits r (together l m))) e;
      second = and_left (is_one m) (meet && same_lits r (together l m)) a;
      apart = zero-none (bit_and (variables_of l) (variables_of m)) (and_left meet (same_lits r (together l m)) b);
      whole = same-eq r (together l m) (and_right meet (same_lits r (together l m)) b);
    }

-- ---- lists of rows given

abbrev pub Each : (Lits → Type 0) → List Lits → Type 0
Each P [] = Unit
Each P (l ∷ ls) = P l × Each P ls

pub each_at : (P : Lits → Type 0) (ls : List Lits) → Each P ls → (j : ℕ) → j < length ls → P (get_or ls j no_lits)
each_at P [] e j h = absurd (omega arith)
each_at P (l ∷ ls) e zero h = e.0
each_at P (l ∷ ls) e (suc j) h = each_at P ls e.1 j (le_of_suc-le-suc h)

pub each_append : (P : Lits → Type 0) (xs ys : List Lits) → Each P xs → Each P ys → Each P (xs ++ ys)
each_append P [] ys a b = b
each_append P (x ∷ xs) ys a b = (a.0, each_append P xs ys a.1 b)

pub total-append : (m : Lits → ℕ) (xs ys : List Lits) → total m (xs ++ ys) ≡ total m xs + total m ys
unfolding total
total-append m [] ys = omega arith
total-append m (x ∷ xs) ys = omega (arith, total-append m xs ys)

pub empties-append : (xs ys : List Lits) → empties (xs ++ ys) ≡ empties xs + empties ys
unfolding empties
empties-append [] ys = omega arith
empties-append (x ∷ xs) ys = omega (arith, empties-append xs ys)

pub stored-each : (P : Lits → Type 0) (ls : List Lits) → Each P ls → Each P (stored ls)
unfolding stored
stored-each P [] a = a
stored-each P (l ∷ ls) a = ⊎_elim (λ t. rw t (stored-each P ls a.1)) (λ t. rw t (a.0, stored-each P ls a.1)) (cases (is_empty l))

pub stored-count : (ls : List Lits) → length (stored ls) + empties ls ≡ length ls
unfolding stored empties
stored-count [] = refl
stored-count (l ∷ ls) = ⊎_elim (λ t. rw t (omega (arith, stored-count ls))) (λ t. rw t (omega (arith, stored-count ls))) (cases (is_empty l))

-- an empty row is missed by every reading
missed-empty : (reading : ℕ) (l : Lits) → is_empty l ≡ true → missed reading l ≡ 1
unfolding missed
missed-empty reading l t = rw (empty-none l t, holds-none reading)

pub total-stored : (reading : ℕ) (ls : List Lits) → total (missed reading) ls ≡ empties ls + total (missed reading) (stored ls)
unfolding total stored empties
total-stored reading [] = refl
total-stored reading (l ∷ ls) =
    ⊎_elim
    (λ t. rw t (omega (arith, missed-empty reading l t, total-stored reading ls)))
    (λ t. rw t (omega (arith, total-stored reading ls)))
    (cases (is_empty l))
