-- The numbers allowed suffice. Each group leaves one more row with no working weight, so that after as many hunts as there are rows in use the
-- next finds nothing, and more hunts change nothing. Each entry of a trail decides one more variable, so that there are at most as many
-- entries as variables: a hunt that has come to the end of its trail, or to a conflict, stays as it is.
use Prim.Native.Nat.{ℕ, zero, suc, ◌+◌, ◌^◌, ◌≤◌, ◌<◌, min}
use mathlib.Core.Path.{◌≡◌, refl, ap, ◌∙◌}
use mathlib.Core.List.{List}
use mathlib.Core.Bool.{Bool, true, false}
use mathlib.Core.Logic.{◌⊎◌, inl, inr, ⊎_elim}
use native.Mathlib.Nat.{le_of_suc-le-suc, eq-or-lt_of_le}
use native.Mathlib.Omega.{arith}
use lib.Arith.{le-zero}
use lib.Bits.{bit_and, and_zero_r, or_lt}
use lib.ListN.{length, get_or-eq_default}
use Rattle.masks.specs.Masks.{count, none, single}
use Rattle.masks.specs.Sums.{sum}
use Rattle.masks.proofs.Choice.{clash, not_so}
use Rattle.masks.proofs.Sums.{sum_bound, le-sum}
use Rattle.masks.proofs.Sets.{apart_of, zero-without, without-lt, none-zero}
use Rattle.masks.proofs.Counts.{count-or, count-pow, count-le-width}
use Rattle.literals.specs.declared.Lits.{Lits}
use Rattle.literals.specs.Lits.{variables_of, is_one}
use Rattle.rules.specs.declared.Part.{Part}
use Rattle.rules.specs.Desk.{satisfied, remnant}
use Rattle.rules.specs.Groups.{Weights, Forced, Hunt, Tally, made_true, looked, scanned, opposes, entry_scanned, drained, hunted, tallied, hunts}
use Rattle.desk_laws.proofs.Formed.{Sound, sound-held}
use Rattle.group_laws.proofs.Parts.{left-undecided, remnant-held, unit-of, variables-unit}
use Rattle.group_laws.proofs.Hunting.{Leads, here, on, hunting}
use Rattle.group_laws.proofs.Costs.{taken-le, taken_in, sum_drop, group_at, after, tallied-by, hunted-hunting, costed}
use Rattle.group_laws.proofs.Branches.{looked-found, looked-failed, tallied-last}

-- a hunt at its end: there is a conflict, or the trail has no entry k
abbrev pub AtEnd : ℕ → Hunt → Type 0
AtEnd k h = (h.found ≡ true) ⊎ (length h.trail ≤ k)

module _ (lits : ℕ → Lits) (rows names : ℕ) (p : Part) where
  -- ---- hunts

  pub hunts-stay : (W : Weights) (k m : ℕ) → (hunted lits (hunts lits rows names p W k).weights rows names p).found ≡ false → k ≤ m
      → hunts lits rows names p W m ≡ hunts lits rows names p W k
  unfolding hunts
  hunts-stay W k zero f l = rw (le-zero l)
  hunts-stay W k (suc m) f l =
      ⊎_elim
      (λ e. rw e)
      (λ s. ap (tallied lits rows names p) (hunts-stay W k m f (le_of_suc-le-suc s)) ∙ tallied-last lits rows names p (hunts lits rows names p W k) f)
      (eq-or-lt_of_le l)

  -- the rows with a working weight
  unfoldable alive : Weights → ℕ
  alive W = sum rows (λ i. min 1 (W i))

  found-alive : (t : Tally) → (hunted lits t.weights rows names p).found ≡ true → alive (after lits rows names p t).weights + 1 ≤ alive t.weights
  unfolding alive
  found-alive t f =
      let g = group_at lits rows names p t in
      let c = costed lits rows names p t f in
      let j = c.attained.0 in
      let m = c.attained.1 in
      sum_drop rows j 1 (c.used j m)
      (λ i l. omega (arith, taken-le g.cost g.rows t.weights i))
      (omega (arith, c.attained.2, c.weighty j m, taken_in g.cost g.rows t.weights j m))

  hunts-alive : (W : Weights) (k : ℕ) → (hunted lits (hunts lits rows names p W k).weights rows names p).found ≡ true
      → alive (hunts lits rows names p W k).weights + k ≤ rows
  unfolding hunts alive
  hunts-alive W zero = λ f. omega (arith, sum_bound rows 1 {f = λ i. min 1 (W i)} (λ i l. omega arith))
  hunts-alive W (suc k) =
      let t = hunts lits rows names p W k in
      tallied-by lits rows names p (λ s. (hunted lits s.weights rows names p).found ≡ true → alive s.weights + suc k ≤ rows) t
      (λ f e. absurd (clash e f))
      (λ f e. omega (arith, hunts-alive W k f, found-alive t f))

  -- After as many hunts as there are rows the next finds nothing.
  pub hunts-enough : (W : Weights) → (hunted lits (hunts lits rows names p W rows).weights rows names p).found ≡ false
  unfolding alive
  hunts-enough W =
      not_so (λ f.
      let U = (hunts lits rows names p W rows).weights in
      let h = hunted lits U rows names p in
      let c = (hunted-hunting lits rows names p U).clashes f in
      omega (arith, hunts-alive W rows f, c.weighty, le-sum rows (λ i. min 1 (U i)) h.conflict c.used))

  pub hunts-no-more : (W : Weights) (m : ℕ) → rows ≤ m → hunts lits rows names p W m ≡ hunts lits rows names p W rows
  hunts-no-more W m l = hunts-stay W rows m (hunts-enough W) l

  -- ---- trails

  module _ (W : Weights) where
    -- rows that pass no test are passed over, and so is every row once there is a conflict
    pub scanned-none : (test : Lits → Bool) (k : ℕ) (h : Hunt) → (h.found ≡ true) ⊎ ((l : Lits) → test l ≡ false)
        → scanned lits W test k h ≡ h
    unfolding scanned
    scanned-none test zero h none = refl
    scanned-none test (suc k) h none =
        ap (looked lits W test k) (scanned-none test k h none)
        ∙ ⊎_elim (looked-found lits W test k h) (λ e. looked-failed lits W test k h (e (lits k))) none

    opposes-none : (q : Part) (l : Lits) → opposes q 0 l ≡ false
    unfolding opposes satisfied
    opposes-none q l =
        rw (zero-without q.truths, zero-without 0, none-zero (and_zero_r l.positive), none-zero (and_zero_r l.negative))

    entry-none : (k : ℕ) (h : Hunt) → AtEnd k h → entry_scanned lits W rows k h ≡ h
    unfolding entry_scanned
    entry-none k h end =
        scanned-none _ rows h
        (⊎_elim
        (λ f. inl f)
        (λ l. inr (λ row. rw (get_or-eq_default h.trail (record { variable = 0; row = 0 }) l) (opposes-none h.q row)))
        end)

    pub drained-stays : (k m : ℕ) → AtEnd k (drained lits W rows p k) → k ≤ m → drained lits W rows p m ≡ drained lits W rows p k
    unfolding drained
    drained-stays k zero end l = rw (le-zero l)
    drained-stays k (suc m) end l =
        ⊎_elim
        (λ e. rw e)
        (λ s.
        ap (entry_scanned lits W rows m) (drained-stays k m end (le_of_suc-le-suc s))
        ∙ entry-none m (drained lits W rows p k) (⊎_elim (λ f. inl f) (λ t. inr (omega arith)) end))
        (eq-or-lt_of_le l)

    -- ---- each entry decides one more variable

    module _ (fits : names ≤ 64) (sound : (i : ℕ) → i < rows → Sound names (lits i)) where
      one_more : (q : Part) (l : Lits) → Sound names l → is_one (remnant q l) ≡ true
          → count (made_true (remnant q l) q).decided ≡ suc (count q.decided)
      unfolding made_true
      one_more q l s one =
          let r = remnant q l in
          let u = unit-of r (remnant-held q l (sound-held fits s)) one in
          let single : count (variables_of r) ≡ 1 =
          ap (λ (k : Lits). count (variables_of k)) u.only
          ∙ ap count (variables-unit u.variable u.value u.below)
          ∙ count-pow u.variable u.below in
          let fresh : bit_and q.decided (variables_of r) ≡ 0 =
          apart_of q.decided (variables_of r) (λ v t. not_so (λ h. clash t (left-undecided q l v h))) in
          omega (arith, count-or q.decided (variables_of r) fresh)

      made-within : (q : Part) (l : Lits) → Sound names l → q.decided < 2 ^ names → (made_true (remnant q l) q).decided < 2 ^ names
      unfolding made_true variables_of remnant
      made-within q l s w =
          or_lt names q.decided (variables_of (remnant q l)) w
          (or_lt names (remnant q l).positive (remnant q l).negative
          (without-lt names q.decided s.positives) (without-lt names q.decided s.negatives))

      trail-count : {q r : Part} {es : List Forced} → Leads lits rows p W q es r → q.decided < 2 ^ names → length es + count q.decided ≤ names
      trail-count here w = omega (arith, count-le-width names fits w)
      trail-count (on {q = q} {e = e} f l) w =
          let s = sound e.row f.used in
          omega (arith, trail-count l (made-within q (lits e.row) s w), one_more q (lits e.row) s f.one)

      module _ (within : p.decided < 2 ^ names) where
        -- a trail has at most as many entries as there are undecided variables
        pub trail-fits : (k : ℕ) → length (drained lits W rows p k).trail + count p.decided ≤ names
        trail-fits k = trail-count (hunting lits rows p W k).leads within

        -- More entries than there are variables are not there to be scanned: the hunt has come to its end.
        pub hunt-ends : AtEnd names (hunted lits W rows names p)
        unfolding hunted
        hunt-ends = inr (omega (arith, trail-fits names))

        pub drain-enough : (m : ℕ) → names ≤ m → drained lits W rows p m ≡ hunted lits W rows names p
        unfolding hunted
        drain-enough m l = drained-stays names m hunt-ends l

    -- so a drain that stops at its end is the hunt
    pub drained-hunted : (k : ℕ) → AtEnd k (drained lits W rows p k) → k ≤ names → hunted lits W rows names p ≡ drained lits W rows p k
    unfolding hunted
    drained-hunted k end l = drained-stays k names end l
