-- The bound by groups is never below the bound of document 01. What clashing units would cost, of the working weights that are left, falls by no
-- more than each group costs: while two units clash the first scan finds a pair of them, whose cost is taken once from either side of one
-- variable. And it is nothing where the first scan finds nothing, so at the end.
use Prim.Native.Nat.{ℕ, zero, suc, ◌+◌, ◌≤◌, ◌<◌, min}
use mathlib.Core.Path.{◌≡◌, refl, sym, ap, ◌∙◌}
use mathlib.Core.List.{List}
use mathlib.Core.Bool.{Bool, true, false, cond, not, ◌&&◌}
use mathlib.Core.Logic.{◌⊎◌, inl, inr, ⊎_elim}
use native.Mathlib.Nat.{le_refl, le_step, eq-zero-or-pos}
use native.Mathlib.Omega.{arith}
use lib.Pow.{pow_pos}
use Rattle.masks.specs.Masks.{has}
use Rattle.masks.specs.Sums.{sum}
use Rattle.masks.proofs.Choice.{cases, clash, not_so, eq-or-ne}
use Rattle.masks.proofs.Sums.{sum-le, sum-zero, sum-ext}
use Rattle.masks.proofs.Sets.{single-pow}
use Rattle.literals.specs.declared.Lits.{Lits}
use Rattle.literals.specs.Lits.{is_empty, same_lits}
use Rattle.literals.proofs.TwoMasks.{Held, same-eq}
use Rattle.rules.specs.declared.Part.{Part}
use Rattle.rules.specs.declared.Row.{Row}
use Rattle.rules.specs.Desk.{variables, in_use, row_on, satisfied, remnant}
use Rattle.rules.specs.Bound.{weight_where, unit_weight, foreseen_at, foreseen, bound}
use Rattle.rules.specs.Groups.{Weights, Hunt, Group, Tally, drained, hunted, group_of, less_at, taken, hunts, working_weight, hunts_on, groups_cost}
use Rattle.rules.specs.Groups.{groups_bound}
use Rattle.desk_laws.proofs.Formed.{Formed, sound-held}
use Rattle.walk_laws.proofs.Agreeing.{Nested}
use Rattle.walk_laws.proofs.Remnants.{unit, unit-some, unit-variable}
use Rattle.group_laws.proofs.Costs.{less-same, less_other, taken-le, group_at, tallied-by}
use Rattle.group_laws.proofs.Fuel.{drained-hunted, hunts-enough}
use Rattle.group_laws.proofs.FirstScan.{none-clash, Pair, first-pair}

-- ---- sums

-- at most everywhere, but for one index where it is at most so much more
sum-above : (n : ℕ) {f g : ℕ → ℕ} (j c : ℕ) → ((i : ℕ) → i < n → (i ≡ j → ⊥) → f i ≤ g i) → f j ≤ g j + c → sum n f ≤ sum n g + c
unfolding sum
sum-above zero j c h s = omega arith
sum-above (suc n) {f} {g} j c h s =
    ⊎_elim
    (λ (e : n ≡ j).
    omega (arith, sum-le n {f = f} {g = g} (λ i l. h i (le_step l) (λ q. omega arith)), ap f e, ap g e))
    (λ (e : n ≡ j → ⊥). omega (arith, sum-above n {f = f} {g = g} j c (λ i l. h i (le_step l)) s, h n (le_refl (suc n)) e))
    (eq-or-ne n j)

-- a sum that is not 0 has a term that is not
sum-some : (n : ℕ) (f : ℕ → ℕ) → 0 < sum n f → (i : ℕ) × (i < n) × (0 < f i)
unfolding sum
sum-some zero f l = absurd (omega arith)
sum-some (suc n) f l =
    ⊎_elim
    (λ z. let w = sum-some n f (omega arith) in (w.0, le_step w.1, w.2))
    (λ s. (n, le_refl (suc n), s))
    (eq-zero-or-pos (f n))

-- a literal is not its opposite
unit-opposite : (v : ℕ) (t : Bool) → v < 64 → unit v (not t) ≡ unit v t → ⊥
unit-opposite v true below e = omega (arith, ap (λ (l : Lits). l.positive) e, single-pow v below, pow_pos v)
unit-opposite v false below e = omega (arith, ap (λ (l : Lits). l.negative) e, single-pow v below, pow_pos v)

same_or_not : (s t : Bool) → (s ≡ t) ⊎ (s ≡ not t)
same_or_not true true = inl refl
same_or_not true false = inr refl
same_or_not false true = inr refl
same_or_not false false = inl refl

cond-le : (b : Bool) (m k : ℕ) → (b ≡ true → m ≤ k) → cond b m 0 ≤ cond b k 0
cond-le true m k h = h refl
cond-le false m k h = omega arith

cond_up : (b : Bool) (m k c : ℕ) → m ≤ k + c → cond b m 0 ≤ cond b k 0 + c
cond_up true m k c h = h
cond_up false m k c h = omega arith

module _ (lits : ℕ → Lits) (rows names : ℕ) (p : Part) where
  -- ---- what clashing units would cost

  -- the working weights of the rows of which this literal alone is left
  unfoldable pub alone : Weights → Lits → ℕ
  alone W l = sum rows (λ i. cond (same_lits l (remnant p (lits i))) (W i) 0)

  unfoldable pub clashing : Weights → ℕ
  clashing W = sum names (λ v. min (alone W (unit v true)) (alone W (unit v false)))

  -- a row that counts is of this literal and has a working weight
  alone-some : (W : Weights) (l : Lits) → 0 < alone W l → (i : ℕ) × (i < rows) × (remnant p (lits i) ≡ l) × (0 < W i)
  unfolding alone
  alone-some W l h =
      let w = sum-some rows (λ i. cond (same_lits l (remnant p (lits i))) (W i) 0) h in
      let i = w.0 in
      ⊎_elim
      (λ t. (i, w.1, sym (same-eq l (remnant p (lits i)) t), rw t at w.2))
      (λ t. let never : 0 < 0 = rw t at w.2 in absurd (omega arith))
      (cases (same_lits l (remnant p (lits i))))

  -- weights of which those of this literal's rows did not fall, or fell at one row at most
  alone-kept : (W U : Weights) (l : Lits) → ((j : ℕ) → l ≡ remnant p (lits j) → W j ≤ U j) → alone W l ≤ alone U l
  unfolding alone
  alone-kept W U l others =
      sum-le rows (λ j m. cond-le (same_lits l (remnant p (lits j))) (W j) (U j) (λ t. others j (same-eq l (remnant p (lits j)) t)))

  alone-falls : (W U : Weights) (l : Lits) (x c : ℕ) → ((j : ℕ) → (j ≡ x → ⊥) → l ≡ remnant p (lits j) → W j ≤ U j) → W x ≤ U x + c
      → alone W l ≤ alone U l + c
  unfolding alone
  alone-falls W U l x c others here =
      sum-above rows x c
      (λ j m n. cond-le (same_lits l (remnant p (lits j))) (W j) (U j) (λ t. others j n (same-eq l (remnant p (lits j)) t)))
      (cond_up (same_lits l (remnant p (lits x))) (W x) (U x) c here)

  module _ (nested : Nested p) (held : (i : ℕ) → i < rows → Held (lits i)) (fits : names ≤ 64) where
    -- no row with a working weight is satisfied at the node
    abbrev pub Works : Weights → Type 0
    Works W = (i : ℕ) → i < rows → 0 < W i → satisfied p (lits i) ≡ false

    -- ---- the first scan finds nothing

    none-clashing : (W : Weights) → Works W → (drained lits W rows p 0).found ≡ false → clashing W ≡ 0
    unfolding clashing
    none-clashing W works f =
        sum-zero names (λ v l.
        ⊎_elim
        (λ z. omega arith)
        (λ a.
        ⊎_elim
        (λ z. omega arith)
        (λ b.
        let i = alone-some W (unit v true) a in
        let j = alone-some W (unit v false) b in
        absurd (none-clash lits rows p W nested held works f v i.0 j.0 (omega arith) i.1 j.1 i.3 j.3 i.2 j.2))
        (eq-zero-or-pos (alone W (unit v false))))
        (eq-zero-or-pos (alone W (unit v true))))

    -- ---- the first scan finds a pair

    module _ (W : Weights) (works : Works W) (g : Group) (pair : Pair lits rows p W nested held works g) where
      abbrev a : ℕ
      a = pair.one

      abbrev b : ℕ
      b = pair.other

      abbrev u : ℕ
      u = pair.variable

      abbrev left : Weights
      left = taken g.cost g.rows W

      pair-apart : a ≡ b → ⊥
      pair-apart e = unit-opposite u pair.value pair.below (sym pair.literal ∙ ap (λ (i : ℕ). remnant p (lits i)) e ∙ pair.opposite)

      left_both : (i : ℕ) → left i ≡ less_at a g.cost (less_at b g.cost W) i
      unfolding taken
      left_both i = ap (λ (rs : List ℕ). taken g.cost rs W i) pair.both

      left_one : W a ≤ left a + g.cost
      left_one =
          omega (arith, left_both a, less-same a g.cost (less_at b g.cost W), less_other b g.cost W a pair-apart)

      left_other : W b ≤ left b + g.cost
      left_other =
          omega (
            arith,
            left_both b,
            less_other a g.cost (less_at b g.cost W) b (λ e. pair-apart (sym e)),
            less-same b g.cost W,
          )

      left-rest : (j : ℕ) → (j ≡ a → ⊥) → (j ≡ b → ⊥) → W j ≤ left j
      left-rest j n m = omega (arith, left_both j, less_other a g.cost (less_at b g.cost W) j n, less_other b g.cost W j m)

      -- a row of a literal that neither of the pair is
      not-one : (l : Lits) (j : ℕ) → (l ≡ unit u (not pair.value) → ⊥) → l ≡ remnant p (lits j) → j ≡ a → ⊥
      not-one l j n e q = n (e ∙ ap (λ (i : ℕ). remnant p (lits i)) q ∙ pair.literal)

      not-other : (l : Lits) (j : ℕ) → (l ≡ unit u pair.value → ⊥) → l ≡ remnant p (lits j) → j ≡ b → ⊥
      not-other l j n e q = n (e ∙ ap (λ (i : ℕ). remnant p (lits i)) q ∙ pair.opposite)

      -- on the pair's variable, either literal
      at-variable : (s : Bool) → alone W (unit u s) ≤ alone left (unit u s) + g.cost
      at-variable s =
          ⊎_elim
          (λ (e : s ≡ pair.value).
          rw e
          (alone-falls W left (unit u pair.value) b g.cost
          (λ j n q. left-rest j (not-one (unit u pair.value) j (λ k. unit-opposite u pair.value pair.below (sym k)) q) n)
          left_other))
          (λ (e : s ≡ not pair.value).
          rw e
          (alone-falls W left (unit u (not pair.value)) a g.cost
          (λ j n q. left-rest j n (not-other (unit u (not pair.value)) j (unit-opposite u pair.value pair.below) q))
          left_one))
          (same_or_not s pair.value)

      -- on another variable
      elsewhere : (v : ℕ) (s : Bool) → v < 64 → (v ≡ u → ⊥) → alone W (unit v s) ≤ alone left (unit v s)
      elsewhere v s below n =
          let differs : (t : Bool) → unit v s ≡ unit u t → ⊥ = λ t e. n (unit-variable v u s t below pair.below e) in
          alone-kept W left (unit v s) (λ j q.
          left-rest j (not-one (unit v s) j (differs (not pair.value)) q) (not-other (unit v s) j (differs pair.value) q))

      pair-clashing : clashing W ≤ clashing left + g.cost
      unfolding clashing
      pair-clashing =
          sum-above names u g.cost
          (λ v l n. omega (arith, elsewhere v true (omega arith) n, elsewhere v false (omega arith) n))
          (omega (arith, at-variable true, at-variable false))

    -- ---- all hunts

    module _ (W : Weights) (works : Works W) where
      -- a first scan that finds a conflict is the hunt
      first-is-all : (drained lits W rows p 0).found ≡ true → hunted lits W rows names p ≡ drained lits W rows p 0
      first-is-all f = drained-hunted lits rows names p W 0 (inl f) (omega arith)

      found-clashing : clashing W ≤ clashing (taken (group_of lits W p (hunted lits W rows names p)).cost
          (group_of lits W p (hunted lits W rows names p)).rows W) + (group_of lits W p (hunted lits W rows names p)).cost
      found-clashing =
          ⊎_elim
          (λ f.
          rw (first-is-all f)
          (pair-clashing W works (group_of lits W p (drained lits W rows p 0)) (first-pair lits rows p W nested held works f)))
          (λ f. omega (arith, none-clashing W works f))
          (cases (drained lits W rows p 0).found)

      last-clashing : (hunted lits W rows names p).found ≡ false → clashing W ≡ 0
      last-clashing e = none-clashing W works (not_so (λ f. clash (ap (λ (h : Hunt). h.found) (first-is-all f) ∙ f) e))

    record Left (W : Weights) (t : Tally) : Type 0 where
      works : Works t.weights
      covers : clashing W ≤ clashing t.weights + t.costs

    hunts-left : (W : Weights) → Works W → (k : ℕ) → Left W (hunts lits rows names p W k)
    unfolding hunts
    hunts-left W works zero = record { works = works; covers = omega arith }
    hunts-left W works (suc k) =
        let t = hunts lits rows names p W k in
        let l = hunts-left W works k in
        let g = group_at lits rows names p t in
        tallied-by lits rows names p (Left W) t (λ f. l)
        (λ f.
        record {
          works = λ i m h. l.works i m (omega (arith, taken-le g.cost g.rows t.weights i));
          covers = omega (arith, l.covers, found-clashing t.weights l.works);
        })

    pub costs-cover : (W : Weights) → Works W → clashing W ≤ (hunts lits rows names p W rows).costs
    costs-cover W works =
        let l = hunts-left W works rows in
        omega (arith, l.covers, last-clashing (hunts lits rows names p W rows).weights l.works (hunts-enough lits rows names p W))

-- ---- desks

-- a row that is unsatisfied and of which a literal alone is left has a working weight
unit-works : (p : Part) (row : Row) (v : ℕ) (t : Bool) → v < 64
    → weight_where (same_lits (unit v t)) p row
    ≡ cond (same_lits (unit v t) (remnant p row.lits)) (weight_where (λ l. not (is_empty l)) p row) 0
unfolding weight_where
unit-works p row v t below =
    go (satisfied p row.lits) (same_lits (unit v t) (remnant p row.lits)) (is_empty (remnant p row.lits))
    (λ s. not_so (λ e. unit-some v t below (rw (same-eq (unit v t) (remnant p row.lits) s) e)))
  where
    go : (s m e : Bool) → (m ≡ true → e ≡ false) → cond (not s && m) row.weight 0 ≡ cond m (cond (not s && not e) row.weight 0) 0
    go true true e h = refl
    go true false e h = refl
    go false true e h = rw (h refl)
    go false false e h = refl

-- what has a working weight is unsatisfied
working-unsatisfied : (test : Lits → Bool) (p : Part) (row : Row) → 0 < weight_where test p row → satisfied p row.lits ≡ false
unfolding weight_where
working-unsatisfied test p row = go (satisfied p row.lits) (test (remnant p row.lits))
  where
    go : (s b : Bool) → 0 < cond (not s && b) row.weight 0 → s ≡ false
    go true b h = absurd (omega arith)
    go false b h = refl

module _ (d : List ℕ) (f : Formed d) (p : Part) where
  abbrev lits_on : ℕ → Lits
  lits_on i = (row_on d i).lits

  unit-alone : (v : ℕ) (t : Bool) → v < 64 → unit_weight d p (unit v t) ≡ alone lits_on (in_use d) (variables d) p (working_weight d p) (unit v t)
  unfolding unit_weight alone working_weight
  unit-alone v t below = sum-ext (in_use d) (λ i l. unit-works p (row_on d i) v t below)

  foreseen-clashing : foreseen d p ≤ clashing lits_on (in_use d) (variables d) p (working_weight d p)
  unfolding foreseen foreseen_at clashing
  foreseen-clashing =
      sum-le (variables d) (λ v l.
      let below : v < 64 = omega (arith, f.named) in
      go (has p.decided v) (omega (arith, unit-alone v true below, unit-alone v false below)))
    where
      go : (b : Bool) {m k : ℕ} → m ≤ k → cond b 0 m ≤ k
      go true h = omega arith
      go false h = h

  row-works : (i : ℕ) → i < in_use d → 0 < working_weight d p i → satisfied p (lits_on i) ≡ false
  unfolding working_weight
  row-works i l = working-unsatisfied (λ l. not (is_empty l)) p (row_on d i)

  pub groups-no-less : Nested p → bound d p ≤ groups_bound d p
  unfolding bound groups_bound groups_cost hunts_on
  groups-no-less nested =
      omega (
        arith,
        foreseen-clashing,
        costs-cover lits_on (in_use d) (variables d) p nested (λ i l. sound-held f.named (f.sound i l)) f.named (working_weight d p) row-works,
      )
