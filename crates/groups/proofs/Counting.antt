-- Hunts one after another: the sum so far is that of the first k hunts, and the working weights in the words are those that they leave. It may be
-- left once a hunt finds nothing, and once the sum has reached what is asked.
use Prim.Native.Nat.{ℕ, ◌+◌, ◌^◌, ◌≤◌, ◌<◌, min}
use mathlib.Core.Path.{◌≡◌, refl, sym, ap, ◌∙◌}
use mathlib.Core.List.{List}
use mathlib.Core.Logic.{⊎_elim}
use native.Mathlib.Omega.{arith}
use Rattle.masks.proofs.Choice.{cases}
use Rattle.literals.specs.declared.Lits.{Lits}
use Rattle.rules.specs.declared.Part.{Part}
use Rattle.rules.specs.Desk.{variables, in_use}
use Rattle.rules.specs.Groups.{Weights, Hunt, Tally, hunted, tallied, hunts, working_weight, hunts_on, groups_cost, groups_bound}
use Rattle.group_laws.specs.Trails.{weights_in}
use Rattle.group_laws.proofs.Branches.{tallied-found, tallied-last, hunts-next}
use Rattle.group_laws.proofs.Enough.{groups-last, groups-so-far}
use Rattle.group_laws.proofs.Alike.{Agree, Same, hunted-same, tallied-same}
use Rattle.looking.specs.Looks.{lits_on}
use Rattle.groups.specs.Foresees.{Hunted, Begun, hunt_on}

-- costs counted from c on
module _ (lits : ℕ → Lits) (rows names : ℕ) (p : Part) (W : Weights) (c : ℕ) where
  abbrev from : ℕ → Tally
  from n = record { weights = W; costs = n }

  abbrev costs-of : Tally → ℕ
  costs-of t = t.costs

  counted-from : (tallied lits rows names p (from c)).costs ≡ c + (tallied lits rows names p (from 0)).costs
  counted-from =
      ⊎_elim
      (λ t. omega (arith, ap costs-of (tallied-found lits rows names p (from c) t), ap costs-of (tallied-found lits rows names p (from 0) t)))
      (λ f. omega (arith, ap costs-of (tallied-last lits rows names p (from c) f), ap costs-of (tallied-last lits rows names p (from 0) f)))
      (cases (hunted lits W rows names p).found)

  weights-from : (i : ℕ) → (tallied lits rows names p (from c)).weights i ≡ (tallied lits rows names p (from 0)).weights i
  weights-from i =
      let at : Tally → ℕ = λ t. t.weights i in
      ⊎_elim
      (λ t. ap at (tallied-found lits rows names p (from c) t) ∙ sym (ap at (tallied-found lits rows names p (from 0) t)))
      (λ f. ap at (tallied-last lits rows names p (from c) f) ∙ sym (ap at (tallied-last lits rows names p (from 0) f)))
      (cases (hunted lits W rows names p).found)

module _ (d : List ℕ) (p : Part) (start : ℕ) where
  -- how far the hunts have come: the first k
  pub record Counted (k sum : ℕ) (words : List ℕ) : Type 0 where
    pub upto : k ≤ in_use d
    pub sums : sum ≡ start + (hunts_on d p k).costs
    pub weights : Agree (in_use d) (weights_in words) (hunts_on d p k).weights

  pub count_none : (words : List ℕ) → Begun d p start words → Counted 0 start words
  unfolding hunts_on hunts
  count_none words begun = record { upto = omega arith; sums = omega arith; weights = begun.weights }

  so_far : (k : ℕ) → k ≤ in_use d → (hunts_on d p k).costs ≤ groups_cost d p
  unfolding groups_bound
  so_far k l = omega (arith, groups-so-far d p k l)

  module _ {k sum : ℕ} {words : List ℕ} (so : Counted k sum words) where
    -- another hunt
    module _ (less : k < in_use d) (after : List ℕ) (cost : ℕ) (hunts-on : Hunted d p words after cost) where
      same-so : Same (lits_on d) (lits_on d) (in_use d) (variables d) p (λ i l. refl)
          (tallied (lits_on d) (in_use d) (variables d) p (record { weights = weights_in words; costs = (hunts_on d p k).costs }))
          (hunts_on d p (k + 1))
      unfolding hunts_on
      same-so =
          rw (hunts-next (lits_on d) (in_use d) (variables d) p (working_weight d p) k)
          (tallied-same (lits_on d) (lits_on d) (in_use d) (variables d) p (λ i l. refl)
          (record { weights = weights_in words; costs = (hunts_on d p k).costs }) (hunts_on d p k)
          (record { weights = so.weights; costs = refl }))

      sum-so : (hunts_on d p (k + 1)).costs ≡ (hunts_on d p k).costs + cost
      sum-so =
          omega (
            arith,
            same-so.costs,
            counted-from (lits_on d) (in_use d) (variables d) p (weights_in words) (hunts_on d p k).costs,
            hunts-on.costs,
          )

      pub count-more : Counted (k + 1) (sum + cost) after
      count-more =
          record {
            upto = omega arith;
            sums = omega (arith, so.sums, sum-so);
            weights = λ i l.
                hunts-on.weights i l
                ∙ sym (weights-from (lits_on d) (in_use d) (variables d) p (weights_in words) (hunts_on d p k).costs i)
                ∙ same-so.weights i l;
          }

      pub count_fits : start + groups_cost d p < 2 ^ 64 → sum + cost < 2 ^ 64
      count_fits fits = omega (arith, so.sums, sum-so, so_far (k + 1) (omega arith))

      -- the last
      pub count-last : cost ≡ 0 → sum ≡ start + groups_cost d p
      count-last z =
          let same : hunt_on d p words ≡ hunted (lits_on d) (hunts_on d p k).weights (in_use d) (variables d) p =
          hunted-same (lits_on d) (lits_on d) (in_use d) (variables d) p (λ i l. refl) (weights_in words) (hunts_on d p k).weights so.weights in
          omega (arith, so.sums, groups-last d p k so.upto (sym (ap (λ (h : Hunt). h.found) same) ∙ hunts-on.last z))

    -- enough
    pub count-reached : (best : ℕ) → best ≤ sum → min best sum ≡ min best (start + groups_cost d p)
    count-reached best l = omega (arith, so.sums, so_far k so.upto)

    -- all
    pub count-all : in_use d ≤ k → sum ≡ start + groups_cost d p
    unfolding groups_cost
    count-all l =
        let all : k ≡ in_use d = omega (arith, so.upto) in
        so.sums ∙ ap (λ (n : ℕ). start + (hunts_on d p n).costs) all
