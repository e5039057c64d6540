-- A cost is taken from one row after another. A row that has joined twice would lose it twice, as the definition says.
use Prim.Native.Nat.{ℕ, ◌+◌, ◌-◌, ◌<◌}
use mathlib.Core.Path.{◌≡◌, refl, sym, ap, ◌∙◌}
use mathlib.Core.List.{List}
use mathlib.Core.Bool.{cond}
use lib.Dec.{eqb}
use lib.ListN.{length, get_or, set, length-set}
use Rattle.rules.specs.Groups.{Weights, less_at, taken}
use Rattle.group_laws.specs.Trails.{rows_of, weights_in}
use Rattle.group_laws.proofs.Branches.{less-stored}
use Rattle.group_laws.proofs.Trails.{taken_more}
use Rattle.gathering.specs.Gathered.{Taken}

module _ (cost : ℕ) (group before : List ℕ) where
  abbrev row : ℕ → ℕ
  row k = get_or group k 0

  pub taken_none : Taken cost 0 group before before
  unfolding taken rows_of
  taken_none = record { words = refl; each = λ i. refl }

  -- a row loses the cost, whatever the others weigh
  less_as : (r : ℕ) (W U : Weights) (i : ℕ) → W i ≡ U i → less_at r cost W i ≡ less_at r cost U i
  unfolding less_at
  less_as r W U i e = ap (λ (w : ℕ). cond (eqb i r) (w - cost) w) e

  pub taken_next : (k : ℕ) (now : List ℕ) → Taken cost k group before now → row k < length now → (left : ℕ) → left ≡ get_or now (row k) 0 - cost
      → Taken cost (k + 1) group before (set now (row k) left)
  taken_next k now so within left is =
      record {
        words = simp length-set so.words;
        each = λ i.
            ap (λ (w : ℕ). get_or (set now (row k) w) i 0) is
            ∙ less-stored now (row k) cost within i
            ∙ less_as (row k) (weights_in now) (taken cost (rows_of row k) (weights_in before)) i (so.each i)
            ∙ sym (ap (λ (W : Weights). W i) (taken_more cost row k (weights_in before)));
      }
