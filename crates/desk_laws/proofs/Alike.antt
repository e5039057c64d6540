-- Two desks alike in head and rows in use. All that is said of a desk beside its entries is the same of both, and the front of a desk that
-- ends behind its rows in use is like the whole.
use Prim.Native.Nat.{ℕ, suc, ◌≤◌, ◌<◌}
use mathlib.Core.Path.{◌≡◌, sym, ◌∙◌}
use mathlib.Core.List.{List}
use native.Mathlib.Omega.{arith}
use lib.ListN.{get_or, take}
use lib.Seq.{get_or-take}
use Rattle.rules.specs.Desk.{head_words, in_use, row_place, row_on, weight_on, decisions}
use Rattle.desk_laws.proofs.Formed.{head-before, place_mono}
use Rattle.desk_laws.proofs.Stores.{row_same}
use Rattle.desk_laws.proofs.Weights.{weight-measured, measured-same}

pub record Alike (d e : List ℕ) : Type 0 where
  pub heads : (p : ℕ) → p < head_words → get_or e p 0 ≡ get_or d p 0
  pub rows : (i : ℕ) → i < in_use d → row_on e i ≡ row_on d i

pub front-alike : (d : List ℕ) (n : ℕ) → row_place (in_use d) ≤ n → Alike d (take n d)
front-alike d n h =
    record {
      heads = λ p l. get_or-take n d p 0 (omega (arith, head-before (in_use d)));
      rows = λ i l. row_same d (take n d) i (λ p a b. get_or-take n d p 0 (omega (arith, place_mono {a = suc i} {b = in_use d} (omega arith))));
    }

module _ {d e : List ℕ} (alike : Alike d e) where
  pub weight-alike : weight_on e ≡ weight_on d
  weight-alike =
      weight-measured e
      ∙ measured-same (λ l. 1) d e (alike.heads 4 (omega arith)) (alike.heads 1 (omega arith)) alike.rows
      ∙ sym (weight-measured d)

  pub decisions-alike : decisions e ≡ decisions d
  unfolding decisions
  decisions-alike = λ t. record { decided = alike.heads 5 (omega arith) t; truths = alike.heads 6 (omega arith) t }
