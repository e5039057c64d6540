-- A row's weight is lost, works, or is neither where the row is satisfied; and the next row's working weight, stored behind the last.
use Prim.Native.Nat.{ℕ, ◌+◌, ◌<◌}
use mathlib.Core.Path.{◌≡◌, refl, sym, ap, ◌∙◌}
use mathlib.Core.Bool.{Bool, true, false, cond, not, ◌&&◌}
use mathlib.Core.List.{List}
use mathlib.Core.Logic.{⊎_elim}
use native.Mathlib.Omega.{arith}
use lib.Bits.{bit_or, or_zero_l}
use lib.ListN.{length, set, length-set}
use lib.Seq.{get_or-set_same, get_or-set_other}
use Rattle.masks.proofs.Choice.{not_so, eq-or-ne}
use Rattle.masks.proofs.Sets.{or-empty}
use Rattle.literals.specs.declared.Lits.{Lits}
use Rattle.literals.specs.Lits.{is_empty}
use Rattle.literals.proofs.TwoMasks.{empty-masks, masks-empty}
use Rattle.rules.specs.declared.Part.{Part}
use Rattle.rules.specs.declared.Row.{Row}
use Rattle.rules.specs.Desk.{row_on, satisfied, remnant}
use Rattle.rules.specs.Bound.{weight_where}
use Rattle.rules.specs.Groups.{working_weight}
use Rattle.desk_laws.specs.Charged.{charged_row}
use Rattle.working_weights.specs.declared.Shares.{Shares}
use Rattle.working_weights.specs.Works.{unsatisfied_weight, shares_of, Works}

-- ---- the shares of a row's weight

module _ (p : Part) (charge : ℕ) (row : Row) (rest : Lits) (left : rest ≡ remnant p row.lits) where
  abbrev some : Lits → ℕ
  some l = bit_or l.positive l.negative

  empty-so : some rest ≡ 0 → is_empty (remnant p row.lits) ≡ true
  empty-so z = let m = or-empty rest.positive rest.negative z in ap is_empty (sym left) ∙ masks-empty rest m.0 m.1

  some-so : (some rest ≡ 0 → ⊥) → is_empty (remnant p row.lits) ≡ false
  some-so h = ap is_empty (sym left) ∙ not_so (λ t. h (let m = empty-masks rest t in rw (m.0, m.1) (or_zero_l 0)))

  pub all-lost : some rest ≡ 0 → (weight : ℕ) → weight ≡ unsatisfied_weight p (charged_row charge row)
      → record { lost = weight; working = 0 } ≡ shares_of p charge row
  unfolding unsatisfied_weight shares_of weight_where
  all-lost z weight e = rw (e, empty-so z) (go (satisfied p row.lits))
    where
      go : (s : Bool) → ◌≡◌ {A = Shares} (record { lost = cond s 0 (charged_row charge row).weight; working = 0 })
          (record { lost = cond (not s && true) (charged_row charge row).weight 0; working = cond (not s && false) row.weight 0 })
      go true = refl
      go false = refl

  pub all-works : (some rest ≡ 0 → ⊥) → (weight : ℕ) → weight ≡ unsatisfied_weight p row → record { lost = 0; working = weight } ≡ shares_of p charge row
  unfolding unsatisfied_weight shares_of weight_where
  all-works h weight e = rw (e, some-so h) (go (satisfied p row.lits))
    where
      go : (s : Bool) → ◌≡◌ {A = Shares} (record { lost = 0; working = cond s 0 row.weight })
          (record { lost = cond (not s && false) (charged_row charge row).weight 0; working = cond (not s && true) row.weight 0 })
      go true = refl
      go false = refl

-- ---- row by row

module _ (d : List ℕ) (p : Part) (before : List ℕ) where
  pub works-none : Works d p 0 before before
  works-none = record { kept = refl; each = λ i l. omega arith }

  pub works-more : (n : ℕ) (words : List ℕ) → Works d p n before words → n < length words → (row : Row) → row ≡ row_on d n
      → (charge : ℕ) (s : Shares) → s ≡ shares_of p charge row → Works d p (n + 1) before (set words n s.working)
  unfolding working_weight shares_of
  works-more n words so within row is charge s shared =
      record {
        kept = simp length-set so.kept;
        each = λ i l.
            ⊎_elim
            (λ (e : i ≡ n).
            rw e (get_or-set_same words n s.working 0 within
            ∙ ap (λ (x : Shares). x.working) shared
            ∙ ap (weight_where (λ l. not (is_empty l)) p) is))
            (λ other. get_or-set_other words n i s.working 0 other ∙ so.each i (let less : i < n = omega (arith, other) in less))
            (eq-or-ne i n);
      }
