-- One turn of reweighing: the next row still has the weight it came with, since no row is named twice.
use Prim.Native.Nat.{ℕ, ◌+◌, ◌<◌}
use mathlib.Core.Path.{◌≡◌, refl, sym, ap}
use mathlib.Core.List.{List}
use native.Mathlib.Numerals.{add-one}
use Rattle.rules.specs.declared.Row.{Row}
use Rattle.rules.specs.Desk.{row_on, set_weight}
use Rattle.rules.specs.Steps.{reweighed}
use Rattle.desk_laws.proofs.Stores.{Distinct, reweighed-other}

module _ (new row : ℕ → ℕ) (d : List ℕ) where
  pub reweighed-none : reweighed new row d 0 ≡ d
  unfolding reweighed
  reweighed-none = refl

  pub reweighed-more : (i : ℕ) → reweighed new row d (i + 1) ≡ set_weight (reweighed new row d i) (row i) (new (row_on (reweighed new row d i) (row i)).weight)
  unfolding reweighed
  reweighed-more i = rw (add-one i)

  pub weight-yet : (n i : ℕ) → Distinct n row → i < n → (row_on (reweighed new row d i) (row i)).weight ≡ (row_on d (row i)).weight
  weight-yet n i apart h =
      ap (λ (r : Row). r.weight) (reweighed-other new row d i (row i) (λ k l e. apart k i l h (sym e)))
