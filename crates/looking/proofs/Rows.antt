-- Row i of a scan, one way at a time: it has no working weight, it fails the test, or it is looked at.
use Prim.Native.Nat.{ℕ, ◌<◌}
use mathlib.Core.Path.{◌≡◌, sym, ap, ◌∙◌}
use mathlib.Core.Bool.{Bool, true, false}
use mathlib.Core.List.{List}
use native.Mathlib.Nat.{pos_of_ne-zero}
use borrow.Author.Tests.{lt-ltb}
use lib.ListN.{get_or}
use Rattle.literals.specs.declared.Lits.{Lits}
use Rattle.rules.specs.declared.Row.{Row}
use Rattle.rules.specs.Desk.{row_on}
use Rattle.rules.specs.Groups.{Weights, Hunt, looked}
use Rattle.group_laws.specs.Trails.{weights_in}
use Rattle.group_laws.proofs.Branches.{looked-light, looked-failed}
use Rattle.looking.specs.Looks.{lits_on, looked_at}

looked-at : (lits : ℕ → Lits) (W : Weights) (test : Lits → Bool) (i : ℕ) (h : Hunt) → h.found ≡ false → 0 < W i → test (lits i) ≡ true
    → looked_at i (lits i) h ≡ looked lits W test i h
unfolding looked looked_at
looked-at lits W test i h running weighty passes = rw (running, lt-ltb 0 (W i) weighty, passes)

module _ (d words : List ℕ) (test : Lits → Bool) (i : ℕ) (h : Hunt) where
  pub step-light : get_or words i 0 ≡ 0 → h ≡ looked (lits_on d) (weights_in words) test i h
  step-light z = sym (looked-light (lits_on d) (weights_in words) test i h z)

  module _ (row : Row) (is : row ≡ row_on d i) where
    pub step-failed : test row.lits ≡ false → h ≡ looked (lits_on d) (weights_in words) test i h
    step-failed fails = sym (looked-failed (lits_on d) (weights_in words) test i h (sym (ap (λ (r : Row). test r.lits) is) ∙ fails))

    pub step-looked : h.found ≡ false → (get_or words i 0 ≡ 0 → ⊥) → test row.lits ≡ true
        → (k : Hunt) → k ≡ looked_at i row.lits h → k ≡ looked (lits_on d) (weights_in words) test i h
    step-looked running weighty passes k looks =
        looks
        ∙ ap (λ (r : Row). looked_at i r.lits h) is
        ∙ looked-at (lits_on d) (weights_in words) test i h running (pos_of_ne-zero weighty) (sym (ap (λ (r : Row). test r.lits) is) ∙ passes)
