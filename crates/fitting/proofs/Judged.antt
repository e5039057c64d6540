-- What a rewriting is judged, test by test.
use Prim.Native.Nat.{ℕ, ◌+◌}
use mathlib.Core.Path.{◌≡◌}
use mathlib.Core.List.{List}
use mathlib.Core.Bool.{true, false}
use lib.ListN.{length}
use lib.Dec.{leb, ltb}
use Rattle.std.specs.Prelude.{Ok, Err}
use Rattle.rules.specs.declared.Refusal.TheVariants.{BadDesk, TooManySteps, BadNaming, BadFit, DeskFull}
use Rattle.rules.specs.Desk.{in_use, capacity, standing, most_steps, well_formed}
use Rattle.rules.specs.Rewrite.{given, well_fitted, rewrite_why}
use Rattle.rules.specs.Steps.{stored, well_named}

module _ (d : List ℕ) (kind : ℕ) (named : List ℕ) where
  pub desk-bad : well_formed d ≡ false → rewrite_why d kind named ≡ Err BadDesk
  unfolding rewrite_why
  desk-bad a = rw a

  module _ (a : well_formed d ≡ true) where
    pub steps-many : leb most_steps (standing d) ≡ true → rewrite_why d kind named ≡ Err TooManySteps
    unfolding rewrite_why
    steps-many b = rw (a, b)

    module _ (b : leb most_steps (standing d) ≡ false) where
      pub naming-bad : well_named d kind named ≡ false → rewrite_why d kind named ≡ Err BadNaming
      unfolding rewrite_why
      naming-bad e = rw (a, b, e)

      module _ (e : well_named d kind named ≡ true) where
        pub fit-bad : well_fitted d kind named ≡ false → rewrite_why d kind named ≡ Err BadFit
        unfolding rewrite_why
        fit-bad f = rw (a, b, e, f)

        module _ (f : well_fitted d kind named ≡ true) where
          pub desk-full : ltb (capacity d) (in_use d + length (stored (given d kind named))) ≡ true → rewrite_why d kind named ≡ Err DeskFull
          unfolding rewrite_why
          desk-full g = rw (a, b, e, f, g)

          pub all-fine : ltb (capacity d) (in_use d + length (stored (given d kind named))) ≡ false → rewrite_why d kind named ≡ Ok tt
          unfolding rewrite_why
          all-fine g = rw (a, b, e, f, g)
