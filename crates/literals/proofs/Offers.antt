-- What is offered and found fine is that number and a literal; what is refused is none.
use Rattle.std.specs.Prelude.{Some, None}
use mathlib.Core.Path.{◌≡◌, refl}
use mathlib.Core.Bool.{Bool, true, false}
use lib.IntN.{ℤ}
use Rattle.masks.proofs.Choice.{impossible}
use Rattle.literals.specs.declared.Literal.{Literal}
use Rattle.literals.specs.Literal.{is_literal, offered}

module _ (z : ℤ) where
  pub offered-fine : (l : Literal) → offered z ≡ Some l → (is_literal z ≡ true) × (l ≡ record { value = z })
  unfolding offered
  offered-fine l e = go (is_literal z) refl
    where
      go : (b : Bool) → is_literal z ≡ b → (is_literal z ≡ true) × (l ≡ record { value = z })
      go true t =
          let f : Some (record { value = z }) ≡ Some l = rw t at e in
          (t, (cc))
      go false t =
          let f : None ≡ Some l = rw t at e in
          impossible (cc)

  pub offered-refused : offered z ≡ None → is_literal z ≡ false
  unfolding offered
  offered-refused e = go (is_literal z) refl
    where
      go : (b : Bool) → is_literal z ≡ b → is_literal z ≡ false
      go true t =
          let f : Some (record { value = z }) ≡ None = rw t at e in
          impossible (cc)
      go false t = t
