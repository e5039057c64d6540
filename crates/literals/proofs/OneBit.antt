-- A literal's mask has one bit, that of its variable: bit v - 1 for variable v.
-- Sizes of literals run from 1 to 64, so no bit falls off the mask, and different variables have different bits.
use Prim.Native.Nat.{ℕ, ◌-◌, ◌≤◌, ◌<◌, ◌^◌}
use mathlib.Core.Path.{◌≡◌, sym, ◌∙◌}
use mathlib.Core.Bool.{true, false, false≢true}
use mathlib.Core.Logic.{⊎_elim}
use native.Mathlib.Omega.{arith}
use borrow.Author.Tests.{ne_eqb, eqb-false}
use lib.Dec.{eqb}
use lib.IntN.{ℤ}
use lib.Pow.{pow_pos}
use Rattle.masks.specs.Masks.{has, count}
use Rattle.masks.proofs.Choice.{cases, lt-or-le}
use Rattle.masks.proofs.Bits.{has-pow}
use Rattle.masks.proofs.Sets.{single-lt, single-pow, single-past, pow-inj}
use Rattle.masks.proofs.Counts.{count-pow}
use Rattle.literals.specs.Literal.{most_variables, size, is_literal, opposite, bit_of}
use Rattle.literals.proofs.Opposites.{literal-sized, sized-literal, size-opposite}

-- a literal's bit is one of the 64
pub place-below : (z : ℤ) → is_literal z ≡ true → size z - 1 < 64
place-below z h = omega (arith, (literal-sized z h).some, (literal-sized z h).most)

pub bit-literal : (z : ℤ) → is_literal z ≡ true → bit_of z ≡ 2 ^ (size z - 1)
unfolding bit_of
bit-literal z h =
    rw (ne_eqb (size z) 0 (λ e. omega (arith, (literal-sized z h).some))) (single-pow (size z - 1) (place-below z h))

-- a number that is no literal has no bit: 0 is of no variable, and what is past the last has a place past the mask
pub bit-other : (z : ℤ) → is_literal z ≡ false → bit_of z ≡ 0
unfolding bit_of
bit-other z h =
    ⊎_elim (λ t. rw t)
    (λ t.
    let some : 1 ≤ size z = omega (arith, eqb-false (size z) 0 t) in
    let far : most_variables < size z =
    ⊎_elim (λ l. l) (λ l. absurd (false≢true (sym h ∙ sized-literal z (record { some = some; most = l }))))
    (lt-or-le most_variables (size z)) in
    rw t (single-past (size z - 1) (omega arith)))
    (cases (eqb (size z) 0))

pub bit_below : (z : ℤ) → bit_of z < 2 ^ 64
unfolding bit_of
bit_below z = ⊎_elim (λ t. rw t (pow_pos 64)) (λ t. rw t (single-lt (size z - 1))) (cases (eqb (size z) 0))

pub bit-some : (z : ℤ) → is_literal z ≡ true → 0 < bit_of z
bit-some z h = rw (bit-literal z h) (pow_pos (size z - 1))

pub bit-one : (z : ℤ) → is_literal z ≡ true → count (bit_of z) ≡ 1
bit-one z h = rw (bit-literal z h) (count-pow (size z - 1) (place-below z h))

-- variable v + 1 alone
pub bit-has : (z : ℤ) (v : ℕ) → is_literal z ≡ true → has (bit_of z) v ≡ eqb v (size z - 1)
bit-has z v h = rw (bit-literal z h) (has-pow (size z - 1) v)

-- the opposite stands on the same variable
pub bit-opposite : (z : ℤ) → bit_of (opposite z) ≡ bit_of z
unfolding bit_of
bit-opposite z = rw (size-opposite z)

-- literals with the same bit stand on the same variable
pub bit-size : (a b : ℤ) → is_literal a ≡ true → is_literal b ≡ true → bit_of a ≡ bit_of b → size a ≡ size b
bit-size a b ha hb e =
    let same : size a - 1 ≡ size b - 1 = pow-inj (size a - 1) (size b - 1) (sym (bit-literal a ha) ∙ e ∙ bit-literal b hb) in
    omega (arith, (literal-sized a ha).some, (literal-sized b hb).some)
