-- What a literal is, by its size, and what its opposite is: the same variable and the other sign.
-- A number and its negation have one size, so one is a literal where the other is, and all follows by the cases of the sign.
use Prim.Native.Nat.{zero, suc, ◌≤◌}
use mathlib.Core.Path.{◌≡◌, refl, sym, ap, ◌∙◌}
use mathlib.Core.Bool.{Bool, true, false, not, false≢true, and-eq-true_iff}
use mathlib.Core.Logic.{⊎_elim}
use native.Mathlib.Omega.{arith}
use borrow.Author.Tests.{ltb-false, leb-true, le-leb, lt-ltb}
use lib.Dec.{leb}
use lib.IntN.{ℤ, pos, negsuc, neg_ℤ, nat_abs, neg_ℤ-neg_ℤ}
use lib.Signed.{mag}
use mir.Syntax.{w64}
use mir.Val.{SFits}
use Rattle.masks.proofs.Choice.{cases}
use Rattle.literals.specs.Literal.{most_variables, size, is_positive, is_literal, opposite}

-- ---- what a literal is

pub record Sized (z : ℤ) : Type 0 where
  pub some : 1 ≤ size z
  pub most : size z ≤ most_variables

pub literal-sized : (z : ℤ) → is_literal z ≡ true → Sized z
unfolding is_literal
literal-sized z h =
    let tests = (and-eq-true_iff (leb 1 (size z)) (leb (size z) most_variables)).0 h in
    record { some = leb-true 1 (size z) tests.0; most = leb-true (size z) most_variables tests.1 }

pub sized-literal : (z : ℤ) → Sized z → is_literal z ≡ true
unfolding is_literal
sized-literal z s = rw (le-leb 1 (size z) s.some, le-leb (size z) most_variables s.most)

-- ---- the opposite

pub opposite-literal : (z : ℤ) → is_literal z ≡ true → opposite z ≡ neg_ℤ z
unfolding opposite
opposite-literal z h = rw h

pub opposite-other : (z : ℤ) → is_literal z ≡ false → opposite z ≡ z
unfolding opposite
opposite-other z h = rw h

size-neg : (z : ℤ) → nat_abs (neg_ℤ z) ≡ nat_abs z
size-neg (pos zero) = refl
size-neg (pos (suc n)) = refl
size-neg (negsuc n) = refl

literal-neg : (z : ℤ) → is_literal (neg_ℤ z) ≡ is_literal z
unfolding is_literal size
literal-neg z = rw (size-neg z)

-- what holds of the negation of a literal, and of a number that is none, holds of the opposite
by-opposite : (z : ℤ) (P : ℤ → Type 0) → (is_literal z ≡ true → P (neg_ℤ z)) → (is_literal z ≡ false → P z) → P (opposite z)
unfolding opposite
by-opposite z P p q = ⊎_elim (λ t. rw t (p t)) (λ t. rw t (q t)) (cases (is_literal z))

pub size-opposite : (z : ℤ) → size (opposite z) ≡ size z
unfolding size
size-opposite z = by-opposite z (λ x. nat_abs x ≡ nat_abs z) (λ h. size-neg z) (λ h. refl)

pub literal-opposite : (z : ℤ) → is_literal (opposite z) ≡ is_literal z
literal-opposite z = by-opposite z (λ x. is_literal x ≡ is_literal z) (λ h. literal-neg z) (λ h. refl)

pub opposite-opposite : (z : ℤ) → opposite (opposite z) ≡ z
opposite-opposite z =
    by-opposite z (λ x. opposite x ≡ z)
    (λ h. opposite-literal (neg_ℤ z) (literal-neg z ∙ h) ∙ neg_ℤ-neg_ℤ z)
    (λ h. opposite-other z h)

sign-neg : (z : ℤ) → 1 ≤ size z → is_positive (neg_ℤ z) ≡ not (is_positive z)
unfolding size is_positive
sign-neg (pos zero) h = absurd (omega arith)
sign-neg (pos (suc n)) h = rw (lt-ltb 0 (suc n) (omega arith))
sign-neg (negsuc n) h = lt-ltb 0 (suc n) (omega arith)

pub sign-opposite : (z : ℤ) → is_literal z ≡ true → is_positive (opposite z) ≡ not (is_positive z)
sign-opposite z h = ap is_positive (opposite-literal z h) ∙ sign-neg z (literal-sized z h).some

-- a literal is not its opposite
pub opposite-differs : (z : ℤ) → is_literal z ≡ true → opposite z ≡ z → ⊥
opposite-differs z h e = differs (is_positive z) (sym (ap is_positive e) ∙ sign-opposite z h)
  where
    differs : (b : Bool) → b ≡ not b → ⊥
    differs true q = false≢true (sym q)
    differs false q = false≢true q

-- sign and size are all there is to a number
pub by-sign-and-size : (a b : ℤ) → is_positive a ≡ is_positive b → size a ≡ size b → a ≡ b
unfolding size is_positive
by-sign-and-size (pos m) (pos n) p q = ap pos q
by-sign-and-size (pos m) (negsuc n) p q = absurd (omega (arith, ltb-false 0 m p))
by-sign-and-size (negsuc m) (pos n) p q = absurd (omega (arith, ltb-false 0 n (sym p)))
by-sign-and-size (negsuc m) (negsuc n) p q = let e : m ≡ n = omega arith in ap negsuc e

-- in the code, a literal's sign can be turned
mag-neg : (z : ℤ) → mag (neg_ℤ z) ≤ nat_abs z
mag-neg (pos zero) = omega arith
mag-neg (pos (suc n)) = omega arith
mag-neg (negsuc n) = omega arith

pub opposite-fits : (z : ℤ) → is_literal z ≡ true → SFits w64 (neg_ℤ z)
unfolding size
opposite-fits z h = record { sfits = omega (arith, mag-neg z, (literal-sized z h).most) }
