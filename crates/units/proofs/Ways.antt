-- A row's literals by the variables that it has one way, those of just one of its masks. What is left of them is what is left of the row, but for
-- the variables left both ways; and the row has its weight where it is not satisfied and there are none of those. Each is an identity of masks.
use Prim.Native.Nat.{ℕ, ◌<◌}
use mathlib.Core.Path.{◌≡◌, refl, sym, ap, ◌∙◌}
use mathlib.Core.Bool.{Bool, beq, true, false, cond, not, xor, ◌&&◌, ◌||◌}
use borrow.Author.Tests.{eqb-true, eq-eqb}
use lib.Bits.{bit_and, bit_or, bit_xor, or_zero_l}
use lib.Dec.{T, eqb}
use Rattle.masks.specs.Masks.{has, without, none}
use Rattle.masks.proofs.Choice.{agree3, and_left, and_right, both, same_test, same1, same2, same3}
use Rattle.masks.proofs.Bits.{has-ext, has-zero, has-and, has-or, has-xor, has-without}
use Rattle.masks.proofs.Sets.{or-empty}
use Rattle.rules.specs.declared.Row.{Row}
use Rattle.rules.specs.declared.Part.{Part}
use Rattle.rules.specs.Desk.{satisfied}
use Rattle.units.specs.Adds.{weight_under}

same4 : (f g : Bool → Bool → Bool → Bool → Bool) → T (agree3 (f true) (g true)) → T (agree3 (f false) (g false))
    → (x y z u : Bool) → f x y z u ≡ g x y z u
same4 f g t s true = same3 (f true) (g true) t
same4 f g t s false = same3 (f false) (g false) s

-- ---- equal masks, and none in either of two

alike : (x y : Bool) → xor x y ≡ false → x ≡ y
unfolding xor
alike true true e = refl
alike true false e = e
alike false true e = sym e
alike false false e = refl

same-mask : (a b : ℕ) → eqb a b ≡ eqb (bit_xor a b) 0
unfolding xor
same-mask a b =
    same_test
    (λ t.
    let e = eqb-true a b t in
    eq-eqb (bit_xor a b) 0 (rw e (has-ext (λ v. simp (has-xor, has-zero) (same1 (λ x. xor x x) (λ x. false) tt (has b v))))))
    (λ t. let e = eqb-true (bit_xor a b) 0 t in eq-eqb a b (has-ext (λ v. alike (has a v) (has b v) (sym (has-xor a b v) ∙ rw e (has-zero v)))))

none-either : (a b : ℕ) → eqb (bit_or a b) 0 ≡ (eqb a 0 && eqb b 0)
none-either a b =
    same_test
    (λ t. let m = or-empty a b (eqb-true (bit_or a b) 0 t) in both (eq-eqb a 0 m.0) (eq-eqb b 0 m.1))
    (λ t.
    let p : a ≡ 0 = eqb-true a 0 (and_left (eqb a 0) (eqb b 0) t) in
    let q : b ≡ 0 = eqb-true b 0 (and_right (eqb a 0) (eqb b 0) t) in
    eq-eqb (bit_or a b) 0 (rw (p, q) (or_zero_l 0)))

-- ---- literals on variables that are had one way

module _ (a b d : ℕ) where
  abbrev pub some_of : ℕ
  some_of = without (bit_xor a b) d

  abbrev pub twice_of : ℕ
  twice_of = bit_and (without a d) (without b d)

  pub some_left : bit_or some_of twice_of ≡ bit_or (without a d) (without b d)
  unfolding xor
  some_left =
      has-ext
      (λ v.
      simp (has-or, has-and, has-xor, has-without)
      (same3
      (λ x y z. xor x y && not z || x && not z && (y && not z))
      (λ x y z. x && not z || y && not z)
      tt
      (has a v)
      (has b v)
      (has d v)))

  pub positive-left : bit_or (bit_xor some_of (bit_and some_of b)) twice_of ≡ without a d
  unfolding xor
  positive-left =
      has-ext
      (λ v.
      simp (has-or, has-and, has-xor, has-without)
      (same3
      (λ x y z. xor (xor x y && not z) (xor x y && not z && y) || x && not z && (y && not z))
      (λ x y z. x && not z)
      tt
      (has a v)
      (has b v)
      (has d v)))

  pub negative-left : bit_or (bit_and some_of b) twice_of ≡ without b d
  unfolding xor
  negative-left =
      has-ext
      (λ v.
      simp (has-or, has-and, has-xor, has-without)
      (same3
      (λ x y z. xor x y && not z && y || x && not z && (y && not z))
      (λ x y z. y && not z)
      tt
      (has a v)
      (has b v)
      (has d v)))

  module _ (t : ℕ) where
    abbrev untrue : ℕ
    untrue = bit_or (bit_and (bit_xor a b) t) (bit_and some_of b)

    untrue-but : bit_xor untrue b ≡ bit_or (bit_or (bit_and a t) (bit_and b (without d t))) twice_of
    unfolding xor
    untrue-but =
        has-ext
        (λ v.
        simp (has-or, has-and, has-xor, has-without)
        (same4
        (λ x y z u. not (beq (xor x y && u || xor x y && not z && y) y))
        (λ x y z u. x && u || y && (z && not u) || x && not z && (y && not z))
        tt
        tt
        (has a v)
        (has b v)
        (has d v)
        (has t v)))

    pub untrue-test : eqb untrue b ≡ (eqb (bit_and a t) 0 && eqb (bit_and b (without d t)) 0 && eqb twice_of 0)
    untrue-test =
        same-mask untrue b
        ∙ ap (λ (m : ℕ). eqb m 0) untrue-but
        ∙ none-either (bit_or (bit_and a t) (bit_and b (without d t))) twice_of
        ∙ ap (λ (x : Bool). x && eqb twice_of 0) (none-either (bit_and a t) (bit_and b (without d t)))
