-- What a reading satisfies: a union where it satisfies a part, and of one literal exactly one of it and its negation.
-- Under a reading that keeps the decisions, a row that is not satisfied by them is as good as its remnant:
-- its decided literals are all false. All by the bits of the masks.
use Prim.Native.Nat.{ℕ, ◌-◌, ◌<◌, ◌^◌}
use mathlib.Core.Path.{◌≡◌, refl, sym, ap, ◌∙◌}
use mathlib.Core.Logic.{⊎_elim}
use mathlib.Core.Bool.{Bool, true, false, not, ◌&&◌, ◌||◌, and-true}
use mathlib.Core.List.{List}
use native.Mathlib.Omega.{arith}
use borrow.Author.Tests.{ne_eqb, not-false}
use lib.Bits.{bit_and, bit_or, and_comm, and_zero_l}
use lib.Pow.{pow_pos}
use Rattle.masks.specs.Masks.{has, none, without}
use Rattle.masks.proofs.Choice.{cases, same1, same3, or-none}
use Rattle.masks.proofs.Bits.{has-ext, has-and, has-or, has-without, has-zero}
use Rattle.masks.proofs.Sets.{none_or, none-zero, zero-none, or-without, and_pow, and-pow-apart, pow-within, without-apart, zero-without}
use Rattle.literals.specs.declared.Lits.{Lits}
use Rattle.literals.specs.Literal.{size, is_positive}
use Rattle.literals.specs.Lits.{no_lits, negated_lits, together, is_one}
use Rattle.literals.proofs.TwoMasks.{Held, lits-ext, lits-positive, lits-negative}
use Rattle.literals.proofs.OneBit.{bit-literal, place-below}
use Rattle.literals.proofs.OneLiteral.{one-lits}
use Rattle.rules.specs.Table.{holds}
use Rattle.desk_laws.proofs.Formed.{}
use Rattle.rules.specs.Desk.{decided, truths, decisions, satisfied, remnant}

-- ---- unions

or_and_right : (a b c : ℕ) → bit_and (bit_or a b) c ≡ bit_or (bit_and a c) (bit_and b c)
or_and_right a b c = has-ext (λ v. simp (has-and, has-or) (same3 (λ x y z. (x || y) && z) (λ x y z. x && z || y && z) tt (has a v) (has b v) (has c v)))

some_of : (x y z t : Bool) → (not (x && y) || not (z && t)) ≡ (not x || not z || (not y || not t))
some_of x y z true = same3 (λ x y z. not (x && y) || not (z && true)) (λ x y z. not x || not z || (not y || not true)) tt x y z
some_of x y z false = same3 (λ x y z. not (x && y) || not (z && false)) (λ x y z. not x || not z || (not y || not false)) tt x y z

module _ (reading : ℕ) where
  pub holds-together : (a b : Lits) → holds (together a b) reading ≡ (holds a reading || holds b reading)
  unfolding holds together
  holds-together a b =
      rw (
        or_and_right a.positive b.positive reading,
        or-without a.negative b.negative reading,
        none_or (bit_and a.positive reading) (bit_and b.positive reading),
        none_or (without a.negative reading) (without b.negative reading),
      )
      (some_of (none (bit_and a.positive reading)) (none (bit_and b.positive reading)) (none (without a.negative reading))
      (none (without b.negative reading)))

  pub holds-none : holds no_lits reading ≡ false
  unfolding holds no_lits
  holds-none = rw (and_zero_l reading, zero-without reading, none-zero {m = 0} refl)

  -- ---- one literal

  none-and-pow : (v : ℕ) → none (bit_and (2 ^ v) reading) ≡ not (has reading v)
  unfolding none
  none-and-pow v =
      rw (and_comm (2 ^ v) reading)
      (⊎_elim
      (λ t. rw (and_pow reading v t, t) (ne_eqb (2 ^ v) 0 (λ q. omega (arith, pow_pos v))))
      (λ t. rw (and-pow-apart reading v t, t))
      (cases (has reading v)))

  none-without-pow : (v : ℕ) → none (without (2 ^ v) reading) ≡ has reading v
  unfolding none
  none-without-pow v =
      ⊎_elim
      (λ t. rw (pow-within reading v t, t))
      (λ t. rw (without-apart (2 ^ v) reading (and_comm (2 ^ v) reading ∙ and-pow-apart reading v t), t) (ne_eqb (2 ^ v) 0 (λ q. omega (arith, pow_pos v))))
      (cases (has reading v))

  pub holds-positive : (v : ℕ) → holds (record { positive = 2 ^ v; negative = 0 }) reading ≡ has reading v
  unfolding holds
  holds-positive v =
      rw (none-and-pow v, zero-without reading, none-zero {m = 0} refl) (same1 (λ x. not (not x) || false) (λ x. x) tt (has reading v))

  pub holds-negative : (v : ℕ) → holds (record { positive = 0; negative = 2 ^ v }) reading ≡ not (has reading v)
  unfolding holds
  holds-negative v = rw (and_zero_l reading, none-without-pow v, none-zero {m = 0} refl)

-- one literal alone, by its sign
pub data Alone (l : Lits) : Type 0 where
  up : (v : ℕ) → v < 64 → l ≡ record { positive = 2 ^ v; negative = 0 } → Alone l
  down : (v : ℕ) → v < 64 → l ≡ record { positive = 0; negative = 2 ^ v } → Alone l

pub one-alone : (l : Lits) → Held l → is_one l ≡ true → Alone l
one-alone l held h =
    let o = one-lits l held h in
    let v : ℕ = size o.0 - 1 in
    ⊎_elim
    (λ t. up v (place-below o.0 o.1) (o.2 ∙ lits-positive o.0 t ∙ lits-ext _ _ (bit-literal o.0 o.1) refl))
    (λ t. down v (place-below o.0 o.1) (o.2 ∙ lits-negative o.0 t ∙ lits-ext _ _ refl (bit-literal o.0 o.1)))
    (cases (is_positive o.0))

pub holds_negated : (reading : ℕ) {l : Lits} → Alone l → holds (negated_lits l) reading ≡ not (holds l reading)
unfolding negated_lits
holds_negated reading (up v h e) = rw (e, holds-positive reading v, holds-negative reading v)
holds_negated reading (down v h e) = rw (e, holds-positive reading v, holds-negative reading v) (same1 (λ x. x) (λ x. not (not x)) tt (has reading v))

-- ---- remnants

-- p of the positive literals, d decided, t true, r read
positive-bit : (p d t r : Bool) → (p && t) ≡ false → (r && d) ≡ t → (p && r) ≡ (p && not d && r)
positive-bit true true t r a b = sym (and-true r) ∙ b ∙ a
positive-bit true false t r a b = refl
positive-bit false d t r a b = refl

negative-bit : (n d t r : Bool) → (n && (d && not t)) ≡ false → (r && d) ≡ t → (n && not r) ≡ (n && not d && not r)
negative-bit true true t r a b = ap not (sym (and-true r) ∙ b) ∙ a
negative-bit true false t r a b = refl
negative-bit false d t r a b = refl

pub holds-remnant : (d : List ℕ) (reading : ℕ) (l : Lits) → bit_and reading (decided d) ≡ truths d → satisfied (decisions d) l ≡ false
    → holds (remnant (decisions d) l) reading ≡ holds l reading
unfolding holds remnant satisfied decisions
holds-remnant d reading l agrees unsatisfied =
    let off : ℕ = without (decided d) (truths d) in
    let t = or-none (not (none (bit_and l.positive (truths d)))) (not (none (bit_and l.negative off))) unsatisfied in
    let no_true : bit_and l.positive (truths d) ≡ 0 =
    zero-none (bit_and l.positive (truths d)) (not-false (none (bit_and l.positive (truths d))) t.0) in
    let no_false : bit_and l.negative off ≡ 0 = zero-none (bit_and l.negative off) (not-false (none (bit_and l.negative off)) t.1) in
    let bits : (v : ℕ) → (has reading v && has (decided d) v) ≡ has (truths d) v = λ v. sym (has-and reading (decided d) v) ∙ ap (λ (m : ℕ). has m v) agrees in
    let p : bit_and l.positive reading ≡ bit_and (without l.positive (decided d)) reading =
    has-ext (λ v. simp (has-and, has-without) (positive-bit (has l.positive v) (has (decided d) v) (has (truths d) v) (has reading v)
    (sym (has-and l.positive (truths d) v) ∙ ap (λ (m : ℕ). has m v) no_true ∙ has-zero v) (bits v))) in
    let n : without l.negative reading ≡ without (without l.negative (decided d)) reading =
    has-ext (λ v. simp has-without (negative-bit (has l.negative v) (has (decided d) v) (has (truths d) v) (has reading v)
    (ap (λ (x : Bool). has l.negative v && x) (sym (has-without (decided d) (truths d) v)) ∙ sym (has-and l.negative off v)
    ∙ ap (λ (m : ℕ). has m v) no_false ∙ has-zero v) (bits v))) in
    rw (p, n)
