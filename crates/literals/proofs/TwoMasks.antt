-- Sets of literals as two masks: what holds of each mask holds of the set, since a set is no more than its masks.
-- A literal's own set has one mask empty, and its opposite's set is the same with the masks changed over.
use Prim.Native.Nat.{ℕ, ◌<◌, ◌^◌}
use mathlib.Core.Path.{◌≡◌, refl, sym, ap, ◌∙◌}
use mathlib.Core.Bool.{Bool, true, false, cond, and_comm, and-eq-true_iff}
use mathlib.Core.Logic.{⊎_elim}
use native.Mathlib.Omega.{arith}
use borrow.Author.Tests.{eqb-true, eq-eqb, lt-ltb}
use lib.Bits.{bit_or, or_comm, or_zero_l, or_zero_r, or_self, or_lt}
use lib.Dec.{eqb, ltb}
use lib.IntN.{ℤ}
use lib.Pow.{pow_pos}
use Rattle.masks.proofs.Choice.{cases, not_so, cond-not}
use Rattle.masks.proofs.Sets.{or_assoc, without-or, or-without, without-self, without-zero, zero-without, without-again, without-lt}
use Rattle.literals.specs.declared.Lits.{Lits}
use Rattle.literals.specs.Literal.{is_positive, is_literal, opposite, bit_of, lits_of}
use Rattle.literals.specs.Lits.{no_lits, negated_lits, together, less, variables_of, is_empty, same_lits}
use Rattle.literals.proofs.Opposites.{sign-opposite, by-sign-and-size}
use Rattle.literals.proofs.OneBit.{bit-other, bit_below, bit-some, bit-opposite, bit-size}

-- ---- sets are equal where their masks are

pub lits-ext : (a b : Lits) → a.positive ≡ b.positive → a.negative ≡ b.negative → a ≡ b
lits-ext a b p q = λ i. record { positive = p i; negative = q i }

pub same-eq : (a b : Lits) → same_lits a b ≡ true → a ≡ b
unfolding same_lits
same-eq a b h =
    let tests = (and-eq-true_iff (eqb a.positive b.positive) (eqb a.negative b.negative)).0 h in
    lits-ext a b (eqb-true a.positive b.positive tests.0) (eqb-true a.negative b.negative tests.1)

pub eq-same : (a b : Lits) → a ≡ b → same_lits a b ≡ true
unfolding same_lits
eq-same a b e =
    let p : a.positive ≡ b.positive = ap (λ (l : Lits). l.positive) e in
    let q : a.negative ≡ b.negative = ap (λ (l : Lits). l.negative) e in
    rw (eq-eqb a.positive b.positive p, eq-eqb a.negative b.negative q)

pub empty-none : (l : Lits) → is_empty l ≡ true → l ≡ no_lits
unfolding is_empty no_lits
empty-none l h =
    let tests = (and-eq-true_iff (eqb l.positive 0) (eqb l.negative 0)).0 h in
    lits-ext l no_lits (eqb-true l.positive 0 tests.0) (eqb-true l.negative 0 tests.1)

pub none-empty : (l : Lits) → l ≡ no_lits → is_empty l ≡ true
unfolding is_empty no_lits
none-empty l e = rw e

pub empty-masks : (l : Lits) → is_empty l ≡ true → (l.positive ≡ 0) × (l.negative ≡ 0)
unfolding no_lits
empty-masks l h =
    let e = empty-none l h in
    (ap (λ (k : Lits). k.positive) e, ap (λ (k : Lits). k.negative) e)

pub masks-empty : (l : Lits) → l.positive ≡ 0 → l.negative ≡ 0 → is_empty l ≡ true
unfolding is_empty
masks-empty l p q = rw (eq-eqb l.positive 0 p, eq-eqb l.negative 0 q)

-- ---- opposites of all literals

pub negated-negated : (l : Lits) → negated_lits (negated_lits l) ≡ l
unfolding negated_lits
negated-negated l = refl

pub negated-together : (a b : Lits) → negated_lits (together a b) ≡ together (negated_lits a) (negated_lits b)
unfolding negated_lits together
negated-together a b = refl

pub negated-less : (a b : Lits) → negated_lits (less a b) ≡ less (negated_lits a) (negated_lits b)
unfolding negated_lits less
negated-less a b = refl

pub variables-negated : (l : Lits) → variables_of (negated_lits l) ≡ variables_of l
unfolding negated_lits variables_of
variables-negated l = or_comm l.negative l.positive

pub negated-empty : (l : Lits) → is_empty (negated_lits l) ≡ is_empty l
unfolding negated_lits is_empty
negated-empty l = and_comm (eqb l.negative 0) (eqb l.positive 0)

-- ---- the set of one literal

-- by the sign
pub lits-positive : (z : ℤ) → is_positive z ≡ true → lits_of z ≡ record { positive = bit_of z; negative = 0 }
unfolding lits_of
lits-positive z h = rw h

pub lits-negative : (z : ℤ) → is_positive z ≡ false → lits_of z ≡ record { positive = 0; negative = bit_of z }
unfolding lits_of
lits-negative z h = rw h

pub lits-other : (z : ℤ) → is_literal z ≡ false → lits_of z ≡ no_lits
unfolding no_lits
lits-other z h =
    ⊎_elim (λ t. lits-positive z t ∙ lits-ext _ _ (bit-other z h) refl) (λ t. lits-negative z t ∙ lits-ext _ _ refl (bit-other z h)) (cases (is_positive z))

pub lits-opposite : (z : ℤ) → is_literal z ≡ true → lits_of (opposite z) ≡ negated_lits (lits_of z)
unfolding lits_of negated_lits
lits-opposite z h =
    rw (sign-opposite z h, bit-opposite z)
    (lits-ext _ _ (cond-not (is_positive z) (bit_of z) 0) (cond-not (is_positive z) 0 (bit_of z)))

pub variables-lits : (z : ℤ) → variables_of (lits_of z) ≡ bit_of z
unfolding lits_of variables_of
variables-lits z = go (is_positive z) (bit_of z)
  where
    go : (b : Bool) (m : ℕ) → bit_or (cond b m 0) (cond b 0 m) ≡ m
    go true m = or_zero_r m
    go false m = or_zero_l m

-- whether its positive mask holds anything is a literal's sign
positive-sign : (z : ℤ) → is_literal z ≡ true → is_positive z ≡ ltb 0 (lits_of z).positive
positive-sign z h =
    let of : Lits → Bool = λ l. ltb 0 l.positive in
    ⊎_elim
    (λ t. t ∙ sym (lt-ltb 0 (bit_of z) (bit-some z h)) ∙ ap of (sym (lits-positive z t)))
    (λ t. t ∙ ap of (sym (lits-negative z t)))
    (cases (is_positive z))

-- a literal is told by its set
pub lits-literal : (a b : ℤ) → is_literal a ≡ true → is_literal b ≡ true → lits_of a ≡ lits_of b → a ≡ b
lits-literal a b ha hb e =
    let sign : is_positive a ≡ is_positive b =
    positive-sign a ha ∙ ap (λ (l : Lits). ltb 0 l.positive) e ∙ sym (positive-sign b hb) in
    let bit : bit_of a ≡ bit_of b = sym (variables-lits a) ∙ ap variables_of e ∙ variables-lits b in
    by-sign-and-size a b sign (bit-size a b ha hb bit)

pub lits-some : (z : ℤ) → is_literal z ≡ true → is_empty (lits_of z) ≡ false
unfolding no_lits variables_of
lits-some z h =
    not_so (λ t. let e : bit_of z ≡ 0 = sym (variables-lits z) ∙ ap variables_of (empty-none (lits_of z) t) in omega (arith, bit-some z h))

-- ---- together

pub together-none : (l : Lits) → together l no_lits ≡ l
unfolding together no_lits
together-none l = lits-ext _ l (or_zero_r l.positive) (or_zero_r l.negative)

pub none-together : (l : Lits) → together no_lits l ≡ l
unfolding together no_lits
none-together l = lits-ext _ l (or_zero_l l.positive) (or_zero_l l.negative)

pub together-comm : (a b : Lits) → together a b ≡ together b a
unfolding together
together-comm a b = lits-ext _ _ (or_comm a.positive b.positive) (or_comm a.negative b.negative)

pub together-self : (l : Lits) → together l l ≡ l
unfolding together
together-self l = lits-ext _ l (or_self l.positive) (or_self l.negative)

pub together-assoc : (a b c : Lits) → together (together a b) c ≡ together a (together b c)
unfolding together
together-assoc a b c =
    lits-ext _ _ (or_assoc a.positive b.positive c.positive) (or_assoc a.negative b.negative c.negative)

-- ---- less

pub less_none : (l : Lits) → less l no_lits ≡ l
unfolding less no_lits
less_none l = lits-ext _ l (without-zero l.positive) (without-zero l.negative)

pub none-less : (l : Lits) → less no_lits l ≡ no_lits
unfolding less no_lits
none-less l = lits-ext _ _ (zero-without l.positive) (zero-without l.negative)

pub less-self : (l : Lits) → less l l ≡ no_lits
unfolding less no_lits
less-self l = lits-ext _ _ (without-self l.positive) (without-self l.negative)

pub less-again : (a b : Lits) → less (less a b) b ≡ less a b
unfolding less
less-again a b =
    lits-ext _ _ (without-again a.positive b.positive) (without-again a.negative b.negative)

pub less-together : (a b c : Lits) → less a (together b c) ≡ less (less a b) c
unfolding less together
less-together a b c =
    lits-ext _ _
    (without-or a.positive b.positive c.positive)
    (without-or a.negative b.negative c.negative)

pub together-less : (a b c : Lits) → less (together a b) c ≡ together (less a c) (less b c)
unfolding less together
together-less a b c =
    lits-ext _ _
    (or-without a.positive b.positive c.positive)
    (or-without a.negative b.negative c.negative)

-- ---- both masks have 64 bits, as those of the struct do

pub record Held (l : Lits) : Type 0 where
  pub positives : l.positive < 2 ^ 64
  pub negatives : l.negative < 2 ^ 64

pub none-held : Held no_lits
unfolding no_lits
none-held = record { positives = pow_pos 64; negatives = pow_pos 64 }

pub lits-held : (z : ℤ) → Held (lits_of z)
lits-held z =
    ⊎_elim
    (λ t. rw (lits-positive z t) (record { positives = bit_below z; negatives = pow_pos 64 }))
    (λ t. rw (lits-negative z t) (record { positives = pow_pos 64; negatives = bit_below z }))
    (cases (is_positive z))

pub negated-held : {l : Lits} → Held l → Held (negated_lits l)
unfolding negated_lits
negated-held h = record { positives = h.negatives; negatives = h.positives }

pub together-held : {a b : Lits} → Held a → Held b → Held (together a b)
unfolding together
together-held {a} {b} h k =
    record {
      positives = or_lt 64 a.positive b.positive h.positives k.positives;
      negatives = or_lt 64 a.negative b.negative h.negatives k.negatives;
    }

pub less-held : {a : Lits} (b : Lits) → Held a → Held (less a b)
unfolding less
less-held b h =
    record { positives = without-lt 64 b.positive h.positives; negatives = without-lt 64 b.negative h.negatives }
