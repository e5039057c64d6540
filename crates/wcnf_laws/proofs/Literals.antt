-- The members that are written of a row's literals are those literals again: on each variable, in each mask, the members hold what the row holds. None
-- of them stands on a variable above the count where the row's masks don't.
use Prim.Native.Nat.{ℕ, zero, suc, ◌+◌, ◌-◌, ◌^◌, ◌<◌, ◌≤◌}
use mathlib.Core.Path.{◌≡◌, refl, sym, ap, ◌∙◌}
use mathlib.Core.Logic.{⊎_elim}
use mathlib.Core.Bool.{Bool, true, false, cond, not, ◌&&◌, ◌||◌, or-true}
use mathlib.Core.List.{List, [], ◌∷◌}
use native.Mathlib.Omega.{arith}
use borrow.Author.Tests.{eq-eqb, ne_eqb, le-leb, le-ltb, not-false}
use lib.Bits.{bit_and}
use lib.Dec.{eqb, eqb-suc-zero}
use lib.IntN.{ℤ, pos, negsuc}
use Rattle.masks.specs.Masks.{has, none, below}
use Rattle.masks.proofs.Choice.{or-none, and_left, and_right, eq-or-ne}
use Rattle.masks.proofs.Bits.{has-or, has-pow, has-zero, has-lt, has-ext-below, below-lt}
use Rattle.masks.proofs.Sets.{apart, single-pow}
use Rattle.literals.specs.declared.Lits.{Lits}
use Rattle.literals.specs.Literal.{most_variables, size, is_positive, bit_of, lits_of}
use Rattle.literals.specs.Lits.{no_lits, together}
use Rattle.literals.proofs.TwoMasks.{Held, none-held, lits-held, together-held, lits-ext, lits-positive, lits-negative}
use Rattle.rules.specs.Table.{bad_lits}
use Rattle.rules.specs.WcnfReader.{lits_of_members, some_above, bad_members}

-- the literals on n variables from bit v on, as signed numbers
unfoldable pub members_of : ℕ → ℕ → Lits → List ℤ
members_of v zero l = []
members_of v (suc n) l =
    let more = members_of (suc v) n l in
    cond (has l.positive v) (pos (suc v) ∷ more) (cond (has l.negative v) (negsuc v ∷ more) more)

-- ---- one member

bit-of : (z : ℤ) (v : ℕ) → size z ≡ suc v → v < most_variables → bit_of z ≡ 2 ^ v
unfolding bit_of
bit-of z v e l =
    let less : suc v - 1 ≡ v = omega arith in
    rw (e, eqb-suc-zero v, less) (single-pow v l)

pub positive-lits : (v : ℕ) → v < most_variables → lits_of (pos (suc v)) ≡ record { positive = 2 ^ v; negative = 0 }
unfolding is_positive size
positive-lits v l =
    lits-positive (pos (suc v)) (le-leb 1 (suc v) (omega arith)) ∙ ap (λ (m : ℕ). record { positive = m; negative = 0 }) (bit-of (pos (suc v)) v refl l)

pub negative-lits : (v : ℕ) → v < most_variables → lits_of (negsuc v) ≡ record { positive = 0; negative = 2 ^ v }
unfolding is_positive size
negative-lits v l = lits-negative (negsuc v) refl ∙ ap (λ (m : ℕ). record { positive = 0; negative = m }) (bit-of (negsuc v) v refl l)

pub members-held : (ls : List ℤ) → Held (lits_of_members ls)
unfolding lits_of_members
members-held [] = none-held
members-held (l ∷ ls) = together-held (lits-held l) (members-held ls)

-- ---- all of them, variable by variable

-- w is one of the n variables from v on
within : ℕ → ℕ → ℕ → Bool
within v zero w = false
within v (suc n) w = eqb w v || within (suc v) n w

within_all : (n v w : ℕ) → v ≤ w → w < v + n → within v n w ≡ true
unfolding within
within_all zero v w low high = absurd (omega arith)
within_all (suc n) v w low high =
    ⊎_elim (λ (e : w ≡ v). rw (eq-eqb w v e))
    (λ (e : w ≡ v → ⊥). rw (ne_eqb w v e) (within_all n (suc v) w (above e) (omega arith)))
    (eq-or-ne w v)
  where
    above : (w ≡ v → ⊥) → suc v ≤ w
    above e = ⊎_elim (λ (z : w < suc v). absurd (e (omega arith))) (λ (z : suc v ≤ w). z) (Rattle.masks.proofs.Choice.lt-or-le w (suc v))

-- what one turn adds, in Bools
with_none : (a b : Bool) → b ≡ ((a && false) || b)
with_none true b = refl
with_none false b = refl

with-one : (a b : Bool) → (a || b) ≡ ((a && true) || b)
with-one true b = refl
with-one false b = refl

-- p and q say whether the variable is positive and negative in the row
abbrev turn : ℕ → Lits → Bool → Bool → Lits
turn v rest p q = cond p (together (lits_of (pos (suc v))) rest) (cond q (together (lits_of (negsuc v)) rest) rest)

module _ (v : ℕ) (small : v < most_variables) (rest : Lits) (w : ℕ) where
  turn-positive : (p q : Bool) → has (turn v rest p q).positive w ≡ ((eqb w v && p) || has rest.positive w)
  unfolding together
  turn-positive true q = rw (positive-lits v small) (has-or (2 ^ v) rest.positive w ∙ rw (has-pow v w) (with-one (eqb w v) (has rest.positive w)))
  turn-positive false true = rw (negative-lits v small) (has-or 0 rest.positive w ∙ rw (has-zero w) (with_none (eqb w v) (has rest.positive w)))
  turn-positive false false = with_none (eqb w v) (has rest.positive w)

  turn-negative : (p q : Bool) → has (turn v rest p q).negative w ≡ ((eqb w v && (not p && q)) || has rest.negative w)
  unfolding together
  turn-negative true q = rw (positive-lits v small) (has-or 0 rest.negative w ∙ rw (has-zero w) (with_none (eqb w v) (has rest.negative w)))
  turn-negative false true = rw (negative-lits v small) (has-or (2 ^ v) rest.negative w ∙ rw (has-pow v w) (with-one (eqb w v) (has rest.negative w)))
  turn-negative false false = with_none (eqb w v) (has rest.negative w)

-- one turn more, for a test f of each variable
one-turn : (f : ℕ → Bool) (v w : ℕ) (more : Bool) → ((eqb w v && f v) || (more && f w)) ≡ ((eqb w v || more) && f w)
one-turn f v w more =
    ⊎_elim
    (λ (e : w ≡ v). rw (eq-eqb w v e, e) (go (f v) more))
    (λ (e : w ≡ v → ⊥). rw (ne_eqb w v e))
    (eq-or-ne w v)
  where
    go : (a b : Bool) → (a || (b && a)) ≡ a
    go true b = refl
    go false true = refl
    go false false = refl

members-lits : (n v : ℕ) (l : Lits)
    → lits_of_members (members_of v (suc n) l) ≡ turn v (lits_of_members (members_of (suc v) n l)) (has l.positive v) (has l.negative v)
unfolding members_of lits_of_members
members-lits n v l = go (has l.positive v) (has l.negative v)
  where
    go : (p q : Bool) → lits_of_members (cond p (pos (suc v) ∷ members_of (suc v) n l) (cond q (negsuc v ∷ members_of (suc v) n l) (members_of (suc v) n l)))
        ≡ turn v (lits_of_members (members_of (suc v) n l)) p q
    go true q = refl
    go false true = refl
    go false false = refl

no-members : (v : ℕ) (l : Lits) → lits_of_members (members_of v 0 l) ≡ record { positive = 0; negative = 0 }
unfolding members_of lits_of_members no_lits
no-members v l = refl

-- in each mask: a variable that is positive as well is written once, as positive
abbrev only_negative : Lits → ℕ → Bool
only_negative l w = not (has l.positive w) && has l.negative w

members-positive : (n v w : ℕ) (l : Lits) → v + n ≤ most_variables → has (lits_of_members (members_of v n l)).positive w ≡ (within v n w && has l.positive w)
unfolding within
members-positive zero v w l small = ap (λ (k : Lits). has k.positive w) (no-members v l) ∙ has-zero w
members-positive (suc n) v w l small =
    ap (λ (k : Lits). has k.positive w) (members-lits n v l)
    ∙ turn-positive v (omega arith) (lits_of_members (members_of (suc v) n l)) w (has l.positive v) (has l.negative v)
    ∙ ap (λ (b : Bool). (eqb w v && has l.positive v) || b) (members-positive n (suc v) w l (omega arith))
    ∙ one-turn (has l.positive) v w (within (suc v) n w)

members-negative : (n v w : ℕ) (l : Lits) → v + n ≤ most_variables → has (lits_of_members (members_of v n l)).negative w ≡ (within v n w && only_negative l w)
unfolding within
members-negative zero v w l small = ap (λ (k : Lits). has k.negative w) (no-members v l) ∙ has-zero w
members-negative (suc n) v w l small =
    ap (λ (k : Lits). has k.negative w) (members-lits n v l)
    ∙ turn-negative v (omega arith) (lits_of_members (members_of (suc v) n l)) w (has l.positive v) (has l.negative v)
    ∙ ap (λ (b : Bool). (eqb w v && only_negative l v) || b) (members-negative n (suc v) w l (omega arith))
    ∙ one-turn (only_negative l) v w (within (suc v) n w)

-- ---- the row's literals again

module _ (l : Lits) (held : Held l) (parted : bit_and l.positive l.negative ≡ 0) where
  once : (w : ℕ) → only_negative l w ≡ has l.negative w
  once w = go (has l.positive w) (has l.negative w) (apart l.positive l.negative parted w)
    where
      go : (a b : Bool) → (a ≡ true → b ≡ false) → (not a && b) ≡ b
      go true b h = sym (h refl)
      go false b h = refl

  pub lits-back : lits_of_members (members_of 0 most_variables l) ≡ l
  lits-back =
      let all = lits_of_members (members_of 0 most_variables l) in
      let is = members-held (members_of 0 most_variables l) in
      lits-ext all l
      (has-ext-below 64 is.positives held.positives
      (λ w h. members-positive most_variables 0 w l (omega arith) ∙ rw (within_all most_variables 0 w (omega arith) (omega arith))))
      (has-ext-below 64 is.negatives held.negatives
      (λ w h. members-negative most_variables 0 w l (omega arith) ∙ rw (within_all most_variables 0 w (omega arith) (omega arith)) (once w)))

-- ---- 5

none_above : (variables n v : ℕ) (l : Lits) → below l.positive variables ≡ true → below l.negative variables ≡ true
    → some_above variables (members_of v n l) ≡ false
unfolding some_above members_of size
none_above variables zero v l p q = refl
none_above variables (suc n) v l p q = go (has l.positive v) refl (has l.negative v) refl (none_above variables n (suc v) l p q)
  where
    go : (a : Bool) → has l.positive v ≡ a → (b : Bool) → has l.negative v ≡ b → some_above variables (members_of (suc v) n l) ≡ false
        → some_above variables (cond a (pos (suc v) ∷ members_of (suc v) n l) (cond b (negsuc v ∷ members_of (suc v) n l) (members_of (suc v) n l))) ≡ false
    go true e b f ih = rw (le-ltb variables (suc v) (has-lt variables (below-lt l.positive variables p) e)) ih
    go false e true f ih = rw (le-ltb variables (suc v) (has-lt variables (below-lt l.negative variables q) f)) ih
    go false e false f ih = ih

good-masks : (variables : ℕ) (l : Lits) → bad_lits variables l ≡ false → (below l.positive variables ≡ true) × (below l.negative variables ≡ true)
unfolding bad_lits
good-masks variables l e =
    let low = below l.positive variables in
    let high = below l.negative variables in
    let t = or-none (not (none (bit_and l.positive l.negative))) (not (low && high)) e in
    let b = not-false (low && high) t.1 in
    (and_left low high b, and_right low high b)

-- the members that are written have the fault exactly where the row has it
pub bad-back : (variables : ℕ) (l : Lits) → Held l → bit_and l.positive l.negative ≡ 0
    → bad_members variables (members_of 0 most_variables l) ≡ bad_lits variables l
unfolding bad_members
bad-back variables l held parted = rw (lits-back l held parted) (go (bad_lits variables l) refl)
  where
    go : (b : Bool) → bad_lits variables l ≡ b → (some_above variables (members_of 0 most_variables l) || b) ≡ b
    go true e = or-true (some_above variables (members_of 0 most_variables l))
    go false e =
        let good = good-masks variables l e in
        rw (none_above variables most_variables 0 l good.0 good.1)
