-- Refusal 5 in document 02's words: the masks of a clause's members have a bit exactly for each member, so they meet where a variable stands both ways, and
-- reach above the count where a member does.
use Prim.Native.Nat.{ℕ, zero, suc, ◌+◌, ◌-◌, ◌/◌, ◌^◌, ◌<◌, ◌≤◌}
use mathlib.Core.Path.{◌≡◌, refl, sym, ap, subst, ◌∙◌}
use mathlib.Core.Logic.{◌⊎◌, inl, inr, ⊎_elim}
use mathlib.Core.Bool.{Bool, true, false, cond, not, ◌&&◌, ◌||◌, or-true}
use mathlib.Core.List.{List, [], ◌∷◌, Memᴰ}
use native.Mathlib.Nat.{div-le_self, lt_of_le_of_lt}
use native.Mathlib.Omega.{arith}
use borrow.Author.Tests.{eqb-true, eq-eqb, ne_eqb, eqb-false, ltb-true, lt-ltb, le-leb, not-true}
use lib.Bits.{bit_and}
use lib.Count.{count_trailing_zeros}
use lib.Dec.{eqb, ltb, eqb-suc-zero}
use lib.IntN.{ℤ, pos, negsuc, neg_ℤ}
use Rattle.masks.specs.Masks.{has, none, below, single}
use Rattle.masks.proofs.Choice.{impossible, clash, or_cases, both, and_left, and_right, lt-or-le}
use Rattle.masks.proofs.Bits.{has-or, has-and, has-pow, has-zero, has-shr, below-shr}
use Rattle.masks.proofs.Sets.{and-lt-left}
use Rattle.masks.proofs.Counts.{trailing-in}
use Rattle.literals.specs.declared.Lits.{Lits}
use Rattle.literals.specs.Literal.{most_variables, size, is_positive, bit_of, lits_of}
use Rattle.literals.specs.Lits.{no_lits, together}
use Rattle.literals.proofs.TwoMasks.{lits-positive, lits-negative}
use Rattle.rules.specs.Table.{bad_lits}
use Rattle.rules.specs.WcnfReader.{lits_of_members, some_above, bad_members}
use Rattle.wcnf_laws.specs.Members.{Above, BothWays}
use Rattle.wcnf_laws.proofs.Literals.{positive-lits, negative-lits, members-held}
use Rattle.wcnf_laws.proofs.Says.{above_in, above-out}

-- ---- one member's bit

-- a bit of a literal's mask is its variable's
bit_is : (z : ℤ) (u v : ℕ) → size z ≡ suc u → has (bit_of z) v ≡ true → v ≡ u
unfolding bit_of single
bit_is z u v e h = go (ltb u 64) (subst (λ (m : ℕ). has m v ≡ true) shape h)
  where
    shape : cond (eqb (size z) 0) 0 (cond (ltb (size z - 1) 64) (2 ^ (size z - 1)) 0) ≡ cond (ltb u 64) (2 ^ u) 0
    shape = let less : suc u - 1 ≡ u = omega arith in rw (e, eqb-suc-zero u, less)

    go : (b : Bool) → has (cond b (2 ^ u) 0) v ≡ true → v ≡ u
    go true q = eqb-true v u (sym (has-pow u v) ∙ q)
    go false q = absurd (clash q (has-zero v))

plainly : (u : ℕ) → lits_of (pos (suc u)) ≡ record { positive = bit_of (pos (suc u)); negative = 0 }
unfolding is_positive
plainly u = lits-positive (pos (suc u)) (le-leb 1 (suc u) (omega arith))

negatedly : (u : ℕ) → lits_of (negsuc u) ≡ record { positive = 0; negative = bit_of (negsuc u) }
unfolding is_positive
negatedly u = lits-negative (negsuc u) refl

positive-is : (z : ℤ) (v : ℕ) → has (lits_of z).positive v ≡ true → z ≡ pos (suc v)
unfolding is_positive size lits_of bit_of
positive-is (pos zero) v h = absurd (clash h (has-zero v))
positive-is (pos (suc u)) v h =
    ap (λ (k : ℕ). pos (suc k)) (sym (bit_is (pos (suc u)) u v refl (subst (λ (l : Lits). has l.positive v ≡ true) (plainly u) h)))
positive-is (negsuc u) v h = absurd (clash h (has-zero v))

negative-is : (z : ℤ) (v : ℕ) → has (lits_of z).negative v ≡ true → z ≡ negsuc v
unfolding is_positive size lits_of bit_of
negative-is (pos zero) v h = absurd (clash h (has-zero v))
negative-is (pos (suc u)) v h = absurd (clash (subst (λ (l : Lits). has l.negative v ≡ true) (plainly u) h) (has-zero v))
negative-is (negsuc u) v h =
    ap negsuc (sym (bit_is (negsuc u) u v refl (subst (λ (l : Lits). has l.negative v ≡ true) (negatedly u) h)))

-- ---- the bits of all members

pub positive-out : (ls : List ℤ) (v : ℕ) → has (lits_of_members ls).positive v ≡ true → Memᴰ (pos (suc v)) ls
unfolding lits_of_members together no_lits
positive-out [] v h = absurd (clash h (has-zero v))
positive-out (l ∷ ls) v h =
    ⊎_elim
    (λ (t : has (lits_of l).positive v ≡ true). Memᴰ.head (sym (positive-is l v t)))
    (λ (t : has (lits_of_members ls).positive v ≡ true). Memᴰ.tail (positive-out ls v t))
    (or_cases (has (lits_of l).positive v) (has (lits_of_members ls).positive v) (sym (has-or (lits_of l).positive (lits_of_members ls).positive v) ∙ h))

pub negative-out : (ls : List ℤ) (v : ℕ) → has (lits_of_members ls).negative v ≡ true → Memᴰ (negsuc v) ls
unfolding lits_of_members together no_lits
negative-out [] v h = absurd (clash h (has-zero v))
negative-out (l ∷ ls) v h =
    ⊎_elim
    (λ (t : has (lits_of l).negative v ≡ true). Memᴰ.head (sym (negative-is l v t)))
    (λ (t : has (lits_of_members ls).negative v ≡ true). Memᴰ.tail (negative-out ls v t))
    (or_cases (has (lits_of l).negative v) (has (lits_of_members ls).negative v) (sym (has-or (lits_of l).negative (lits_of_members ls).negative v) ∙ h))

pub positive-in : (ls : List ℤ) (v : ℕ) → v < most_variables → Memᴰ (pos (suc v)) ls → has (lits_of_members ls).positive v ≡ true
unfolding lits_of_members together
positive-in [] v small m = elim m [ ]
positive-in (x ∷ xs) v small (Memᴰ.head e) =
    let own : has (lits_of x).positive v ≡ true =
    subst (λ (z : ℤ). has (lits_of z).positive v ≡ true) e
    (ap (λ (l : Lits). has l.positive v) (positive-lits v small) ∙ has-pow v v ∙ eq-eqb v v refl) in
    has-or (lits_of x).positive (lits_of_members xs).positive v ∙ rw own
positive-in (x ∷ xs) v small (Memᴰ.tail m) =
    has-or (lits_of x).positive (lits_of_members xs).positive v ∙ rw (positive-in xs v small m) (or-true (has (lits_of x).positive v))

pub negative-in : (ls : List ℤ) (v : ℕ) → v < most_variables → Memᴰ (negsuc v) ls → has (lits_of_members ls).negative v ≡ true
unfolding lits_of_members together
negative-in [] v small m = elim m [ ]
negative-in (x ∷ xs) v small (Memᴰ.head e) =
    let own : has (lits_of x).negative v ≡ true =
    subst (λ (z : ℤ). has (lits_of z).negative v ≡ true) e
    (ap (λ (l : Lits). has l.negative v) (negative-lits v small) ∙ has-pow v v ∙ eq-eqb v v refl) in
    has-or (lits_of x).negative (lits_of_members xs).negative v ∙ rw own
negative-in (x ∷ xs) v small (Memᴰ.tail m) =
    has-or (lits_of x).negative (lits_of_members xs).negative v ∙ rw (negative-in xs v small m) (or-true (has (lits_of x).negative v))

-- ---- 5

positive_of : (a : ℕ) → (a ≡ 0 → ⊥) → 0 < a
positive_of a h = ⊎_elim (λ (l : 0 < a). l) (λ (l : a ≤ 0). absurd (h (omega arith))) (lt-or-le 0 a)

-- a bit at or above a place
high_bit : (m n : ℕ) → m < 2 ^ 64 → below m n ≡ false → (v : ℕ) × (n ≤ v) × (has m v ≡ true)
high_bit m n small e =
    let top = m / 2 ^ n in
    let some : top ≡ 0 → ⊥ = eqb-false top 0 (sym (below-shr m n) ∙ e) in
    let less : top ≤ m = div-le_self m (2 ^ n) in
    let fits : top < 2 ^ 64 = lt_of_le_of_lt less small in
    let v = count_trailing_zeros 64 top in
    (n + v, omega arith, sym (has-shr m n v) ∙ trailing-in 64 fits (positive_of top some))

high-member : (variables : ℕ) (ls : List ℤ) → below (lits_of_members ls).positive variables ≡ false → Above variables ls
unfolding size
high-member variables ls e =
    let w = high_bit (lits_of_members ls).positive variables (members-held ls).positives e in
    record { member = pos (suc w.0); there = positive-out ls w.0 w.2; above = omega (arith, w.1) }

high-negated : (variables : ℕ) (ls : List ℤ) → below (lits_of_members ls).negative variables ≡ false → Above variables ls
unfolding size
high-negated variables ls e =
    let w = high_bit (lits_of_members ls).negative variables (members-held ls).negatives e in
    record { member = negsuc w.0; there = negative-out ls w.0 w.2; above = omega (arith, w.1) }

meeting : (ls : List ℤ) → (bit_and (lits_of_members ls).positive (lits_of_members ls).negative ≡ 0 → ⊥) → BothWays ls
meeting ls h =
    let p = (lits_of_members ls).positive in
    let n = (lits_of_members ls).negative in
    let v = count_trailing_zeros 64 (bit_and p n) in
    let there = sym (has-and p n v) ∙ trailing-in 64 (and-lt-left 64 n (members-held ls).positives) (positive_of (bit_and p n) h) in
    record {
      variable = suc v;
      some = omega arith;
      plain = positive-out ls v (and_left (has p v) (has n v) there);
      negated = negative-out ls v (and_right (has p v) (has n v) there);
    }

-- the fault is there where one of the two is
pub bad-found : (variables : ℕ) (ls : List ℤ) → bad_members variables ls ≡ true → Above variables ls ⊎ BothWays ls
unfolding bad_members bad_lits none
bad-found variables ls e =
    let p = (lits_of_members ls).positive in
    let n = (lits_of_members ls).negative in
    ⊎_elim
    (λ (t : some_above variables ls ≡ true).
    let w = above-out variables ls t in
    inl (record { member = w.0; there = w.1; above = ltb-true variables (size w.0) w.2 }))
    (λ (t : (not (eqb (bit_and p n) 0) || not (below p variables && below n variables)) ≡ true).
    ⊎_elim
    (λ (x : not (eqb (bit_and p n) 0) ≡ true). inr (meeting ls (eqb-false (bit_and p n) 0 (not-true (eqb (bit_and p n) 0) x))))
    (λ (x : not (below p variables && below n variables) ≡ true). inl (either (below p variables) refl (below n variables) refl x))
    (or_cases (not (eqb (bit_and p n) 0)) (not (below p variables && below n variables)) t))
    (or_cases (some_above variables ls) (not (eqb (bit_and p n) 0) || not (below p variables && below n variables)) e)
  where
    either : (a : Bool) → below (lits_of_members ls).positive variables ≡ a → (b : Bool) → below (lits_of_members ls).negative variables ≡ b
        → not (a && b) ≡ true → Above variables ls
    either false x b y q = high-member variables ls x
    either true x false y q = high-negated variables ls y
    either true x true y q = impossible (cc)

-- and only there
pub above-bad : (variables : ℕ) (ls : List ℤ) → Above variables ls → bad_members variables ls ≡ true
unfolding bad_members
above-bad variables ls a = rw (above_in variables a.member ls a.there (lt-ltb variables (size a.member) a.above))

met-bad : (variables : ℕ) (ls : List ℤ) (v : ℕ) → v < most_variables → Memᴰ (pos (suc v)) ls → Memᴰ (negsuc v) ls → bad_members variables ls ≡ true
unfolding bad_members bad_lits none
met-bad variables ls v small p n =
    let a = (lits_of_members ls).positive in
    let b = (lits_of_members ls).negative in
    let there : has (bit_and a b) v ≡ true = has-and a b v ∙ both (positive-in ls v small p) (negative-in ls v small n) in
    let some : eqb (bit_and a b) 0 ≡ false =
    ne_eqb (bit_and a b) 0 (λ z. clash (subst (λ (m : ℕ). has m v ≡ true) z there) (has-zero v)) in
    rw some (or-true (some_above variables ls))

pub both-bad : (variables : ℕ) (ls : List ℤ) → variables ≤ most_variables → BothWays ls → bad_members variables ls ≡ true
unfolding size
both-bad variables ls few b = go b.variable b.some b.plain b.negated
  where
    go : (v : ℕ) → 0 < v → Memᴰ (pos v) ls → Memᴰ (neg_ℤ (pos v)) ls → bad_members variables ls ≡ true
    go zero some p n = absurd (omega arith)
    go (suc v) some p n =
        ⊎_elim
        (λ (l : v < most_variables). met-bad variables ls v l p n)
        (λ (l : most_variables ≤ v). above-bad variables ls (record { member = pos (suc v); there = p; above = omega arith }))
        (lt-or-le v most_variables)
