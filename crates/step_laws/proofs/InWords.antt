-- Rows that fit a kind in document 01's words fit it by the definitions of `rules`, which then give what document 01 says.
-- A row (not li, l(i+1)) less not li is l(i+1), so the recursion finds the very literals; a merge's clash is the bit of its variable.
use Prim.Native.Nat.{ℕ, zero, suc, ◌+◌, ◌-◌}
use mathlib.Core.Path.{◌≡◌, refl, sym, ap, ap₂, ◌∙◌}
use mathlib.Core.Logic.{⊎_elim}
use mathlib.Core.Bool.{Bool, true, false, ◌&&◌, ◌||◌, or-true}
use mathlib.Core.List.{List, [], ◌∷◌}
use native.Mathlib.Nat.{le_refl, le_step}
use native.Mathlib.Omega.{arith}
use borrow.Author.Tests.{eq-eqb}
use lib.Bits.{bit_and, bit_or, or_comm, and_comm, or_zero_r}
use lib.IntN.{ℤ}
use Rattle.masks.specs.Masks.{has, without, count}
use Rattle.masks.proofs.Choice.{cases, both, same1}
use Rattle.masks.proofs.Bits.{has-ext, has-and, has-or, has-zero}
use Rattle.masks.proofs.Sets.{apart, apart_of, without-or-right, without-apart}
use Rattle.literals.specs.declared.Lits.{Lits}
use Rattle.literals.specs.Literal.{is_positive, is_literal, opposite, bit_of, lits_of}
use Rattle.literals.specs.Lits.{no_lits, negated_lits, together, less, variables_of, is_one}
use Rattle.literals.proofs.OneBit.{bit-one, bit-opposite}
use Rattle.literals.proofs.TwoMasks.{lits-ext, eq-same, lits-opposite, lits-positive, lits-negative, negated-together}
use Rattle.literals.proofs.OneLiteral.{lits-one}
use Rattle.rules.specs.Rewrite.{shows, lit, links, compensating, clash as meet, apart_from, forked, merges, shifts, chains, forks, fits, gives}
use Rattle.step_laws.specs.StepTable.{Pair, Linked, between, Fits, merge, shift, chain, fork}
use Rattle.step_laws.proofs.Shown.{masks-apart, pair-shows, pair-less, opposite-is}

module _ (f : ℕ → Lits) (l : ℕ → ℤ) where
  linked-before : (k : ℕ) → Linked f (suc k) l → Linked f k l
  linked-before k w = record { literals = λ i h. w.literals i (le_step h); first = w.first; rows = λ i h. w.rows i (le_step h) }

  -- the literals found are those shown
  pub linked-lit : (k : ℕ) → Linked f k l → lit f k ≡ lits_of (l k)
  unfolding lit
  linked-lit zero w = w.first
  linked-lit (suc k) w =
      let literal = w.literals k (omega arith) in
      ap (λ (x : Lits). less (f (suc k)) (negated_lits x)) (linked-lit k (linked-before k w))
      ∙ ap (less (f (suc k))) (sym (lits-opposite (l k) literal))
      ∙ pair-less (f (suc k)) (opposite (l k)) (l (suc k)) (opposite-is (l k) literal) (w.literals (suc k) (le_refl (suc k))) (w.rows k (le_refl (suc k)))

  pub linked-not : (k : ℕ) → Linked f k l → negated_lits (lit f k) ≡ lits_of (opposite (l k))
  linked-not k w = ap negated_lits (linked-lit k w) ∙ sym (lits-opposite (l k) (w.literals k (le_refl k)))

  pub linked-links : (k : ℕ) → Linked f k l → links f k ≡ true
  unfolding links
  linked-links zero w = ap is_one w.first ∙ lits-one (l 0) (w.literals 0 (le_refl 0))
  linked-links (suc k) w =
      let before = linked-before k w in
      both (linked-links k before)
      (rw (linked-not k before, linked-lit (suc k) w)
      (pair-shows (f (suc k)) (opposite (l k)) (l (suc k)) (opposite-is (l k) (before.literals k (le_refl k)))
      (w.literals (suc k) (le_refl (suc k))) (w.rows k (le_refl (suc k)))))

  pub linked-between : (k : ℕ) → Linked f k l → compensating f k ≡ between l k
  unfolding compensating between
  linked-between zero w = refl
  linked-between (suc k) w =
      let before = linked-before k w in
      rw (linked-between k before, linked-lit k before, linked-not (suc k) w)

-- ---- merge

-- bits of two masks that are apart, and of a third in both
meet-is : (x y b : ℕ) → bit_and x y ≡ 0 → bit_or (bit_and (bit_or x b) (bit_or y b)) (bit_and y x) ≡ b
meet-is x y b e = has-ext (λ v. simp (has-or, has-and) (third (has x v) (has y v) (has b v) (sym (has-and x y v) ∙ ap (λ (m : ℕ). has m v) e ∙ has-zero v)))
  where
    third : (p q r : Bool) → (p && q) ≡ false → ((p || r) && (q || r) || q && p) ≡ r
    third true q r h = rw h (same1 (λ r. (true || r) && (false || r) || false && true) (λ r. r) tt r)
    third false true r h = same1 (λ r. (false || r) && (true || r) || true && false) (λ r. r) tt r
    third false false r h = same1 (λ r. (false || r) && (false || r) || false && false) (λ r. r) tt r

module _ (rest : Lits) (a : ℤ) (literal : is_literal a ≡ true) (own : bit_and (variables_of rest) (bit_of a) ≡ 0) where
  part_apart : (m : ℕ) → ((v : ℕ) → has m v ≡ true → has (variables_of rest) v ≡ true) → bit_and m (bit_of a) ≡ 0
  part_apart m h = apart_of m (bit_of a) (λ v k. apart (variables_of rest) (bit_of a) own v (h v k))

  positive-apart : bit_and rest.positive (bit_of a) ≡ 0
  unfolding variables_of
  positive-apart = part_apart rest.positive (λ v h. has-or rest.positive rest.negative v ∙ rw h)

  negative-apart : bit_and rest.negative (bit_of a) ≡ 0
  unfolding variables_of
  negative-apart = part_apart rest.negative (λ v h. has-or rest.positive rest.negative v ∙ rw h (or-true (has rest.positive v)))

  -- without the variable, the rest
  pub rest-left : apart_from (bit_of a) (together rest (lits_of a)) ≡ rest
  unfolding apart_from together
  rest-left =
      let put : without (bit_or rest.positive (bit_of a)) (bit_of a) ≡ rest.positive =
      without-or-right rest.positive (bit_of a) ∙ without-apart rest.positive (bit_of a) positive-apart in
      let set : without (bit_or rest.negative (bit_of a)) (bit_of a) ≡ rest.negative =
      without-or-right rest.negative (bit_of a) ∙ without-apart rest.negative (bit_of a) negative-apart in
      ⊎_elim
      (λ t. rw (lits-positive a t) (lits-ext _ rest put
      (ap (λ (m : ℕ). without m (bit_of a)) (or_zero_r rest.negative) ∙ without-apart rest.negative (bit_of a) negative-apart)))
      (λ t. rw (lits-negative a t) (lits-ext _ rest
      (ap (λ (m : ℕ). without m (bit_of a)) (or_zero_r rest.positive) ∙ without-apart rest.positive (bit_of a) positive-apart) set))
      (cases (is_positive a))

  pub meet-bit : bit_and rest.positive rest.negative ≡ 0 → meet (together rest (lits_of a)) (together rest (lits_of (opposite a))) ≡ bit_of a
  unfolding meet together negated_lits
  meet-bit once =
      let p : ℕ = rest.positive in
      let n : ℕ = rest.negative in
      let b : ℕ = bit_of a in
      rw (lits-opposite a literal)
      (⊎_elim
      (λ t. rw (lits-positive a t) (ap₂ (λ (x y : ℕ). bit_or (bit_and (bit_or p b) (bit_or n b)) (bit_and x y)) (or_zero_r n) (or_zero_r p) ∙ meet-is p n b once))
      (λ t. rw (lits-negative a t) (ap₂ (λ (x y : ℕ). bit_or (bit_and x y) (bit_and (bit_or n b) (bit_or p b))) (or_zero_r p) (or_zero_r n)
      ∙ or_comm (bit_and p n) (bit_and (bit_or n b) (bit_or p b)) ∙ meet-is n p b (and_comm n p ∙ once)))
      (cases (is_positive a)))

-- ---- every kind

module _ (f : ℕ → Lits) where
  -- a merge's rest is sound where its rows are
  rest-once : (rest : Lits) (a : ℤ) → f 0 ≡ together rest (lits_of a) → bit_and (f 0).positive (f 0).negative ≡ 0 → bit_and rest.positive rest.negative ≡ 0
  unfolding together
  rest-once rest a e once =
      let all : bit_and (bit_or rest.positive (lits_of a).positive) (bit_or rest.negative (lits_of a).negative) ≡ 0 = rw e at once in
      and_comm rest.positive rest.negative ∙ masks-apart rest.positive (lits_of a).positive rest.negative (lits_of a).negative all

  -- a fork's b and c
  forked-is : (l : ℕ → ℤ) (k i : ℕ) (b : ℤ) → Linked f k l → is_literal b ≡ true → Pair (f (k + i)) (opposite (l k)) b → forked f k i ≡ lits_of b
  unfolding forked
  forked-is l k i b w hb p =
      ap (less (f (k + i))) (linked-not f l k w) ∙ pair-less (f (k + i)) (opposite (l k)) b (opposite-is (l k) (w.literals k (le_refl k))) hb p

  -- no variable stands both ways in the first row
  pub words-fit : bit_and (f 0).positive (f 0).negative ≡ 0 → {kind named : ℕ} {rows : List Lits} → Fits f kind named rows
      → (fits kind named f ≡ true) × (gives kind named f ≡ rows)
  unfolding fits gives merges shifts chains forks
  words-fit once (merge a rest literal own p q) =
      let v : meet (f 0) (f 1) ≡ bit_of a = ap₂ meet p q ∙ meet-bit rest a literal own (rest-once rest a p once) in
      let left : apart_from (meet (f 0) (f 1)) (f 0) ≡ rest = ap₂ apart_from v p ∙ rest-left rest a literal own in
      let right : apart_from (meet (f 0) (f 1)) (f 1) ≡ rest =
      ap₂ apart_from (v ∙ sym (bit-opposite a)) q ∙ rest-left rest (opposite a) (opposite-is a literal) (rw (bit-opposite a) own) in
      (both (eq-eqb (count (meet (f 0) (f 1))) 1 (ap count v ∙ bit-one a literal)) (eq-same _ _ (left ∙ sym right)), ap (λ (x : Lits). x ∷ []) left)
  words-fit once (shift l w) =
      let before = linked-before f l 0 w in
      (linked-links f l 1 w, ap₂ (λ (x y : Lits). x ∷ y ∷ []) (ap₂ together (linked-lit f l 0 before) (linked-not f l 1 w)) (linked-lit f l 1 w))
  words-fit once (chain l k w e) =
      let k2 : suc (suc k) - 2 ≡ k = omega arith in
      rw k2 (
        both (linked-links f l k w) (eq-same (f (k + 1)) (negated_lits (lit f k)) (e ∙ sym (linked-not f l k w))),
        ap (λ (x : List Lits). no_lits ∷ x) (linked-between f l k w),
      )
  words-fit once (fork l k b c w hb hc p q r) =
      let k4 : k + 4 - 4 ≡ k = omega arith in
      let literal = opposite-is (l k) (w.literals k (le_refl k)) in
      let a = linked-lit f l k w in
      let na = linked-not f l k w in
      let eb : forked f k 1 ≡ lits_of b = forked-is l k 1 b w hb p in
      let ec : forked f k 2 ≡ lits_of c = forked-is l k 2 c w hc q in
      let nb : negated_lits (forked f k 1) ≡ lits_of (opposite b) = ap negated_lits eb ∙ sym (lits-opposite b hb) in
      let nc : negated_lits (forked f k 2) ≡ lits_of (opposite c) = ap negated_lits ec ∙ sym (lits-opposite c hc) in
      let s1 : shows (f (k + 1)) (negated_lits (lit f k)) (forked f k 1) ≡ true = rw (na, eb) (pair-shows (f (k + 1)) (opposite (l k)) b literal hb p) in
      let s2 : shows (f (k + 2)) (negated_lits (lit f k)) (forked f k 2) ≡ true = rw (na, ec) (pair-shows (f (k + 2)) (opposite (l k)) c literal hc q) in
      let s3 : shows (f (k + 3)) (negated_lits (forked f k 1)) (negated_lits (forked f k 2)) ≡ true =
      rw (nb, nc) (pair-shows (f (k + 3)) (opposite b) (opposite c) (opposite-is b hb) (opposite-is c hc) r) in
      rw k4 (
        both (linked-links f l k w) (both s1 (both s2 s3)),
        rw (linked-between f l k w, negated-together (forked f k 1) (forked f k 2), nb, nc, na, a, eb, ec),
      )
