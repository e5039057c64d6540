-- The other way round: sound remnants that fit a kind by the definitions of `rules` fit it in document 01's words, and what is given is what the table says.
-- A set of one literal names that literal, so the literals found are literals shown; a merge's variable is the one bit of the clash.
use Prim.Native.Nat.{ℕ, zero, suc, ◌+◌, ◌-◌, ◌≤◌, ◌<◌, ◌^◌}
use mathlib.Core.Path.{◌≡◌, refl, sym, ap, ap₂, ◌∙◌, subst}
use mathlib.Core.Logic.{⊎_elim}
use mathlib.Core.Bool.{Bool, true, false, cond, ◌&&◌}
use mathlib.Core.List.{List, [], ◌∷◌}
use native.Mathlib.Nat.{le_step, eq-or-lt_of_le, le_of_suc-le-suc, le_trans}
use native.Mathlib.Omega.{arith}
use borrow.Author.Tests.{eqb-true, eq-eqb, lt-ltb, ne_eqb}
use lib.Arith.{le-zero}
use lib.Bits.{bit_and, bit_or, or_zero_r, or_zero_l}
use lib.Count.{count_trailing_zeros}
use lib.Dec.{eqb}
use lib.IntN.{ℤ, pos, negsuc}
use lib.Pow.{pow_pos, pow-lt}
use Rattle.masks.specs.Masks.{has, none, count}
use Rattle.masks.proofs.Choice.{cases, and_left, and_right, or_cases}
use Rattle.masks.proofs.Bits.{has-and, has-or, has-pow-same}
use Rattle.masks.proofs.Sets.{apart-without, or-without}
use Rattle.masks.proofs.Counts.{count-zero, count-pow, count-one, trailing-pow, trailing_lt}
use Rattle.literals.specs.declared.Lits.{Lits}
use Rattle.literals.specs.Literal.{size, is_positive, is_literal, opposite, bit_of, lits_of}
use Rattle.literals.specs.Lits.{negated_lits, together, variables_of, is_one, same_lits}
use Rattle.literals.proofs.Opposites.{literal-sized, by-sign-and-size}
use Rattle.literals.proofs.OneBit.{bit-literal, place-below}
use Rattle.literals.proofs.TwoMasks.{Held, same-eq, lits-opposite, lits-positive, lits-negative, variables-lits}
use Rattle.literals.proofs.OneLiteral.{one-lits}
use Rattle.rules.specs.Rewrite.{shows, lit, links, clash as meet, apart_from, forked, merges, shifts, chains, forks, fits, gives}
use Rattle.rules.specs.Steps.{fewest, most, count_fits}
use Rattle.step_laws.specs.StepTable.{Pair, Linked, Fits, merge, shift, chain, fork}
use Rattle.desk_laws.proofs.Formed.{Sound, sound-held}
use Rattle.step_laws.proofs.Sounds.{less-sound, shows-facts}
use Rattle.step_laws.proofs.Linked.{first-lit, lit-sound, links-before, links-one}
use Rattle.step_laws.proofs.Merged.{meet-held, split-positive, split-negative}
use Rattle.step_laws.proofs.ByKind.{by_kind, counted}
use Rattle.step_laws.proofs.Shown.{shows-pair, opposite-is}
use Rattle.step_laws.proofs.InWords.{linked-lit, words-fit}

-- ---- the literal of a set of one

unfoldable pub literal_of : Lits → ℤ
literal_of r = cond (none r.positive) (negsuc (count_trailing_zeros 64 r.negative)) (pos (suc (count_trailing_zeros 64 r.positive)))

pub record Names (r : Lits) : Type 0 where
  pub literal : is_literal (literal_of r) ≡ true
  pub alone : r ≡ lits_of (literal_of r)

-- a literal's own set names it
pub literal-again : (z : ℤ) → is_literal z ≡ true → literal_of (lits_of z) ≡ z
unfolding literal_of none size
literal-again z h =
    let bit = bit-literal z h in
    let trail : count_trailing_zeros 64 (bit_of z) ≡ size z - 1 = ap (count_trailing_zeros 64) bit ∙ trailing-pow 64 (size z - 1) (place-below z h) in
    ⊎_elim
    (λ t. rw (lits-positive z t, ne_eqb (bit_of z) 0 (λ q. omega (arith, bit, pow_pos (size z - 1))), trail)
    (by-sign-and-size (pos (suc (size z - 1))) z (up (size z - 1) ∙ sym t) (back z h)))
    (λ t. rw (lits-negative z t, trail) (by-sign-and-size (negsuc (size z - 1)) z (down (size z - 1) ∙ sym t) (back z h)))
    (cases (is_positive z))
  where
    back : (z : ℤ) → is_literal z ≡ true → suc (size z - 1) ≡ size z
    back z h = omega (arith, (literal-sized z h).some)

    up : (n : ℕ) → is_positive (pos (suc n)) ≡ true
    up n = unfold is_positive in lt-ltb 0 (suc n) (omega arith)

    down : (n : ℕ) → is_positive (negsuc n) ≡ false
    down n = unfold is_positive in refl

pub names : (r : Lits) → Held r → is_one r ≡ true → Names r
names r held one =
    let o = one-lits r held one in
    let e : literal_of r ≡ o.0 = ap literal_of o.2 ∙ literal-again o.0 o.1 in
    record { literal = rw e o.1; alone = rw e o.2 }

-- ---- l1 and k rows

module _ (n : ℕ) (few : n ≤ 64) (f : ℕ → Lits) where
  abbrev l : ℕ → ℤ
  l i = literal_of (lit f i)

  links-upto : (k : ℕ) → links f k ≡ true → (i : ℕ) → i ≤ k → links f i ≡ true
  links-upto zero e i h = rw (le-zero h) e
  links-upto (suc k) e i h = ⊎_elim (λ q. rw q e) (λ m. links-upto k (links-before n few f k e) i (le_of_suc-le-suc m)) (eq-or-lt_of_le h)

  named : (k : ℕ) → ((i : ℕ) → i < suc k → Sound n (f i)) → links f k ≡ true → Names (lit f k)
  named k s e = names (lit f k) (sound-held few (lit-sound n few f k s)) (links-one n few f k e)

  -- not li, as a set
  pub opposite-lit : (r : Lits) → Names r → negated_lits r ≡ lits_of (opposite (literal_of r))
  opposite-lit r w = ap negated_lits w.alone ∙ sym (lits-opposite (literal_of r) w.literal)

  -- a row that shows two sets of one literal shows their literals
  shown-pair : (r a b : Lits) → Names a → Names b → shows r (negated_lits a) b ≡ true → Pair r (opposite (literal_of a)) (literal_of b)
  shown-pair r a b p q e =
      shows-pair r (opposite (literal_of a)) (literal_of b) (opposite-is (literal_of a) p.literal) q.literal (rw (← opposite-lit a p, ← q.alone) e)

  pub links-linked : (k : ℕ) → ((i : ℕ) → i < suc k → Sound n (f i)) → links f k ≡ true → Linked f k l
  unfolding links
  links-linked k s e =
      let known : (i : ℕ) → i ≤ k → Names (lit f i) = λ i h. named i (λ j m. s j (omega arith)) (links-upto k e i h) in
      record {
        literals = λ i h. (known i h).literal;
        first = sym (first-lit f) ∙ (known 0 (omega arith)).alone;
        rows = λ i h.
            shown-pair (f (suc i)) (lit f i) (lit f (suc i)) (known i (omega arith)) (known (suc i) h)
            (and_right (links f i) (shows (f (suc i)) (negated_lits (lit f i)) (lit f (suc i))) (links-upto k e (suc i) h));
      }

  -- and no other literals are shown
  pub linked-only : (k : ℕ) (m : ℕ → ℤ) → Linked f k m → (i : ℕ) → i ≤ k → m i ≡ literal_of (lit f i)
  linked-only k m w i h =
      let upto : Linked f i m = record { literals = λ j g. w.literals j (le_trans g h); first = w.first; rows = λ j g. w.rows j (le_trans g h) } in
      sym (literal-again (m i) (w.literals i h)) ∙ sym (ap literal_of (linked-lit f m i upto))

  -- ---- merge

  alone-up : (t : ℕ) → t < 64 → Names (record { positive = 2 ^ t; negative = 0 })
  unfolding is_one
  alone-up t h =
      names _ (record { positives = pow-lt h; negatives = pow_pos 64 }) (eq-eqb (count (2 ^ t) + count 0) 1 (omega (arith, count-pow t h, count-zero)))

  alone-down : (t : ℕ) → t < 64 → Names (record { positive = 0; negative = 2 ^ t })
  unfolding is_one
  alone-down t h =
      names _ (record { positives = pow_pos 64; negatives = pow-lt h }) (eq-eqb (count 0 + count (2 ^ t)) 1 (omega (arith, count-pow t h, count-zero)))

  -- the rest has no literal on the variable
  rest-own : (t : ℕ) (r one : Lits) → Names one → variables_of one ≡ 2 ^ t → bit_and (variables_of (apart_from (2 ^ t) r)) (bit_of (literal_of one)) ≡ 0
  unfolding variables_of apart_from
  rest-own t r one w e =
      let bit : bit_of (literal_of one) ≡ 2 ^ t = sym (variables-lits (literal_of one)) ∙ ap variables_of (sym w.alone) ∙ e in
      rw (bit, ← or-without r.positive r.negative (2 ^ t)) (apart-without (bit_or r.positive r.negative) (2 ^ t))

  merge-at : ((i : ℕ) → i < 2 → Sound n (f i)) → (t : ℕ) → t < 64 → has (meet (f 0) (f 1)) t ≡ true → apart_from (2 ^ t) (f 0) ≡ apart_from (2 ^ t) (f 1)
      → Fits f 1 2 (apart_from (2 ^ t) (f 0) ∷ [])
  unfolding meet negated_lits variables_of
  merge-at s t h there same =
      let rest : Lits = apart_from (2 ^ t) (f 0) in
      let up : Lits = record { positive = 2 ^ t; negative = 0 } in
      let down : Lits = record { positive = 0; negative = 2 ^ t } in
      let u = alone-up t h in
      let w = alone-down t h in
      let s0 = s 0 (omega arith) in
      let s1 = s 1 (omega arith) in
      ⊎_elim
      (λ q.
      let p : (has (f 0).positive t && has (f 1).negative t) ≡ true = sym (has-and (f 0).positive (f 1).negative t) ∙ q in
      merge (literal_of up) rest u.literal (rest-own t (f 0) up u (or_zero_r (2 ^ t)))
      (split-positive s0 t (and_left (has (f 0).positive t) (has (f 1).negative t) p) ∙ ap (together rest) u.alone)
      (split-negative s1 t (and_right (has (f 0).positive t) (has (f 1).negative t) p) ∙ ap₂ together (sym same) (opposite-lit up u)))
      (λ q.
      let p : (has (f 0).negative t && has (f 1).positive t) ≡ true = sym (has-and (f 0).negative (f 1).positive t) ∙ q in
      merge (literal_of down) rest w.literal (rest-own t (f 0) down w (or_zero_l (2 ^ t)))
      (split-negative s0 t (and_left (has (f 0).negative t) (has (f 1).positive t) p) ∙ ap (together rest) w.alone)
      (split-positive s1 t (and_right (has (f 0).negative t) (has (f 1).positive t) p) ∙ ap₂ together (sym same) (opposite-lit down w)))
      (or_cases (has (bit_and (f 0).positive (f 1).negative) t) (has (bit_and (f 0).negative (f 1).positive) t)
      (sym (has-or (bit_and (f 0).positive (f 1).negative) (bit_and (f 0).negative (f 1).positive) t) ∙ there))

  merge-words : ((i : ℕ) → i < 2 → Sound n (f i)) → merges f ≡ true → Fits f 1 2 (apart_from (meet (f 0) (f 1)) (f 0) ∷ [])
  unfolding merges
  merge-words s e =
      let v : ℕ = meet (f 0) (f 1) in
      let rest : Lits = apart_from v (f 0) in
      let one : count v ≡ 1 = eqb-true (count v) 1 (and_left (eqb (count v) 1) (same_lits rest (apart_from v (f 1))) e) in
      let same : rest ≡ apart_from v (f 1) = same-eq rest (apart_from v (f 1)) (and_right (eqb (count v) 1) (same_lits rest (apart_from v (f 1))) e) in
      let t : ℕ = count_trailing_zeros 64 v in
      let held : v < 2 ^ 64 = meet-held (f 1) (sound-held few (s 0 (omega arith))) in
      let is : v ≡ 2 ^ t = count-one held one in
      let some : 0 < v = rw is (pow_pos t) in
      let alike : apart_from (2 ^ t) (f 0) ≡ apart_from (2 ^ t) (f 1) =
      ap (λ (m : ℕ). apart_from m (f 0)) (sym is) ∙ same ∙ ap (λ (m : ℕ). apart_from m (f 1)) is in
      subst (λ (m : ℕ). Fits f 1 2 (apart_from m (f 0) ∷ [])) (sym is)
      (merge-at s t (trailing_lt 64 held some) (ap (λ (m : ℕ). has m t) is ∙ has-pow-same t) alike)

  -- ---- every kind

  -- given is what the words say
  as-given : bit_and (f 0).positive (f 0).negative ≡ 0 → {kind count : ℕ} {rows : List Lits} → Fits f kind count rows → Fits f kind count (gives kind count f)
  as-given once {kind} {count} w = subst (λ (r : List Lits). Fits f kind count r) (sym (words-fit f once w).1) w

  shift-words : ((i : ℕ) → i < 2 → Sound n (f i)) → shifts f ≡ true → Fits f 2 2 (gives 2 2 f)
  unfolding shifts
  shift-words s e = as-given (s 0 (omega arith)).once (shift l (links-linked 1 s e))

  chain-words : (k : ℕ) → ((i : ℕ) → i < suc (suc k) → Sound n (f i)) → chains f k ≡ true → Fits f 3 (suc (suc k)) (gives 3 (suc (suc k)) f)
  unfolding chains
  chain-words k s e =
      let before : (i : ℕ) → i < suc k → Sound n (f i) = λ i h. s i (le_step h) in
      let linked = and_left (links f k) (same_lits (f (k + 1)) (negated_lits (lit f k))) e in
      let end : f (k + 1) ≡ negated_lits (lit f k) =
      same-eq (f (k + 1)) (negated_lits (lit f k)) (and_right (links f k) (same_lits (f (k + 1)) (negated_lits (lit f k))) e) in
      as-given (s 0 (omega arith)).once (chain l k (links-linked k before linked) (end ∙ opposite-lit (lit f k) (named k before linked)))

  fork-words : (k : ℕ) → ((i : ℕ) → i < k + 4 → Sound n (f i)) → forks f k ≡ true → Fits f 4 (k + 4) (gives 4 (k + 4) f)
  unfolding forks forked
  fork-words k s e =
      let a : Lits = lit f k in
      let b : Lits = forked f k 1 in
      let c : Lits = forked f k 2 in
      let t1 : Bool = shows (f (k + 1)) (negated_lits a) b in
      let t2 : Bool = shows (f (k + 2)) (negated_lits a) c in
      let t3 : Bool = shows (f (k + 3)) (negated_lits b) (negated_lits c) in
      let before : (i : ℕ) → i < suc k → Sound n (f i) = λ i h. s i (omega arith) in
      let linked = and_left (links f k) (t1 && (t2 && t3)) e in
      let e1 = and_right (links f k) (t1 && (t2 && t3)) e in
      let e2 = and_right t1 (t2 && t3) e1 in
      let g1 = and_left t1 (t2 && t3) e1 in
      let g2 = and_left t2 t3 e2 in
      let g3 = and_right t2 t3 e2 in
      let na : Names a = named k before linked in
      let nb : Names b =
      names b (sound-held few (less-sound (negated_lits a) (s (k + 1) (omega arith)))) (shows-facts (f (k + 1)) (negated_lits a) b g1).second in
      let nc : Names c =
      names c (sound-held few (less-sound (negated_lits a) (s (k + 2) (omega arith)))) (shows-facts (f (k + 2)) (negated_lits a) c g2).second in
      as-given (s 0 (omega arith)).once
      (fork l k (literal_of b) (literal_of c) (links-linked k before linked) nb.literal nc.literal
      (shown-pair (f (k + 1)) a b na nb g1) (shown-pair (f (k + 2)) a c na nc g2)
      (shows-pair (f (k + 3)) (opposite (literal_of b)) (opposite (literal_of c)) (opposite-is (literal_of b) nb.literal)
      (opposite-is (literal_of c) nc.literal)
      (rw (← opposite-lit b nb, ← opposite-lit c nc) g3)))

  pub fit_words : (kind count : ℕ) → 1 ≤ kind → kind ≤ 4 → count_fits kind count ≡ true → ((i : ℕ) → i < count → Sound n (f i))
      → fits kind count f ≡ true → Fits f kind count (gives kind count f)
  unfolding fits fewest most gives
  fit_words kind count low high =
      by_kind (λ j. count_fits j count ≡ true → ((i : ℕ) → i < count → Sound n (f i)) → fits j count f ≡ true → Fits f j count (gives j count f))
      (λ c s e. let q : count ≡ 2 = omega (arith, counted 1 count c) in rw q (merge-words (λ i k. s i (omega arith)) e))
      (λ c s e. let q : count ≡ 2 = omega (arith, counted 2 count c) in rw q (shift-words (λ i k. s i (omega arith)) e))
      (λ c s e. let q : count ≡ suc (suc (count - 2)) = omega (arith, counted 3 count c) in subst (λ (m : ℕ). Fits f 3 m (gives 3 m f)) (sym q)
      (chain-words (count - 2) (λ i k. s i (omega arith)) e))
      (λ c s e. let q : count ≡ count - 4 + 4 = omega (arith, counted 4 count c) in subst (λ (m : ℕ). Fits f 4 m (gives 4 m f)) (sym q)
      (fork-words (count - 4) (λ i k. s i (omega arith)) e))
      kind low high
