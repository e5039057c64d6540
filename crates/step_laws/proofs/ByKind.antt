-- What each kind of rewriting owes: its new rows are sound, so many are stored and so many empty as the step table says,
-- no more are given than named, and every reading misses as many of the named remnants as of the rows given.
-- Merge by the bit of its variable, shift and chain by telescoping, fork by eight cases at its end.
use Prim.Native.Nat.{ℕ, zero, suc, ◌+◌, ◌-◌, ◌≤◌, ◌<◌, ◌^◌}
use mathlib.Core.Path.{◌≡◌, refl, sym, ap, ◌∙◌}
use mathlib.Core.Logic.{◌⊎◌, inl, inr, ⊎_elim}
use mathlib.Core.Bool.{Bool, true, false, cond, ◌&&◌}
use mathlib.Core.List.{List, [], ◌∷◌, ◌++◌}
use native.Mathlib.Nat.{le_step, le_refl}
use native.Mathlib.Omega.{arith}
use borrow.Author.Tests.{eqb-true, leb-true}
use lib.Bits.{bit_and}
use lib.Count.{count_trailing_zeros}
use lib.Dec.{eqb, leb}
use lib.ListN.{length, length-append}
use Rattle.masks.specs.Masks.{has, count}
use Rattle.masks.specs.Sums.{sum}
use Rattle.masks.proofs.Choice.{cases, and_left, and_right}
use Rattle.masks.proofs.Bits.{has-pow-same}
use Rattle.masks.proofs.Counts.{count-one}
use Rattle.masks.proofs.Sums.{sum-empty, sum-suc}
use Rattle.literals.specs.declared.Lits.{Lits}
use Rattle.literals.specs.Lits.{no_lits, negated_lits, together, variables_of, is_empty, same_lits}
use Rattle.literals.proofs.TwoMasks.{same-eq, variables-negated}
use Rattle.rules.specs.Rewrite.{shows, lit, links, compensating, clash as meet, apart_from, forked}
use Rattle.rules.specs.Steps.{fewest, most, fewer_added, concedes, count_fits}
use Rattle.rules.specs.Rewrite.{merges, shifts, chains, forks, fits, gives}
use Rattle.rules.specs.Steps.{stored, empties}
use Rattle.desk_laws.proofs.Formed.{Sound, sound-held}
use Rattle.desk_laws.proofs.Weights.{missed}
use Rattle.step_laws.proofs.Balance.{total}
use Rattle.desk_laws.proofs.Readings.{one-alone}
use Rattle.step_laws.proofs.Sounds.{none-sound, negated-sound, less-sound, apart-sound, together-sound, one-some, together-some}
use Rattle.step_laws.proofs.Sounds.{shows-facts, Each, each_append, empties-append, stored-count}
use Rattle.step_laws.proofs.Linked.{lit-sound, links-before, links-one, links-alone, links-apart, telescoped, compensating-sound}
use Rattle.step_laws.proofs.Linked.{compensating-full, compensating-count}
use Rattle.step_laws.proofs.Merged.{meet-held, merged}
use Rattle.step_laws.proofs.Closing.{apart-together, chain-closes, fork-closes}

-- what a rewriting of this kind owes, named rows with these remnants
pub record Yields (n kind named : ℕ) (f : ℕ → Lits) : Type 0 where
  pub sound : Each (Sound n) (gives kind named f)
  pub fewer : length (gives kind named f) ≤ named
  pub adds : (length (stored (gives kind named f)) + fewer_added kind ≡ named) ⊎ ((kind ≡ 1) × (length (stored (gives kind named f)) ≡ 0))
  pub owed : empties (gives kind named f) ≡ cond (eqb kind 1 && eqb (length (stored (gives kind named f))) 0) 1 (concedes kind)
  pub balanced : (reading : ℕ) → sum named (λ i. missed reading (f i)) ≡ total (missed reading) (gives kind named f)

first-empty : (ls : List Lits) → empties ls ≡ 0 → empties (no_lits ∷ ls) ≡ 1
unfolding empties no_lits is_empty
first-empty ls e = omega arith

pair-full : (a b : Lits) → is_empty a ≡ false → is_empty b ≡ false → empties (a ∷ b ∷ []) ≡ 0
unfolding empties
pair-full a b p q = rw (p, q)

pub by_kind : (P : ℕ → Type 0) → P 1 → P 2 → P 3 → P 4 → (kind : ℕ) → 1 ≤ kind → kind ≤ 4 → P kind
by_kind P a b c d zero l h = absurd (omega arith)
by_kind P a b c d (suc zero) l h = a
by_kind P a b c d (suc (suc zero)) l h = b
by_kind P a b c d (suc (suc (suc zero))) l h = c
by_kind P a b c d (suc (suc (suc (suc zero)))) l h = d
by_kind P a b c d (suc (suc (suc (suc (suc k))))) l h = absurd (omega arith)

-- the counts of rows named
pub counted : (kind named : ℕ) → count_fits kind named ≡ true → (fewest kind ≤ named) × (named ≤ most kind)
unfolding count_fits
counted kind named e = (
  leb-true (fewest kind) named (and_left (leb (fewest kind) named) (leb named (most kind)) e),
  leb-true named (most kind)
      (and_right (leb (fewest kind) named) (leb named (most kind)) e),
)

module _ (n : ℕ) (few : n ≤ 64) (f : ℕ → Lits) where
  -- ---- shift

  shift-yields : ((i : ℕ) → i < 2 → Sound n (f i)) → shifts f ≡ true → Yields n 2 2 f
  unfolding shifts gives stored empties total fewer_added concedes compensating
  shift-yields s e =
      let full : is_empty (together (lit f 0) (negated_lits (lit f 1))) ≡ false =
      together-some (lit f 0) (negated_lits (lit f 1)) (one-some (lit f 0) (links-one n few f 0 (links-before n few f 0 e))) in
      let last : is_empty (lit f 1) ≡ false = one-some (lit f 1) (links-one n few f 1 e) in
      let apart : bit_and (variables_of (lit f 0)) (variables_of (negated_lits (lit f 1))) ≡ 0 = rw (variables-negated (lit f 1)) (links-apart n few f 0 e) in
      record {
        sound = (together-sound (lit-sound n few f 0 (λ i l. s i (le_step l))) (negated-sound (lit-sound n few f 1 s)) apart, (lit-sound n few f 1 s, tt));
        fewer = le_refl 2;
        adds = inl (rw (full, last));
        owed = rw (full, last);
        balanced = λ reading. omega (arith, telescoped n few f reading 1 s e);
      }

  -- ---- chain

  chain-gives : (k : ℕ) → gives 3 (suc (suc k)) f ≡ no_lits ∷ compensating f k
  unfolding gives
  chain-gives k = let e : suc (suc k) - 2 ≡ k = omega arith in ap (λ (j : ℕ). no_lits ∷ compensating f j) e

  chain-yields : (k : ℕ) → ((i : ℕ) → i < suc (suc k) → Sound n (f i)) → chains f k ≡ true → Yields n 3 (suc (suc k)) f
  unfolding chains fewer_added concedes
  chain-yields k s e =
      let before : (i : ℕ) → i < suc k → Sound n (f i) = λ i l. s i (le_step l) in
      let linked = and_left (links f k) (same_lits (f (k + 1)) (negated_lits (lit f k))) e in
      let end : f (k + 1) ≡ negated_lits (lit f k) =
      same-eq (f (k + 1)) (negated_lits (lit f k)) (and_right (links f k) (same_lits (f (k + 1)) (negated_lits (lit f k))) e) in
      let none_first : empties (no_lits ∷ compensating f k) ≡ 1 = first-empty (compensating f k) (compensating-full n few f k linked) in
      let long : length (no_lits ∷ compensating f k) ≡ suc k = ap suc (compensating-count n few f k) in
      let kept = stored-count (no_lits ∷ compensating f k) in
      record {
        sound = rw (chain-gives k) (none-sound n, compensating-sound n few f k before linked);
        fewer = rw (chain-gives k) (omega arith);
        adds = inl (rw (chain-gives k) (omega arith));
        owed = rw (chain-gives k) none_first;
        balanced =
            λ reading. rw (chain-gives k) (chain-closes f k reading (telescoped n few f reading k before linked) (links-alone n few f k before linked) end);
      }

  -- ---- fork

  abbrev fork_rows : ℕ → List Lits
  fork_rows k =
      let bc : Lits = together (forked f k 1) (forked f k 2) in
      no_lits ∷ (compensating f k ++ (together (lit f k) (negated_lits bc) ∷ together (negated_lits (lit f k)) bc ∷ []))

  fork-gives : (k : ℕ) → gives 4 (k + 4) f ≡ fork_rows k
  unfolding gives
  fork-gives k = let e : k + 4 - 4 ≡ k = omega arith in ap fork_rows e

  fork-yields : (k : ℕ) → ((i : ℕ) → i < k + 4 → Sound n (f i)) → forks f k ≡ true → Yields n 4 (k + 4) f
  unfolding forks fewer_added concedes
  fork-yields k s e =
      let a : Lits = lit f k in
      let b : Lits = forked f k 1 in
      let c : Lits = forked f k 2 in
      let t1 : Bool = shows (f (k + 1)) (negated_lits a) b in
      let t2 : Bool = shows (f (k + 2)) (negated_lits a) c in
      let t3 : Bool = shows (f (k + 3)) (negated_lits b) (negated_lits c) in
      let linked = and_left (links f k) (t1 && (t2 && t3)) e in
      let e1 = and_right (links f k) (t1 && (t2 && t3)) e in
      let e2 = and_right t1 (t2 && t3) e1 in
      let s1 = shows-facts (f (k + 1)) (negated_lits a) b (and_left t1 (t2 && t3) e1) in
      let s2 = shows-facts (f (k + 2)) (negated_lits a) c (and_left t2 t3 e2) in
      let s3 = shows-facts (f (k + 3)) (negated_lits b) (negated_lits c) (and_right t2 t3 e2) in
      let before : (i : ℕ) → i < suc k → Sound n (f i) = λ i l. s i (omega arith) in
      let sa : Sound n a = lit-sound n few f k before in
      let sb : Sound n b = branch k 1 (s (k + 1) (omega arith)) in
      let sc : Sound n c = branch k 2 (s (k + 2) (omega arith)) in
      let ab : bit_and (variables_of a) (variables_of b) ≡ 0 = rw (← variables-negated a) s1.apart in
      let ac : bit_and (variables_of a) (variables_of c) ≡ 0 = rw (← variables-negated a) s2.apart in
      let bc : bit_and (variables_of b) (variables_of c) ≡ 0 = rw (← variables-negated b, ← variables-negated c) s3.apart in
      let sbc : Sound n (together b c) = together-sound sb sc bc in
      let a-bc : bit_and (variables_of a) (variables_of (together b c)) ≡ 0 = apart-together (variables_of a) b c ab ac in
      let r1 : Lits = together a (negated_lits (together b c)) in
      let r2 : Lits = together (negated_lits a) (together b c) in
      let one-a = links-one n few f k linked in
      let f1 : is_empty r1 ≡ false = together-some a (negated_lits (together b c)) (one-some a one-a) in
      let f2 : is_empty r2 ≡ false = together-some (negated_lits a) (together b c) (one-some (negated_lits a) s1.first) in
      let ends : empties (r1 ∷ r2 ∷ []) ≡ 0 = pair-full r1 r2 f1 f2 in
      let whole : List Lits = compensating f k ++ (r1 ∷ r2 ∷ []) in
      let full : empties whole ≡ 0 = empties-append (compensating f k) (r1 ∷ r2 ∷ []) ∙ omega (arith, compensating-full n few f k linked) in
      let none_first : empties (no_lits ∷ whole) ≡ 1 = first-empty whole full in
      let long : length (no_lits ∷ whole) ≡ k + 3 = ap suc (length-append (compensating f k) (r1 ∷ r2 ∷ [])) ∙ omega (arith, compensating-count n few f k) in
      let kept = stored-count (no_lits ∷ whole) in
      record {
        sound = rw (fork-gives k) (
          none-sound n,
          each_append (Sound n) (compensating f k) (r1 ∷ r2 ∷ []) (compensating-sound n few f k before linked) (
            together-sound sa (negated-sound sbc) (rw (variables-negated (together b c)) a-bc),
            (together-sound (negated-sound sa) sbc (rw (variables-negated a) a-bc), tt),
          ),
        );
        fewer = rw (fork-gives k) (omega arith);
        adds = inl (rw (fork-gives k) (omega arith));
        owed = rw (fork-gives k) none_first;
        balanced = λ reading.
            rw (fork-gives k)
            (fork-closes f k reading a b c (telescoped n few f reading k before linked)
            (one-alone a (sound-held few sa) one-a) (one-alone b (sound-held few sb) s1.second) (one-alone c (sound-held few sc) s2.second)
            s1.whole s2.whole s3.whole);
      }
    where
      branch : (k i : ℕ) → Sound n (f (k + i)) → Sound n (forked f k i)
      branch k i h = unfold forked in less-sound (negated_lits (lit f k)) h

  -- ---- merge

  merge-yields : ((i : ℕ) → i < 2 → Sound n (f i)) → merges f ≡ true → Yields n 1 2 f
  unfolding merges gives total stored empties fewer_added concedes
  merge-yields s e =
      let v : ℕ = meet (f 0) (f 1) in
      let rest : Lits = apart_from v (f 0) in
      let one : count v ≡ 1 = eqb-true (count v) 1 (and_left (eqb (count v) 1) (same_lits rest (apart_from v (f 1))) e) in
      let same : rest ≡ apart_from v (f 1) = same-eq rest (apart_from v (f 1)) (and_right (eqb (count v) 1) (same_lits rest (apart_from v (f 1))) e) in
      let t : ℕ = count_trailing_zeros 64 v in
      let is : v ≡ 2 ^ t = count-one (meet-held (f 1) (sound-held few (s 0 (omega arith)))) one in
      let there : has v t ≡ true = ap (λ (m : ℕ). has m t) is ∙ has-pow-same t in
      let alike : apart_from (2 ^ t) (f 0) ≡ apart_from (2 ^ t) (f 1) =
      ap (λ (m : ℕ). apart_from m (f 0)) (sym is) ∙ same ∙ ap (λ (m : ℕ). apart_from m (f 1)) is in
      record {
        sound = (apart-sound v (s 0 (omega arith)), tt);
        fewer = omega arith;
        adds = ⊎_elim (λ q. inr (refl, rw q)) (λ q. inl (rw q)) (cases (is_empty rest));
        owed = ⊎_elim (λ q. rw q) (λ q. rw q) (cases (is_empty rest));
        balanced = λ reading.
            let m : ℕ → ℕ = λ i. missed reading (f i) in
            omega (
              arith,
              sum-suc 1 m,
              sum-suc 0 m,
              sum-empty m,
              merged (s 0 (omega arith)) (s 1 (omega arith)) t reading there alike,
              ap (λ (x : ℕ). missed reading (apart_from x (f 0))) is,
            );
      }

  -- ---- every kind

  pub yields : (kind named : ℕ) → 1 ≤ kind → kind ≤ 4 → count_fits kind named ≡ true → ((i : ℕ) → i < named → Sound n (f i)) → fits kind named f ≡ true
      → Yields n kind named f
  unfolding fits fewest most
  yields kind named l h =
      by_kind (λ j. count_fits j named ≡ true → ((i : ℕ) → i < named → Sound n (f i)) → fits j named f ≡ true → Yields n j named f)
      (λ c s e. let q : named ≡ 2 = omega (arith, counted 1 named c) in rw q (merge-yields (λ i k. s i (omega arith)) e))
      (λ c s e. let q : named ≡ 2 = omega (arith, counted 2 named c) in rw q (shift-yields (λ i k. s i (omega arith)) e))
      (λ c s e. let q : named ≡ suc (suc (named - 2)) = omega (arith, counted 3 named c) in rw q (chain-yields (named - 2) (λ i k. s i (omega arith)) e))
      (λ c s e. let q : named ≡ named - 4 + 4 = omega (arith, counted 4 named c) in rw q (fork-yields (named - 4) (λ i k. s i (omega arith)) e))
      kind l h
