-- Spaces and ends of lines, turn by turn: a turn that finds one, a turn that does not, and where the text ends.
use Rattle.std.specs.Prelude.{None}
use Rattle.std.specs.List.{prefix_len}
use Prim.Native.Nat.{ℕ, zero, suc, ◌+◌, ◌-◌, ◌≤◌, ◌<◌}
use mathlib.Core.Path.{◌≡◌, refl, ap}
use mathlib.Core.Logic.{⊎_elim}
use mathlib.Core.Bool.{Bool, true, false, not, cond}
use mathlib.Core.List.{List}
use native.Mathlib.Omega.{arith}
use borrow.Author.Tests.{eq-eqb, ne_eqb, eqb-true}
use lib.Dec.{eqb}
use lib.ListN.{length, get_or, take, drop, length-drop, drop_of_length-le, get_or-eq_default}
use lib.Seq.{take-length, drop-cons}
use Rattle.masks.proofs.Choice.{cases, lt-or-le, clash}
use Rattle.rules.specs.Text.{space, line_feed}
use Rattle.rules.specs.Reader.{number_at}
use Rattle.rules.specs.WcnfReader.{space_run, parted_at, feed_from}
use Rattle.text_laws.proofs.Stands.{inside}

-- ---- spaces

module _ (s : List ℕ) (at : ℕ) where
  pub run-no : (k : ℕ) → (get_or s at 0 ≡ space → ⊥) → space_run s at k ≡ 0
  unfolding space_run
  run-no zero h = refl
  run-no (suc k) h = rw (ne_eqb (get_or s at 0) space h)

  pub run_past : (k : ℕ) → length s ≤ at → space_run s at k ≡ 0
  run_past k h = run-no k (λ e. omega (arith, get_or-eq_default s 0 h, e))

  pub run-yes : (k : ℕ) → get_or s at 0 ≡ space → space_run s at (suc k) ≡ suc (space_run s (suc at) k)
  unfolding space_run
  run-yes k h = rw (eq-eqb (get_or s at 0) space h)

-- spaces lie within the text
pub run_inside : (k : ℕ) (s : List ℕ) (at : ℕ) → 0 < space_run s at k → at + space_run s at k ≤ length s
unfolding space_run
run_inside zero s at h = absurd (omega arith)
run_inside (suc k) s at h =
    ⊎_elim
    (λ t. more (run_inside k s (suc at)) (eqb-true (get_or s at 0) space t))
    (λ f. absurd (omega (arith, run-no s at (suc k) (λ e. clash (eq-eqb (get_or s at 0) space e) f), h)))
    (cases (eqb (get_or s at 0) space))
  where
    more : (0 < space_run s (suc at) k → suc at + space_run s (suc at) k ≤ length s) → get_or s at 0 ≡ space → at + space_run s at (suc k) ≤ length s
    more ih e =
        let one = run-yes s at k e in
        let here = inside s at (omega (arith, e)) in
        ⊎_elim (λ p. omega (arith, ih p)) (λ p. omega arith) (lt-or-le 0 (space_run s (suc at) k))

pub run-within : (k : ℕ) (s : List ℕ) (at : ℕ) → at ≤ length s → at + space_run s at k ≤ length s
run-within k s at h = ⊎_elim (λ p. run_inside k s at p) (λ p. omega arith) (lt-or-le 0 (space_run s at k))

-- what is left from a place on
pub left-is : (s : List ℕ) (at : ℕ) → take (length s - at) (drop at s) ≡ drop at s
left-is s at = rw (← length-drop at s) (take-length (drop at s))

-- what is counted up to the text's end is the run at the front of what is left
pub run-prefix : (k : ℕ) (s : List ℕ) (at : ℕ) → length s ≤ at + k → prefix_len (λ b. eqb b space) (drop at s) ≡ space_run s at k
unfolding space_run
run-prefix zero s at h = let none : length s ≤ at = omega arith in rw (drop_of_length-le s none)
run-prefix (suc k) s at h =
    ⊎_elim
    (λ (l : at < length s).
    let more = run-prefix k s (suc at) (omega arith) in
    rw (drop-cons s at 0) (ap (λ (n : ℕ). cond (eqb (get_or s at 0) space) n 0) (omega (arith, more))))
    (λ (l : length s ≤ at). rw (drop_of_length-le s l, run_past s at (suc k) l))
    (lt-or-le at (length s))

-- ---- a number with a gap in front

module _ (s : List ℕ) (at : ℕ) where
  pub parted-not : space_run s at (length s) ≡ 0 → parted_at s at ≡ None
  unfolding parted_at
  parted-not e = rw (eq-eqb (space_run s at (length s)) 0 e)

  pub parted-is : (gap : ℕ) → gap ≡ space_run s at (length s) → (gap ≡ 0 → ⊥) → parted_at s at ≡ number_at s (at + gap)
  unfolding parted_at
  parted-is gap e h = rw (← e, ne_eqb gap 0 h)

-- ---- the end of a line

module _ (s : List ℕ) (at : ℕ) where
  pub feed-here : at < length s → get_or s at 0 ≡ line_feed → feed_from (length s - at) s at ≡ at
  unfolding feed_from
  feed-here h e =
      let fuel : length s - at ≡ suc (length s - (at + 1)) = omega arith in
      rw (fuel, eq-eqb (get_or s at 0) line_feed e)

  pub feed-on : at < length s → (get_or s at 0 ≡ line_feed → ⊥) → feed_from (length s - at) s at ≡ feed_from (length s - (at + 1)) s (at + 1)
  unfolding feed_from
  feed-on h e =
      let fuel : length s - at ≡ suc (length s - (at + 1)) = omega arith in
      let near : suc at ≡ at + 1 = omega arith in
      rw (fuel, ne_eqb (get_or s at 0) line_feed e, near)

pub feed-none : (s : List ℕ) (at : ℕ) → length s ≤ at → feed_from (length s - at) s at ≡ at
unfolding feed_from
feed-none s at h = let fuel : length s - at ≡ 0 = omega arith in rw fuel

-- it stands behind what is at the front of what is left and no LF
pub feed-prefix : (k : ℕ) (s : List ℕ) (at : ℕ) → at + k ≡ length s
    → at + prefix_len (λ b. not (eqb b line_feed)) (drop at s) ≡ feed_from k s at
unfolding feed_from
feed-prefix zero s at h = let none : length s ≤ at = omega arith in rw (drop_of_length-le s none) (omega arith)
feed-prefix (suc k) s at h =
    let inside : at < length s = omega arith in
    rw (drop-cons s at 0) (go _ _ (feed-prefix k s (suc at) (omega arith)) (eqb (get_or s at 0) line_feed))
  where
    go : (n all : ℕ) → suc at + n ≡ all → (b : Bool) → at + cond (not b) (1 + n) 0 ≡ cond b at all
    go n all e true = omega arith
    go n all e false = omega arith
