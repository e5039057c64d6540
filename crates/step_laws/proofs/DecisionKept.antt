-- An accepted decision: taking it back is accepted and gives the words before it, and the desk stays well formed and clean.
-- Rows and conceded are as before, so every reading weighs the same; and a reading that keeps the decisions after it keeps those before it.
-- The variable was not decided, so its bit goes out of both masks as it came in.
use Rattle.std.specs.Prelude.{Ok}
use Prim.Native.Nat.{ℕ, ◌+◌, ◌-◌, ◌≤◌, ◌<◌, ◌^◌}
use mathlib.Core.Path.{◌≡◌, sym, ap, ◌∙◌}
use mathlib.Core.Logic.{inl, inr, ⊎_elim}
use mathlib.Core.Bool.{true, cond, ◌&&◌, or-true, and-false, and-eq-true_iff}
use mathlib.Core.List.{List}
use native.Mathlib.Omega.{arith}
use borrow.Author.Tests.{eqb-true, eq-eqb, ne_eqb}
use lib.Bits.{bit_and, bit_or}
use lib.Dec.{eqb}
use lib.IntN.{ℤ}
use lib.ListN.{length, get_or}
use Rattle.masks.specs.Masks.{has, without, single, below}
use Rattle.masks.proofs.Choice.{cases, eq-or-ne, or_cases, both}
use Rattle.masks.proofs.Bits.{has-ext, has-and, has-or, below-lt, lt-below}
use Rattle.masks.proofs.Sets.{within, within_of, within-union, within-trans, has-put-same, has-put-other, put-take, take_out, put-lt}
use Rattle.literals.specs.Literal.{size, is_positive, bit_of}
use Rattle.literals.proofs.Opposites.{literal-sized}
use Rattle.literals.specs.declared.Lits.{Lits}
use Rattle.rules.specs.Desk.{head_words, variables, in_use, capacity, standing, decided, truths, entry_words, row_place, entry_place, desk_words, keeps}
use Rattle.rules.specs.Decide.{decide_step}
use Rattle.rules.specs.TakeBack.{last_variable, undo_decision, take_back_step, bad_decision, bad_last, take_back_why}
use Rattle.step_laws.specs.Clean.{Clean}
use Rattle.desk_laws.proofs.Formed.{Formed, well, head-inside}
use Rattle.desk_laws.proofs.Weights.{measured, measured-same, weight-measured}
use Rattle.desk_laws.proofs.Verdicts.{Decided}
use Rattle.step_laws.proofs.Entries.{entry_past, entry_next, row-past-head, withdrawn-back}
use Rattle.step_laws.proofs.Undoing.{unset, unset-out, length-unset, unset-decided, unset-truths}
use Rattle.step_laws.proofs.Decisions.{length-decided, decided-out, decided-head, decided-row, decided-standing, decided-decided}
use Rattle.step_laws.proofs.Decisions.{decided-truths, decided-capacity, decided-kind, decided-variable, v, decided-bit, not-yet-true}
use Rattle.step_laws.proofs.Decisions.{decided-single}

module _ (d : List ℕ) (l : ℤ) (ok : Decided d l) where
  -- ---- taken back

  -- the masks without the bit
  abbrev cleared : List ℕ
  cleared = unset (decide_step d l) (single (last_variable (decide_step d l) - 1))

  bit-out : single (last_variable (decide_step d l) - 1) ≡ 2 ^ v d l ok
  bit-out = rw (decided-variable d l ok) (decided-single d l ok)

  inside : head_words ≤ length (decide_step d l)
  inside = rw (length-decided d l) (head-inside ok.desk)

  cleared-decided : decided cleared ≡ decided d
  cleared-decided =
      unset-decided (decide_step d l) (single (last_variable (decide_step d l) - 1)) inside
      ∙ rw (bit-out, decided-decided d l (head-inside ok.desk), decided-bit d l ok) (put-take (decided d) (v d l ok) ok.fresh)

  cleared-truths : truths cleared ≡ truths d
  cleared-truths =
      unset-truths (decide_step d l) (single (last_variable (decide_step d l) - 1)) inside
      ∙ rw (bit-out, decided-truths d l (head-inside ok.desk), decided-bit d l ok)
      (⊎_elim (λ t. rw t (put-take (truths d) (v d l ok) (not-yet-true d l ok))) (λ t. rw t (take_out (truths d) (v d l ok) (not-yet-true d l ok)))
      (cases (is_positive l)))

  pub decision-undone : Clean d → take_back_step (decide_step d l) ≡ d
  unfolding take_back_step undo_decision
  decision-undone clean =
      let out : (p : ℕ) → (p ≡ 5 → ⊥) → (p ≡ 6 → ⊥) → get_or cleared p 0 ≡ get_or (decide_step d l) p 0 =
      unset-out (decide_step d l) (single (last_variable (decide_step d l) - 1)) in
      rw (decided-kind d l ok)
      (withdrawn-back d cleared ok.desk clean ok.room
      (length-unset (decide_step d l) (single (last_variable (decide_step d l) - 1)) ∙ length-decided d l)
      (out 2 (λ q. omega arith) (λ q. omega arith) ∙ decided-capacity d l ok)
      (out 3 (λ q. omega arith) (λ q. omega arith) ∙ decided-standing d l (head-inside ok.desk))
      (λ p n h.
      ⊎_elim (λ q. rw q cleared-decided)
      (λ n5. ⊎_elim (λ q. rw q cleared-truths) (λ n6. out p n5 n6 ∙ decided-out d l p n n5 n6 h) (eq-or-ne p 6))
      (eq-or-ne p 5)))

  -- ---- well formed and clean

  head-same : (p : ℕ) → (p < head_words) × (p ≡ 3 → ⊥) × (p ≡ 5 → ⊥) × (p ≡ 6 → ⊥) → get_or (decide_step d l) p 0 ≡ get_or d p 0
  head-same = decided-head d l

  same-use : in_use (decide_step d l) ≡ in_use d
  same-use = head-same 1 (omega arith)

  same-variables : variables (decide_step d l) ≡ variables d
  same-variables = head-same 0 (omega arith)

  -- whatever rows and conceded add up to is as before
  pub decided-measured : (m : Lits → ℕ) → measured m (decide_step d l) ≡ measured m d
  decided-measured m =
      measured-same m d (decide_step d l)
      (head-same 4 (omega arith))
      same-use (λ i h. decided-row d l i (omega (arith, ok.desk.fitting)))

  pub decided-formed : Formed (decide_step d l)
  decided-formed =
      let f = ok.desk in
      let same-loaded = head-same 7 (omega arith) in
      record {
        roomy = rw (decided-capacity d l ok) f.roomy;
        reaching = rw ((decided-capacity d l ok), length-decided d l) f.reaching;
        named = rw same-variables f.named;
        loads = rw same-loaded f.loads;
        kept = rw (same-loaded, same-use) f.kept;
        fitting = rw ((decided-capacity d l ok), same-use) f.fitting;
        steps = rw (decided-standing d l (head-inside ok.desk)) (omega (arith, ok.room));
        sound = λ i h.
            let here : i < in_use d = rw same-use at h in
            rw (same-variables, decided-row d l i (omega (arith, f.fitting))) (f.sound i here);
        marked = λ i h.
            let here : i < in_use d = rw same-use at h in
            rw (decided-row d l i (omega (arith, f.fitting))) (f.marked i here);
        light = rw (weight-measured (decide_step d l), decided-measured (λ k. 1), ← weight-measured d) f.light;
        nested = rw (decided-truths d l (head-inside ok.desk), decided-decided d l (head-inside ok.desk)) nests;
        within =
            rw (same-variables, decided-decided d l (head-inside ok.desk), (decided-bit d l ok))
            (put-lt (variables d) f.within (omega (arith, ok.counted, (literal-sized l ok.literal).some)));
      }
    where
      nests : without (cond (is_positive l) (bit_or (truths d) (bit_of l)) (truths d)) (bit_or (decided d) (bit_of l)) ≡ 0
      nests =
          let sub : without (truths d) (bit_or (decided d) (bit_of l)) ≡ 0 =
          within-trans (truths d) (decided d) (bit_or (decided d) (bit_of l)) ok.desk.nested (within-union (decided d) (bit_of l)) in
          ⊎_elim
          (λ t. rw t (within_of (bit_or (truths d) (bit_of l)) (bit_or (decided d) (bit_of l))
          (λ x h. either x h (within (truths d) (bit_or (decided d) (bit_of l)) sub x))))
          (λ t. rw t sub)
          (cases (is_positive l))
        where
          either : (x : ℕ) → has (bit_or (truths d) (bit_of l)) x ≡ true → (has (truths d) x ≡ true → has (bit_or (decided d) (bit_of l)) x ≡ true)
              → has (bit_or (decided d) (bit_of l)) x ≡ true
          either x h k =
              ⊎_elim k (λ t. has-or (decided d) (bit_of l) x ∙ rw t (or-true (has (decided d) x)))
              (or_cases (has (truths d) x) (has (bit_of l) x) (sym (has-or (truths d) (bit_of l) x) ∙ h))

  pub decided-clean : Clean d → Clean (decide_step d l)
  unfolding row_place
  decided-clean clean =
      record {
        rows = λ p a b.
            let here : row_place (in_use d) ≤ p = rw same-use at a in
            let there : p < row_place (capacity d) = rw (decided-capacity d l ok) at b in
            decided-out d l p (λ q. omega arith) (λ q. omega arith) (λ q. omega arith) (inl (omega (arith, entry_past d (standing d))))
            ∙ clean.rows p here there;
        entries = λ p a b.
            let here : entry_place d (standing d) + entry_words ≤ p = next p a in
            let there : p < desk_words (capacity d) = rw (decided-capacity d l ok) at b in
            decided-out d l p (λ q. far p here (omega arith)) (λ q. far p here (omega arith)) (λ q. far p here (omega arith)) (inr here)
            ∙ clean.entries p (omega arith) there;
      }
    where
      far : (p : ℕ) → entry_place d (standing d) + entry_words ≤ p → p < head_words → ⊥
      far p a b = omega (arith, entry_past d (standing d), row-past-head (capacity d))

      next : (p : ℕ) → entry_place (decide_step d l) (standing (decide_step d l)) ≤ p → entry_place d (standing d) + entry_words ≤ p
      next p a = rw (entry_next d (decide_step d l) (decided-capacity d l ok) (decided-standing d l (head-inside ok.desk))) at a

  -- taking it back is accepted
  pub decision-fine : take_back_why (decide_step d l) ≡ Ok tt
  unfolding take_back_why bad_last bad_decision
  decision-fine =
      rw (
        well decided-formed,
        (decided-kind d l ok),
        (decided-variable d l ok),
        decided-standing d l (head-inside ok.desk),
        decided-decided d l
            (head-inside ok.desk),
        (decided-bit d l ok),
      )
      (rw (
        ne_eqb (standing d + 1) 0 (λ q. omega arith),
        ne_eqb (size l) 0 (λ q. omega (arith, (literal-sized l ok.literal).some)),
        has-put-same
            (decided d) (size l - 1),
      ))

-- ---- readings

module _ (d : List ℕ) (reading : ℕ) where
  pub record Keeps : Type 0 where
    pub within : reading < 2 ^ variables d
    pub agrees : bit_and reading (decided d) ≡ truths d

  pub keeps-facts : keeps d reading ≡ true → Keeps
  unfolding keeps
  keeps-facts e =
      let parts = (and-eq-true_iff (below reading (variables d)) (eqb (bit_and reading (decided d)) (truths d))).0 e in
      record { within = below-lt reading (variables d) parts.0; agrees = eqb-true (bit_and reading (decided d)) (truths d) parts.1 }

  pub facts-keep : Keeps → keeps d reading ≡ true
  unfolding keeps
  facts-keep k = both (lt-below (variables d) k.within) (eq-eqb (bit_and reading (decided d)) (truths d) k.agrees)

-- a reading that keeps the decisions after one more keeps those before it
pub kept-before : (d : List ℕ) (l : ℤ) → Decided d l → (reading : ℕ) → keeps (decide_step d l) reading ≡ true → keeps d reading ≡ true
kept-before d l ok reading e =
    let k = keeps-facts (decide_step d l) reading e in
    facts-keep d reading (record {
      within = rw (same-variables d l ok) at k.within;
      agrees = has-ext (λ w. ⊎_elim (at w) (off w k.agrees) (eq-or-ne w (size l - 1)));
    })
  where
    at : (w : ℕ) → w ≡ size l - 1 → has (bit_and reading (decided d)) w ≡ has (truths d) w
    at w q = rw q (has-and reading (decided d) (size l - 1) ∙ rw ok.fresh (and-false (has reading (size l - 1)) ∙ sym (not-yet-true d l ok)))

    off : (w : ℕ) → bit_and reading (decided (decide_step d l)) ≡ truths (decide_step d l) → (w ≡ size l - 1 → ⊥)
        → has (bit_and reading (decided d)) w ≡ has (truths d) w
    off w k n =
        let v : ℕ = size l - 1 in
        let before : has reading w && has (decided d) w ≡ has (bit_and reading (decided (decide_step d l))) w =
        sym (has-and reading (decided (decide_step d l)) w
        ∙ rw (decided-decided d l (head-inside ok.desk), decided-bit d l ok, has-put-other (decided d) v w n)) in
        let after : has (truths (decide_step d l)) w ≡ has (truths d) w =
        rw (decided-truths d l (head-inside ok.desk), decided-bit d l ok)
        (⊎_elim (λ t. rw t (has-put-other (truths d) v w n)) (λ t. rw t) (cases (is_positive l))) in
        has-and reading (decided d) w ∙ before ∙ ap (λ (m : ℕ). has m w) k ∙ after
