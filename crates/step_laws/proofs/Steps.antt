-- The laws of single steps, by call: undone, kept well formed and clean, weights kept. Each only puts together what the files below prove.
-- An accepted call says that its desk is well formed, so no law asks for it again.
use Rattle.std.specs.Prelude.{Ok}
use Prim.Native.Nat.{ℕ, ◌+◌, ◌*◌, ◌≤◌}
use mathlib.Core.Path.{◌≡◌, sym, ◌∙◌}
use mathlib.Core.Bool.{true, cond}
use mathlib.Core.List.{List}
use native.Mathlib.Omega.{arith}
use lib.Bits.{bit_or}
use lib.IntN.{ℤ}
use lib.ListN.{length}
use Rattle.literals.specs.Literal.{is_positive, bit_of}
use Rattle.rules.specs.Table.{weighs}
use Rattle.rules.specs.Desk.{variables, weight_on, standing, conceded, decided, truths, well_formed, load_why, load_step, desk_weighs, keeps}
use Rattle.rules.specs.Decide.{decide_why, decide_step}
use Rattle.rules.specs.Rewrite.{given, lightest, rewrite_why, rewrite_step}
use Rattle.rules.specs.Steps.{remnant_of, stored, empties}
use Rattle.rules.specs.TakeBack.{take_back_why, take_back_step}
use Rattle.step_laws.specs.Clean.{Clean}
use Rattle.step_laws.specs.StepTable.{Fits}
use Rattle.desk_laws.proofs.Formed.{well, head-inside}
use Rattle.desk_laws.proofs.Verdicts.{decide-fine, rewrite-fine}
use Rattle.desk_laws.proofs.Weights.{missed, weighs-measured}
use Rattle.step_laws.proofs.Rewritings.{step-rewritten, rewritten-head, rewritten-standing}
use Rattle.step_laws.proofs.Decisions.{decided-standing, decided-decided, decided-truths}
use Rattle.step_laws.proofs.DecisionKept.{decision-undone, decision-fine, decided-formed, decided-clean, decided-measured, keeps-facts, kept-before}
use Rattle.step_laws.proofs.Accepted.{remnants-sound, weight-no-more, plan, undone, back-fine, rewritten-formed, rewritten-clean, weights-kept}
use Rattle.step_laws.proofs.Found.{fit_words}
use Rattle.step_laws.proofs.Loads.{load-fine, loaded-formed, loaded-clean, loaded-weighs, loaded-rest}

-- ---- load

module _ (n : ℕ) (table : List ℕ) (c : ℕ) (d : List ℕ) (fine : load_why n table c d ≡ Ok tt) where
  pub load-formed : well_formed (load_step n table c d) ≡ true
  load-formed = well (loaded-formed n table c d (load-fine n table c d fine))

  pub load-clean : Clean (load_step n table c d)
  load-clean = loaded-clean n table c d (load-fine n table c d fine)

  pub load-weighs : (reading : ℕ) → desk_weighs (load_step n table c d) reading ≡ weighs table reading
  load-weighs = loaded-weighs n table c d (load-fine n table c d fine)

  pub load-rest : (standing (load_step n table c d) ≡ 0) × (conceded (load_step n table c d) ≡ 0) × (decided (load_step n table c d) ≡ 0) × (truths
      (load_step n table c d) ≡ 0)
  load-rest = loaded-rest n table c d (load-fine n table c d fine)

-- ---- decide

module _ (d : List ℕ) (l : ℤ) (fine : decide_why d l ≡ Ok tt) where
  pub decide-undone : Clean d → (take_back_why (decide_step d l) ≡ Ok tt) × (take_back_step (decide_step d l) ≡ d)
  decide-undone clean = (decision-fine d l (decide-fine d l fine), decision-undone d l (decide-fine d l fine) clean)

  pub decide-standing : standing (decide_step d l) ≡ standing d + 1
  decide-standing = decided-standing d l (head-inside (decide-fine d l fine).desk)

  pub decide-masks : (decided (decide_step d l) ≡ bit_or (decided d) (bit_of l))
      × (truths (decide_step d l) ≡ cond (is_positive l) (bit_or (truths d) (bit_of l)) (truths d))
  decide-masks =
      let far = head-inside (decide-fine d l fine).desk in
      (decided-decided d l far, decided-truths d l far)

  pub decide-formed : well_formed (decide_step d l) ≡ true
  decide-formed = well (decided-formed d l (decide-fine d l fine))

  pub decide-clean : Clean d → Clean (decide_step d l)
  decide-clean = decided-clean d l (decide-fine d l fine)

  -- every reading weighs the same
  pub decide-weighs : (reading : ℕ) → desk_weighs (decide_step d l) reading ≡ desk_weighs d reading
  decide-weighs reading =
      weighs-measured (decide_step d l) reading ∙ decided-measured d l (decide-fine d l fine) (missed reading) ∙ sym (weighs-measured d reading)

  pub decide-keeps : (reading : ℕ) → keeps (decide_step d l) reading ≡ true → keeps d reading ≡ true
  decide-keeps = kept-before d l (decide-fine d l fine)

-- ---- merge, shift, chain, fork

module _ (d : List ℕ) (kind : ℕ) (named : List ℕ) (fine : rewrite_why d kind named ≡ Ok tt) where
  pub rewrite-undone : Clean d → (take_back_why (rewrite_step d kind named) ≡ Ok tt) × (take_back_step (rewrite_step d kind named) ≡ d)
  rewrite-undone clean =
      let ok = rewrite-fine d kind named fine in
      rw (step-rewritten d kind named) (back-fine d kind named ok clean, undone d kind named ok clean)

  pub rewrite-standing : standing (rewrite_step d kind named) ≡ standing d + 1
  rewrite-standing =
      let w : ℕ = lightest d named in
      rw (step-rewritten d kind named)
      (rewritten-standing d kind w named (stored (given d kind named)) (w * empties (given d kind named)) (plan d kind named (rewrite-fine d kind named fine)))

  -- its remnants fit, in document 01's words, and what it gives is what the step table says
  pub rewrite-in-words : Fits (remnant_of d named) kind (length named) (given d kind named)
  unfolding given
  rewrite-in-words =
      let ok = rewrite-fine d kind named fine in
      fit_words (variables d) ok.desk.named (remnant_of d named) kind (length named) ok.known.0 ok.known.1 ok.counted
      (remnants-sound d kind named ok) ok.fitted

  -- conceded plus all weights in use does not grow
  pub rewrite-no-heavier : weight_on (rewrite_step d kind named) ≤ weight_on d
  rewrite-no-heavier = rw (step-rewritten d kind named) (weight-no-more d kind named (rewrite-fine d kind named fine))

  pub rewrite-formed : well_formed (rewrite_step d kind named) ≡ true
  rewrite-formed = rw (step-rewritten d kind named) (well (rewritten-formed d kind named (rewrite-fine d kind named fine)))

  pub rewrite-clean : Clean d → Clean (rewrite_step d kind named)
  rewrite-clean clean = rw (step-rewritten d kind named) (rewritten-clean d kind named (rewrite-fine d kind named fine) clean)

  -- every reading that keeps the decisions weighs the same
  pub rewrite-weighs : (reading : ℕ) → keeps d reading ≡ true → desk_weighs (rewrite_step d kind named) reading ≡ desk_weighs d reading
  rewrite-weighs reading k =
      rw (step-rewritten d kind named)
      (weighs-measured _ reading ∙ weights-kept d kind named (rewrite-fine d kind named fine) reading (keeps-facts d reading k).agrees
      ∙ sym (weighs-measured d reading))

  pub rewrite-keeps : (reading : ℕ) → keeps (rewrite_step d kind named) reading ≡ keeps d reading
  unfolding keeps
  rewrite-keeps reading =
      let p = plan d kind named (rewrite-fine d kind named fine) in
      let w : ℕ = lightest d named in
      let head = rewritten-head d kind w named (stored (given d kind named)) (w * empties (given d kind named)) p in
      rw (
        step-rewritten d kind named,
        head 0 (omega arith),
        head 5 (omega arith),
        head 6 (omega arith),
      )

  pub rewrite-masks : (decided (rewrite_step d kind named) ≡ decided d) × (truths (rewrite_step d kind named) ≡ truths d)
  rewrite-masks =
      let p = plan d kind named (rewrite-fine d kind named fine) in
      let w : ℕ = lightest d named in
      let head = rewritten-head d kind w named (stored (given d kind named)) (w * empties (given d kind named)) p in
      rw (step-rewritten d kind named) (head 5 (omega arith), head 6 (omega arith))
