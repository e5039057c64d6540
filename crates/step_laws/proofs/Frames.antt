-- What no accepted call changes: the lent words' number, variables, capacity and rows loaded, and every word past the desk.
-- A step's entry ends within the desk, and so do its rows, so a place past the desk is none that the step touches.
use Rattle.std.specs.Prelude.{Ok}
use Prim.Native.Nat.{ℕ, ◌+◌, ◌-◌, ◌*◌, ◌≤◌, ◌<◌}
use mathlib.Core.Path.{◌≡◌, refl, ◌∙◌}
use mathlib.Core.Logic.{inr}
use mathlib.Core.List.{List}
use native.Mathlib.Nat.{le_trans}
use native.Mathlib.Omega.{arith}
use lib.IntN.{ℤ}
use lib.ListN.{length, get_or}
use Rattle.rules.specs.Desk.{head_words, in_use, capacity, standing, entry_words, row_place, desk_words}
use Rattle.rules.specs.Decide.{decide_why, decide_step}
use Rattle.rules.specs.Rewrite.{given, lightest, rewrite_why, rewrite_step}
use Rattle.rules.specs.Steps.{stored, empties}
use Rattle.rules.specs.TakeBack.{last_place, withdrawn}
use Rattle.step_laws.specs.Framed.{Framed}
use Rattle.desk_laws.proofs.Formed.{Formed, place_mono}
use Rattle.desk_laws.proofs.Stores.{Outside, reweighed-out}
use Rattle.desk_laws.proofs.Verdicts.{decide-fine, rewrite-fine}
use Rattle.step_laws.proofs.Entries.{length-withdrawn, withdrawn-head, withdrawn-out, entry-fits}
use Rattle.step_laws.proofs.Undoing.{unset, unset-out, length-unset, emptied, length-emptied, emptied-head, emptied-past}
use Rattle.step_laws.proofs.Decisions.{length-decided, decided-out, decided-head}
use Rattle.step_laws.proofs.Rewritings.{step-rewritten, length-rewritten, rewritten-out, rewritten-head, rows_out}
use Rattle.step_laws.proofs.Accepted.{plan}

pub framed-same : (d : List ℕ) → Framed d d
framed-same d = record { long = refl; same-variables = refl; same-capacity = refl; same-loaded = refl; past = λ p h. refl }

pub framed_then : {a b c : List ℕ} → Framed a b → Framed b c → Framed a c
framed_then f g =
    record {
      long = g.long ∙ f.long;
      same-variables = g.same-variables ∙ f.same-variables;
      same-capacity = g.same-capacity ∙ f.same-capacity;
      same-loaded = g.same-loaded ∙ f.same-loaded;
      past = λ p h. g.past p (rw f.same-capacity h) ∙ f.past p h;
    }

-- past the desk: past the head, the rows and every entry
past-desk : (c p : ℕ) → desk_words c ≤ p → (head_words ≤ p) × (row_place c ≤ p)
unfolding desk_words row_place
past-desk c p h = omega arith

-- past the rows is outside each of them
past_row : (d : List ℕ) (j q : ℕ) → j < capacity d → row_place (capacity d) ≤ q → Outside q j
past_row d j q h far = inr (le_trans (place_mono h) far)

pub decide-framed : (d : List ℕ) (l : ℤ) → decide_why d l ≡ Ok tt → Framed d (decide_step d l)
decide-framed d l fine =
    let ok = decide-fine d l fine in
    record {
      long = length-decided d l;
      same-variables = decided-head d l 0 (omega arith);
      same-capacity = decided-head d l 2 (omega arith);
      same-loaded = decided-head d l 7 (omega arith);
      past = λ p h.
          let far = past-desk (capacity d) p h in
          decided-out d l p (λ q. omega arith) (λ q. omega arith) (λ q. omega arith) (inr (le_trans (entry-fits d (standing d) ok.room) h));
    }

pub rewrite-framed : (d : List ℕ) (kind : ℕ) (named : List ℕ) → rewrite_why d kind named ≡ Ok tt → Framed d (rewrite_step d kind named)
rewrite-framed d kind named fine =
    let ok = rewrite-fine d kind named fine in
    let w : ℕ = lightest d named in
    let new = stored (given d kind named) in
    let c : ℕ = w * empties (given d kind named) in
    let p = plan d kind named ok in
    rw (step-rewritten d kind named)
    (record {
      long = length-rewritten d kind w named new c p;
      same-variables = rewritten-head d kind w named new c p 0 (omega arith);
      same-capacity = rewritten-head d kind w named new c p 2 (omega arith);
      same-loaded = rewritten-head d kind w named new c p 7 (omega arith);
      past = λ q h.
          let far = past-desk (capacity d) q h in
          rewritten-out d kind w named new c p q (λ e. omega arith) (λ e. omega arith) (λ e. omega arith)
          (inr (le_trans (entry-fits d (standing d) ok.room) h))
          ∙ rows_out d w named new q (inr (le_trans (place_mono ok.space) far.1))
          ∙ reweighed-out (λ x. x - w) (λ i. get_or named i 0) d (length named) q
          (λ i l. past_row d (get_or named i 0) q (omega (arith, ok.used i l, ok.desk.fitting)) far.1);
    })

-- ---- the parts of a taking back

pub withdrawn-framed : (d : List ℕ) → Formed d → 1 ≤ standing d → Framed d (withdrawn d)
withdrawn-framed d f some =
    record {
      long = length-withdrawn d;
      same-variables = withdrawn-head d 0 (omega arith);
      same-capacity = withdrawn-head d 2 (omega arith);
      same-loaded = withdrawn-head d 7 (omega arith);
      past = λ p h.
          let far = past-desk (capacity d) p h in
          let ends : last_place d + entry_words ≤ desk_words (capacity d) = unfold last_place in entry-fits d (standing d - 1) (omega (arith, f.steps)) in
          withdrawn-out d p (λ q. omega arith) (inr (le_trans ends h));
    }

pub unset-framed : (d : List ℕ) (v : ℕ) → Framed d (unset d v)
unset-framed d v =
    record {
      long = length-unset d v;
      same-variables = unset-out d v 0 (λ q. omega arith) (λ q. omega arith);
      same-capacity = unset-out d v 2 (λ q. omega arith) (λ q. omega arith);
      same-loaded = unset-out d v 7 (λ q. omega arith) (λ q. omega arith);
      past = λ p h. let far = past-desk (capacity d) p h in unset-out d v p (λ q. omega arith) (λ q. omega arith);
    }

pub emptied-framed : (d : List ℕ) → Formed d → (w : ℕ) (row : ℕ → ℕ) (k first c : ℕ) → first ≤ in_use d → ((i : ℕ) → i < k → row i < first)
    → Framed d (emptied d w row k first (in_use d - first) c)
emptied-framed d f w row k first c fits below =
    let m : ℕ = in_use d - first in
    record {
      long = length-emptied d w row k first m c;
      same-variables = emptied-head d w row k first m c 0 (omega arith);
      same-capacity = emptied-head d w row k first m c 2 (omega arith);
      same-loaded = emptied-head d w row k first m c 7 (omega arith);
      past = λ p h.
          let far = past-desk (capacity d) p h in
          let rows : first + (in_use d - first) ≤ capacity d = omega (arith, f.fitting) in
          emptied-past d w row k first m c p (le_trans (place_mono rows) far.1)
          ∙ reweighed-out (λ x. x + w) row d k p (λ i l. past_row d (row i) p (omega (arith, below i l, f.fitting)) far.1);
    }
