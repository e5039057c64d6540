-- Hard rows stay. A decision touches no row. A rewriting changes the weights of the rows it names, none of which is hard, and lays soft rows behind those
-- in use.
use Rattle.std.specs.Prelude.{Ok}
use Prim.Native.Nat.{ℕ, suc, ◌+◌, ◌-◌, ◌*◌, ◌≤◌, ◌<◌}
use mathlib.Core.Path.{◌≡◌, refl, sym, ap, ◌∙◌}
use mathlib.Core.Logic.{⊎_elim}
use mathlib.Core.Bool.{true, false}
use mathlib.Core.List.{List}
use native.Mathlib.Nat.{le_refl, le_trans}
use native.Mathlib.Omega.{arith}
use lib.IntN.{ℤ}
use lib.ListN.{length, get_or}
use Rattle.masks.proofs.Choice.{lt-or-le, clash}
use Rattle.literals.specs.declared.Lits.{Lits}
use Rattle.rules.specs.declared.Row.{Row}
use Rattle.rules.specs.Table.{is_hard}
use Rattle.rules.specs.Desk.{in_use, row_place, row_on}
use Rattle.rules.specs.Decide.{decide_why, decide_step}
use Rattle.rules.specs.Rewrite.{given, lightest, rewrite_why, rewrite_step}
use Rattle.rules.specs.Steps.{stored, empties, reweighed}
use Rattle.step_laws.specs.HardRows.{HardStay}
use Rattle.desk_laws.proofs.Formed.{rows_inside}
use Rattle.desk_laws.proofs.Stores.{named-or-not, length-reweighed, reweighed-other, reweighed-keeps, laid-before, laid-at}
use Rattle.desk_laws.proofs.Verdicts.{decide-fine, Rewritten, rewrite-fine}
use Rattle.step_laws.proofs.Decisions.{decided-head, decided-row}
use Rattle.step_laws.proofs.Rewritings.{rows_after, rewritten, step-rewritten, rewritten-use, rewritten-row}
use Rattle.step_laws.proofs.Accepted.{plan}

pub hard-same : (d : List ℕ) → HardStay d d
hard-same d =
    record {
      more = le_refl (in_use d);
      lits = λ i l. refl;
      marks = λ i l. refl;
      whole = λ i l h. refl;
      soft = λ i l m. absurd (omega arith);
    }

-- a row is hard by its mark
same-mark : (r s : Row) → s.mark ≡ r.mark → is_hard s ≡ is_hard r
unfolding is_hard
same-mark r s e = rw e

pub hard-then : {a b c : List ℕ} → HardStay a b → HardStay b c → HardStay a c
hard-then {a} {b} {c} f g =
    let used : (i : ℕ) → i < in_use a → i < in_use b = λ i l. le_trans l f.more in
    record {
      more = le_trans f.more g.more;
      lits = λ i l. g.lits i (used i l) ∙ f.lits i l;
      marks = λ i l. g.marks i (used i l) ∙ f.marks i l;
      whole = λ i l h. g.whole i (used i l) (ap is_hard (f.whole i l h) ∙ h) ∙ f.whole i l h;
      soft = λ i l m.
          ⊎_elim
          (λ k. same-mark (row_on b i) (row_on c i) (g.marks i k) ∙ f.soft i l k)
          (λ k. g.soft i k m)
          (lt-or-le i (in_use b));
    }

pub decide-hard : (d : List ℕ) (l : ℤ) → decide_why d l ≡ Ok tt → HardStay d (decide_step d l)
decide-hard d l fine =
    let f = (decide-fine d l fine).desk in
    let used : in_use (decide_step d l) ≡ in_use d = decided-head d l 1 (omega arith) in
    let row : (i : ℕ) → i < in_use d → row_on (decide_step d l) i ≡ row_on d i = λ i h. decided-row d l i (omega (arith, f.fitting)) in
    record {
      more = omega (arith, used);
      lits = λ i h. ap (λ (r : Row). r.lits) (row i h);
      marks = λ i h. ap (λ (r : Row). r.mark) (row i h);
      whole = λ i h e. row i h;
      soft = λ i h m. absurd (omega (arith, used));
    }

module _ (d : List ℕ) (kind : ℕ) (named : List ℕ) (ok : Rewritten d kind named) where
  abbrev w : ℕ
  w = lightest d named

  abbrev new : List Lits
  new = stored (given d kind named)

  abbrev after : List ℕ
  after = rewritten d kind w named new (w * empties (given d kind named))

  abbrev lighter : List ℕ
  lighter = reweighed (λ x. x - w) (λ i. get_or named i 0) d (length named)

  used : in_use after ≡ in_use d + length new
  used = rewritten-use d kind w named new (w * empties (given d kind named)) (plan d kind named ok)

  row-after : (i : ℕ) → i < in_use d → row_on after i ≡ row_on lighter i
  unfolding rows_after
  row-after i l =
      rewritten-row d kind w named new (w * empties (given d kind named)) (plan d kind named ok) i (omega (arith, ok.space))
      ∙ laid-before lighter (in_use d) w new i l

  -- whatever is asked of a row beside its weight
  row_keeps : {A : Type 0} (f : Row → A) → ((r : Row) (x : ℕ) → f (record { lits = r.lits; weight = x; mark = r.mark }) ≡ f r)
      → (i : ℕ) → i < in_use d → f (row_on after i) ≡ f (row_on d i)
  row_keeps f same i l =
      ap f (row-after i l)
      ∙ reweighed-keeps (λ x. x - w) (λ j. get_or named j 0) d f same (length named)
      (λ j m. rows_inside ok.desk (suc (get_or named j 0)) (omega (arith, ok.used j m, ok.desk.fitting))) i

  -- a hard row is not named
  hard-row : (i : ℕ) → i < in_use d → is_hard (row_on d i) ≡ true → row_on after i ≡ row_on d i
  hard-row i l h =
      row-after i l
      ∙ ⊎_elim
      (λ (n : (j : ℕ) × (j < length named) × (i ≡ get_or named j 0)).
      absurd (clash (ap (λ (k : ℕ). is_hard (row_on d k)) (sym n.2) ∙ h) (ok.soft n.0 n.1)))
      (λ out. reweighed-other (λ x. x - w) (λ j. get_or named j 0) d (length named) i out)
      (named-or-not (length named) (λ j. get_or named j 0) i)

  new-soft : (i : ℕ) → in_use d ≤ i → i < in_use after → is_hard (row_on after i) ≡ false
  unfolding rows_after is_hard
  new-soft i l m =
      let inside : row_place (in_use d + length new) ≤ length lighter =
      rw (length-reweighed (λ x. x - w) (λ j. get_or named j 0) d (length named)) (rows_inside ok.desk (in_use d + length new) ok.space) in
      let few : i < in_use d + length new = rw used at m in
      let at : in_use d + (i - in_use d) ≡ i = omega arith in
      let row = rewritten-row d kind w named new (w * empties (given d kind named)) (plan d kind named ok) i (omega (arith, ok.space)) in
      rw row (rw (← at) (rw (laid-at lighter (in_use d) w new inside (i - in_use d) (omega arith)) refl))

  rewritten-hard : HardStay d after
  rewritten-hard =
      record {
        more = omega (arith, used);
        lits = row_keeps (λ r. r.lits) (λ r x. refl);
        marks = row_keeps (λ r. r.mark) (λ r x. refl);
        whole = hard-row;
        soft = new-soft;
      }

pub rewrite-hard : (d : List ℕ) (kind : ℕ) (named : List ℕ) → rewrite_why d kind named ≡ Ok tt → HardStay d (rewrite_step d kind named)
rewrite-hard d kind named fine = rw (step-rewritten d kind named) (rewritten-hard d kind named (rewrite-fine d kind named fine))
