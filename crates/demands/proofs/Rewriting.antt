-- A rewriting, word by word. The step is stores: the named rows get their weights, the new rows are laid behind those in use, the head is set and the
-- entry is entered; each row is found behind the stores that do not touch it, and so is every word that none of them touches.
use Rattle.std.specs.Prelude.{Ok}
use Prim.Native.Nat.{ℕ, suc, ◌+◌, ◌-◌, ◌*◌, ◌≤◌, ◌<◌}
use mathlib.Core.Path.{◌≡◌, refl, sym, ◌∙◌}
use mathlib.Core.Logic.{◌⊎◌, inl, inr, ⊎_elim}
use mathlib.Core.Bool.{Bool, true, false, not}
use mathlib.Core.List.{List}
use native.Mathlib.Omega.{arith}
use borrow.Author.Tests.{ltb-true, ltb-false}
use lib.Dec.{ltb}
use lib.ListN.{length, get_or}
use Rattle.masks.proofs.Choice.{clash, lt-or-le}
use Rattle.masks.proofs.Sums.{smallest-at}
use Rattle.literals.specs.declared.Lits.{Lits}
use Rattle.literals.specs.Lits.{no_lits}
use Rattle.rules.specs.declared.Refusal.TheVariants.{BadFit, DeskFull}
use Rattle.rules.specs.Refusals.{refuse}
use Rattle.rules.specs.Table.{marked_row, with_weight}
use Rattle.rules.specs.Desk.{in_use, capacity, standing, entry_words, row_place, entry_place, row_on}
use Rattle.rules.specs.Rewrite.{well_fitted, given, lightest, rewriting_entry, rewrite_why, rewrite_desk}
use Rattle.rules.specs.Steps.{well_named, remnant_of, reweighed, stored, empties}
use Rattle.step_laws.specs.StepTable.{FitsALine}
use Rattle.desk_laws.proofs.Formed.{Formed, formed, rows_inside}
use Rattle.desk_laws.proofs.Stores.{length-reweighed, reweighed-at, laid-before, laid-at}
use Rattle.desk_laws.proofs.Verdicts as verdicts
use Rattle.step_laws.proofs.Rewritings.{Plan, rows_after, rewritten, step-rewritten, length-rewritten, rewritten-use, rewritten-conceded, rewritten-standing}
use Rattle.step_laws.proofs.Rewritings.{rewritten-row, rewritten-untouched, rewritten-entry}
use Rattle.step_laws.proofs.Accepted.{plan, remnants-sound}
use Rattle.step_laws.proofs.InWords.{words-fit}
use Rattle.step_laws.proofs.Fitted.{some-named, fitted-words, words-fitted}
use Rattle.step_laws.proofs.Steps.{rewrite-in-words}
use Rattle.demands.specs.Rewritings.{Fitting, fourteen, fifteen, neither, Judging}
use Rattle.demands.specs.Rewritings.{Changes, rows_in_use, steps_standing, conceded_sum, named_row, new_row, its_entry, Rewritten}

-- a place is outside what lies from a to b, unless it is in it
outside : (a b p : ℕ) → (a ≤ p → p < b → ⊥) → (p < a) ⊎ (b ≤ p)
outside a b p h = ⊎_elim (λ l. inl l) (λ l. ⊎_elim (λ m. absurd (h l m)) (λ m. inr m) (lt-or-le p b)) (lt-or-le p a)

module _ (d : List ℕ) (kind : ℕ) (named : List ℕ) (fine : rewrite_why d kind named ≡ Ok tt) where
  abbrev w : ℕ
  w = lightest d named

  abbrev new : List Lits
  new = stored (given d kind named)

  abbrev owed : ℕ
  owed = w * empties (given d kind named)

  abbrev row : ℕ → ℕ
  row i = get_or named i 0

  abbrev after : List ℕ
  after = rewritten d kind w named new owed

  abbrev lighter : List ℕ
  lighter = reweighed (λ x. x - w) row d (length named)

  ok : verdicts.Rewritten d kind named
  ok = verdicts.rewrite-fine d kind named fine

  p : Plan d w named new
  p = plan d kind named ok

  some : 1 ≤ length named
  some = some-named kind (length named) ok.known.0 ok.known.1 ok.counted

  loses : (i : ℕ) → i < length named → row_on after (row i) ≡ with_weight (row_on d (row i)) ((row_on d (row i)).weight - w)
  unfolding rows_after
  loses i l =
      let used = p.used i l in
      rewritten-row d kind w named new owed p (row i) (omega (arith, p.space))
      ∙ laid-before lighter (in_use d) w new (row i) used
      ∙ reweighed-at (λ x. x - w) row d (length named) p.apart i l (rows_inside p.desk (suc (row i)) (omega (arith, p.space)))

  news : (j : ℕ) → j < length new → row_on after (in_use d + j) ≡ marked_row (get_or new j no_lits) w 0
  unfolding rows_after
  news j l =
      let long : row_place (in_use d + length new) ≤ length lighter =
      rw (length-reweighed (λ x. x - w) row d (length named)) (rows_inside p.desk (in_use d + length new) p.space) in
      rewritten-row d kind w named new owed p (in_use d + j) (omega (arith, p.space)) ∙ laid-at lighter (in_use d) w new long j l

  smallest-of : (i : ℕ) × (i < length named) × (w ≡ (row_on d (row i)).weight)
  unfolding lightest
  smallest-of =
      let s = smallest-at (length named - 1) (λ i. (row_on d (row i)).weight) in
      (s.0, omega (arith, s.1, some), s.2)

  -- its line, and no other
  line : FitsALine d kind named (given d kind named)
  line = record { soft = ok.soft; unspent = ok.weighty; unsatisfied = ok.unsatisfied; line = rewrite-in-words d kind named fine }

  only : (other : List Lits) → FitsALine d kind named other → other ≡ given d kind named
  unfolding given
  only other f = sym (words-fit (remnant_of d named) (remnants-sound d kind named ok 0 some).once f.line).1

  -- a word that the step does not name
  rest : (q : ℕ) → (Changes d named (length new) q → ⊥) → get_or after q 0 ≡ get_or d q 0
  rest q free =
      rewritten-untouched d kind w named new owed p q (λ e. free (rows_in_use e)) (λ e. free (steps_standing e)) (λ e. free (conceded_sum e))
      (λ i l. outside (row_place (row i)) (row_place (suc (row i))) q (λ a b. free (named_row i l a b)))
      (outside (row_place (in_use d)) (row_place (in_use d + length new)) q (λ a b. free (new_row a b)))
      (outside (entry_place d (standing d)) (entry_place d (standing d) + entry_words) q (λ a b. free (its_entry a b)))

  by-rule : Rewritten d kind named after
  unfolding rewriting_entry
  by-rule =
      record {
        w = w;
        is_smallest = p.heavy;
        is_of_one = smallest-of;
        gives = given d kind named;
        fits = line;
        fits_only = only;
        loses = loses;
        news = news;
        in_use_after = rewritten-use d kind w named new owed p;
        conceded_after = rewritten-conceded d kind w named new owed p;
        standing_after = rewritten-standing d kind w named new owed p;
        entry = rewritten-entry d kind w named new owed p;
        rest = rest;
        long = length-rewritten d kind w named new owed p;
      }

  step_is : rewrite_desk d kind named ≡ after
  unfolding rewrite_desk
  step_is = rw fine (step-rewritten d kind named)

  pub rewriting : Rewritten d kind named (rewrite_desk d kind named)
  rewriting = rw step_is by-rule

-- ---- 14

-- what is said behind 13, by what the definitions call fitting
fitting-in-words : (d : List ℕ) (kind : ℕ) (named : List ℕ) → Formed d → well_named d kind named ≡ true → (fit full : Bool)
    → well_fitted d kind named ≡ fit → ltb (capacity d) (in_use d + length (stored (given d kind named))) ≡ full
    → Fitting d kind named (refuse (not fit) BadFit (refuse full DeskFull (Ok tt)))
fitting-in-words d kind named desk ok false full e f = fourteen (λ gives line. clash (words-fitted d kind named desk ok line) e)
fitting-in-words d kind named desk ok true true e f =
    fifteen (given d kind named) (fitted-words d kind named desk ok e) (ltb-true (capacity d) (in_use d + length (stored (given d kind named))) f)
fitting-in-words d kind named desk ok true false e f =
    neither (given d kind named) (fitted-words d kind named desk ok e) (ltb-false (capacity d) (in_use d + length (stored (given d kind named))) f)

pub judges : (d : List ℕ) (kind : ℕ) (named : List ℕ) → Judging d kind named (rewrite_why d kind named)
unfolding rewrite_why
judges d kind named =
    record {
      rest =
          refuse (not (well_fitted d kind named)) BadFit
          (refuse (ltb (capacity d) (in_use d + length (stored (given d kind named)))) DeskFull (Ok tt));
      order = refl;
      in_words = λ desk ok. fitting-in-words d kind named (formed d desk) ok _ _ refl refl;
    }
