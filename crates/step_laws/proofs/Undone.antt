-- Taking back a rewriting gives the words before it, whatever rows it named and gave and whatever it conceded, on a clean desk.
-- At each place: a named row's weight less w and then w more, w being at most that weight; a new row's word or the entry's, 0 again as before;
-- rows in use, conceded and the count of steps, as the entry says; and every other word was never touched.
use Prim.Native.Nat.{ℕ, suc, ◌+◌, ◌-◌, ◌≤◌, ◌<◌}
use mathlib.Core.Path.{◌≡◌, sym, ap, ◌∙◌}
use mathlib.Core.Logic.{◌⊎◌, inl, inr, ⊎_elim}
use mathlib.Core.List.{List}
use native.Mathlib.Omega.{arith}
use lib.ListN.{length, get_or}
use Rattle.masks.proofs.Choice.{lt-or-le, eq-or-ne}
use Rattle.literals.specs.declared.Lits.{Lits}
use Rattle.rules.specs.declared.Row.{Row}
use Rattle.rules.specs.Table.{with_weight}
use Rattle.rules.specs.Desk.{head_words, in_use, standing, conceded, entry_words, row_place, row_on, entry_place}
use Rattle.rules.specs.Steps.{reweighed}
use Rattle.rules.specs.TakeBack.{last_named, last_conceded, withdrawn, undo_rewriting}
use Rattle.step_laws.specs.Clean.{Clean}
use Rattle.desk_laws.proofs.Formed.{head-inside, rows_inside, place_mono, head-before}
use Rattle.desk_laws.proofs.Stores.{named-or-not, Outside, words_same, rows_apart, row-at-place, reweighed-out, reweighed-at, reweighed-ext, laid-before}
use Rattle.step_laws.proofs.Entries.{withdrawn-back}
use Rattle.step_laws.proofs.Undoing.{emptied, length-emptied, emptied-use, emptied-conceded, emptied-freed, emptied-below, emptied-past, emptied-head}
use Rattle.step_laws.proofs.Rewritings.{rows_after, rewritten, Plan, rows_out, rewritten-row, length-rewritten, rewritten-out, rewritten-use}
use Rattle.step_laws.proofs.Rewritings.{rewritten-conceded, rewritten-capacity, rewritten-standing, last-weight, last-count, last-named}
use Rattle.step_laws.proofs.Rewritings.{last-first}

module _ (d : List ℕ) (kind w : ℕ) (named : List ℕ) (new : List Lits) (c : ℕ) (plan : Plan d w named new) where
  abbrev row : ℕ → ℕ
  row i = get_or named i 0

  abbrev after : List ℕ
  after = rewritten d kind w named new c

  -- all but the entry taken back
  abbrev cleared : List ℕ
  cleared = emptied after w row (length named) (in_use d) (length new) (conceded d)

  undo-is : last_conceded after ≡ c → undo_rewriting after ≡ withdrawn cleared
  unfolding undo_rewriting
  undo-is owes =
      let a = last-weight d kind w named new c plan in
      let b = last-first d kind w named new c plan in
      let k = last-count d kind w named new c plan in
      let u = rewritten-use d kind w named new c plan in
      let s = rewritten-conceded d kind w named new c plan in
      let same : reweighed (λ x. x + w) (last_named after) after (length named) ≡ reweighed (λ x. x + w) row after (length named) =
      reweighed-ext (λ x. x + w) (last_named after) row after (length named) (last-named d kind w named new c plan) in
      let n : in_use d + length new - in_use d ≡ length new = omega arith in
      let z : conceded d + c - c ≡ conceded d = omega arith in
      rw (a, b, k, u, s, owes, same, n, z)

  long : head_words ≤ length after
  long = rw (length-rewritten d kind w named new c plan) (head-inside plan.desk)

  -- a named row lies before the new rows and the entry, so that it has lost w and no more
  row-lowered : (i : ℕ) → i < length named → row_on after (row i) ≡ row_on (reweighed (λ x. x - w) row d (length named)) (row i)
  row-lowered i l =
      rewritten-row d kind w named new c plan (row i) (omega (arith, plan.used i l, plan.desk.fitting))
      ∙ unfold rows_after in laid-before (reweighed (λ x. x - w) row d (length named)) (in_use d) w new (row i) (plan.used i l)

  -- a row's weight less w, and w more
  row-regained : (i : ℕ) → i < length named → row_on (reweighed (λ x. x + w) row after (length named)) (row i) ≡ row_on d (row i)
  row-regained i l =
      let in-d : row_place (suc (row i)) ≤ length d = rows_inside plan.desk (suc (row i)) (omega (arith, plan.used i l, plan.desk.fitting)) in
      let down = row-lowered i l ∙ reweighed-at (λ x. x - w) row d (length named) plan.apart i l in-d in
      let more : (row_on d (row i)).weight - w + w ≡ (row_on d (row i)).weight = omega (arith, plan.heavy i l) in
      reweighed-at (λ x. x + w) row after (length named) plan.apart i l (rw (length-rewritten d kind w named new c plan) in-d)
      ∙ ap (λ (r : Row). with_weight r (r.weight + w)) down
      ∙ ap (with_weight (row_on d (row i))) more

  regained-at : (p : ℕ) → (p ≡ 1 → ⊥) → (p ≡ 3 → ⊥) → (p ≡ 4 → ⊥)
      → (p < entry_place d (standing d)) ⊎ (entry_place d (standing d) + entry_words ≤ p)
      → (p < row_place (in_use d)) ⊎ (row_place (in_use d + length new) ≤ p) → get_or (reweighed (λ x. x + w) row after (length named)) p 0 ≡ get_or d p 0
  regained-at p n1 n3 n4 out beside =
      ⊎_elim
      (λ h. missed (λ i l. inl (omega (arith, head-before (row i)))))
      (λ h.
      let j = row-at-place p h in
      ⊎_elim
      (hit j.0 j.1 j.2)
      (λ n. missed (λ i l. rows_apart (row i) j.0 p (n i l) j.1 j.2))
      (named-or-not (length named) row j.0))
      (lt-or-le p head_words)
    where
      before : get_or after p 0 ≡ get_or (reweighed (λ x. x - w) row d (length named)) p 0
      before = rewritten-out d kind w named new c plan p n1 n3 n4 out ∙ rows_out d w named new p beside

      missed : ((i : ℕ) → i < length named → Outside p (row i)) → get_or (reweighed (λ x. x + w) row after (length named)) p 0 ≡ get_or d p 0
      missed h = reweighed-out (λ x. x + w) row after (length named) p h ∙ before ∙ reweighed-out (λ x. x - w) row d (length named) p h

      hit : (j : ℕ) → row_place j ≤ p → p < row_place (suc j) → ((i : ℕ) × (i < length named) × (j ≡ row i))
          → get_or (reweighed (λ x. x + w) row after (length named)) p 0 ≡ get_or d p 0
      hit j a b q =
          words_same d (reweighed (λ x. x + w) row after (length named)) (row q.0) p
          (row-regained q.0 q.1) (rw (← q.2) a) (rw (← q.2) b)

  -- every word but those of the entry and of the count of steps
  cleared_at : Clean d → (p : ℕ) → (p ≡ 3 → ⊥) → (p < entry_place d (standing d)) ⊎ (entry_place d (standing d) + entry_words ≤ p) → get_or cleared p 0 ≡ get_or d p 0
  cleared_at clean p n3 out =
      ⊎_elim (λ q. rw q (emptied-use after w row (length named) (in_use d) (length new) (conceded d) long))
      (λ n1.
      ⊎_elim (λ q. rw q (emptied-conceded after w row (length named) (in_use d) (length new) (conceded d) long))
      (λ n4.
      ⊎_elim
      (λ a. emptied-below after w row (length named) (in_use d) (length new) (conceded d) p n1 n4 a ∙ regained-at p n1 n3 n4 out (inl a))
      (λ a.
      ⊎_elim
      (λ b. emptied-freed after w row (length named) (in_use d) (length new) (conceded d) p a b
      ∙ sym (clean.rows p a (omega (arith, place_mono plan.space))))
      (λ b. emptied-past after w row (length named) (in_use d) (length new) (conceded d) p b ∙ regained-at p n1 n3 n4 out (inr b))
      (lt-or-le p (row_place (in_use d + length new))))
      (lt-or-le p (row_place (in_use d))))
      (eq-or-ne p 4))
      (eq-or-ne p 1)

  pub rewriting-undone : Clean d → last_conceded after ≡ c → undo_rewriting after ≡ d
  rewriting-undone clean owes =
      let head : (p : ℕ) → (p < head_words) × (p ≡ 1 → ⊥) × (p ≡ 4 → ⊥) → get_or cleared p 0 ≡ get_or after p 0 =
      emptied-head after w row (length named) (in_use d) (length new) (conceded d) in
      undo-is owes
      ∙ withdrawn-back d cleared plan.desk clean plan.room
      (length-emptied after w row (length named) (in_use d) (length new) (conceded d) ∙ length-rewritten d kind w named new c plan)
      (head 2 (omega arith) ∙ rewritten-capacity d kind w named new c plan)
      (head 3 (omega arith) ∙ rewritten-standing d kind w named new c plan)
      (cleared_at clean)
