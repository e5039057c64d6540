-- An accepted rewriting, whatever its kind: taking it back is accepted and gives the words before it, the desk stays well formed and clean,
-- and every reading that keeps the decisions weighs what it did.
-- Each kind's debts (`yields`) make it a plan, and the laws of any plan do the rest: words, balance and undoing.
use Rattle.std.specs.Prelude.{Ok}
use Prim.Native.Nat.{ℕ, zero, suc, ◌+◌, ◌-◌, ◌*◌, ◌≤◌, ◌<◌}
use mathlib.Core.Path.{◌≡◌, refl, sym, ap, ◌∙◌}
use mathlib.Core.Logic.{◌⊎◌, inl, inr, ⊎_elim}
use mathlib.Core.Bool.{Bool, true, false, cond, not, ◌&&◌, ◌||◌, or-true}
use mathlib.Core.List.{List, [], ◌∷◌}
use native.Mathlib.Nat.{le_trans, mul-add, mul-le-mul_left}
use native.Mathlib.Omega.{arith}
use borrow.Author.Tests.{eqb-true, eq-eqb, ne_eqb, le-leb, le-ltb, lt-ltb}
use lib.Bits.{bit_and}
use lib.Dec.{eqb, ltb}
use lib.ListN.{length, get_or}
use Rattle.masks.specs.Sums.{sum, every}
use Rattle.masks.proofs.Choice.{lt-or-le, same_test}
use Rattle.masks.proofs.Sums.{sum-ext, smallest-le, every_true}
use Rattle.literals.specs.declared.Lits.{Lits}
use Rattle.rules.specs.Table.{most_weight, is_hard, bad_mark}
use Rattle.rules.specs.Desk.{head_words, variables, in_use, capacity, standing, conceded, decided, truths, loaded, entry_words, row_place, entry_place}
use Rattle.rules.specs.Desk.{desk_words, row_on, weight_on, weight_fits, decisions, remnant}
use Rattle.rules.specs.Rewrite.{apart_from, given, lightest}
use Rattle.rules.specs.Steps.{most_named, most, fewer_added, count_fits, distinct, remnant_of, stored, empties, reweighed}
use Rattle.rules.specs.TakeBack.{last_kind, last_count, last_named, last_first, merged_empty, last_conceded, undo_rewriting, take_back_step, bad_rewriting}
use Rattle.rules.specs.TakeBack.{bad_last, take_back_why}
use Rattle.step_laws.specs.Clean.{Clean}
use Rattle.desk_laws.proofs.Formed.{Sound, Formed, well, rows_inside}
use Rattle.desk_laws.proofs.Stores.{Distinct, laid-before, laid-at, reweighed-out, reweighed-keeps, reweighed-lits, reweighed-marked, length-reweighed}
use Rattle.desk_laws.proofs.Verdicts.{Rewritten}
use Rattle.step_laws.proofs.Entries.{entry_past, entry_next}
use Rattle.desk_laws.proofs.Weights.{missed, measured, weight-measured}
use Rattle.step_laws.proofs.Rewritings.{rows_after, rewritten, Plan, rows_out, length-rewritten, rewritten-out, rewritten-head, rewritten-use}
use Rattle.step_laws.proofs.Rewritings.{rewritten-conceded, rewritten-capacity, rewritten-standing, rewritten-row, last-kind, last-weight}
use Rattle.step_laws.proofs.Rewritings.{last-count, last-named, last-first}
use Rattle.step_laws.proofs.Undone.{rewriting-undone}
use Rattle.step_laws.proofs.Balance.{total, balance}
use Rattle.desk_laws.proofs.Readings.{holds-remnant}
use Rattle.step_laws.proofs.Sounds.{apart-sound, each_at, stored-each, stored-count, total-stored}
use Rattle.step_laws.proofs.ByKind.{Yields, yields, by_kind, counted}

-- a remnant is the row apart from the decided variables
pub remnant-sound : (n : ℕ) (d : List ℕ) {l : Lits} → Sound n l → Sound n (remnant (decisions d) l)
remnant-sound n d s = unfold remnant decisions in (unfold apart_from in apart-sound (decided d) s)

most-named : (kind : ℕ) → 1 ≤ kind → kind ≤ 4 → most kind ≤ most_named
unfolding most
most-named = by_kind (λ k. most k ≤ most_named) (omega arith) (omega arith) (omega arith) (omega arith)

sum_ones : (k : ℕ) → sum k (λ i. 1) ≡ k
unfolding sum
sum_ones zero = refl
sum_ones (suc k) = omega (arith, sum_ones k)

total-ones : (ls : List Lits) → total (λ l. 1) ls ≡ length ls
unfolding total
total-ones [] = refl
total-ones (l ∷ ls) = omega (arith, total-ones ls)

apart_distinct : (n : ℕ) (row : ℕ → ℕ) → Distinct n row → distinct n row ≡ true
unfolding distinct
apart_distinct n row apart = every_true n (λ j l. every_true j (λ i m. rw (ne_eqb (row i) (row j) (apart i j m l))))

module _ (d : List ℕ) (kind : ℕ) (named : List ℕ) (ok : Rewritten d kind named) where
  abbrev w : ℕ
  w = lightest d named

  abbrev rows : List Lits
  rows = given d kind named

  abbrev new : List Lits
  new = stored rows

  abbrev owed : ℕ
  owed = w * empties rows

  pub remnants-sound : (i : ℕ) → i < length named → Sound (variables d) (remnant_of d named i)
  unfolding remnant_of
  remnants-sound i h = remnant-sound (variables d) d (ok.desk.sound (get_or named i 0) (ok.used i h))

  debts : Yields (variables d) kind (length named) (remnant_of d named)
  debts =
      yields (variables d) ok.desk.named (remnant_of d named) kind (length named) ok.known.0 ok.known.1 ok.counted remnants-sound ok.fitted

  pub plan : Plan d w named new
  unfolding lightest
  plan =
      record {
        desk = ok.desk;
        room = ok.room;
        few = omega (arith, counted kind (length named) ok.counted, most-named kind ok.known.0 ok.known.1);
        used = ok.used;
        apart = ok.apart;
        heavy = λ i l. smallest-le (length named - 1) (λ j. (row_on d (get_or named j 0)).weight) i (omega arith);
        space = ok.space;
      }

  abbrev after : List ℕ
  after = rewritten d kind w named new owed

  -- ---- taken back

  no_more : (u n : ℕ) → eqb (u + n) u ≡ eqb n 0
  no_more u n = same_test (λ t. eq-eqb n 0 (omega (arith, eqb-true (u + n) u t))) (λ t. eq-eqb (u + n) u (omega (arith, eqb-true n 0 t)))

  merged-empty : merged_empty after ≡ (eqb kind 1 && eqb (length new) 0)
  unfolding merged_empty
  merged-empty =
      rw (
        last-kind d kind w named new owed plan,
        rewritten-use d kind w named new owed plan,
        last-first d kind w named new owed plan,
        no_more
            (in_use d) (length new),
      )

  owes : last_conceded after ≡ owed
  unfolding last_conceded given
  owes = rw (last-weight d kind w named new owed plan, merged-empty, last-kind d kind w named new owed plan) (ap (λ (x : ℕ). w * x) (sym debts.owed))

  not-decision : eqb kind 0 ≡ false
  not-decision = ne_eqb kind 0 (λ q. omega (arith, ok.known))

  pub undone : Clean d → take_back_step after ≡ d
  unfolding take_back_step
  undone clean = rw (last-kind d kind w named new owed plan, not-decision) (rewriting-undone d kind w named new owed plan clean owes)

  -- ---- weights

  -- a measure of the rows given, taken over the stored ones
  pub weights-kept : (reading : ℕ) → bit_and reading (decided d) ≡ truths d → measured (missed reading) after ≡ measured (missed reading) d
  unfolding remnant_of given missed
  weights-kept reading agrees =
      let m = missed reading in
      let rows_as : sum (length named) (λ i. m (row_on d (get_or named i 0)).lits) ≡ sum (length named) (λ i. m (remnant_of d named i)) =
      sum-ext (length named) (λ i l. ap (λ (b : Bool). cond b 0 1)
      (sym (holds-remnant d reading (row_on d (get_or named i 0)).lits agrees (ok.unsatisfied i l)))) in
      let same : sum (length named) (λ i. m (row_on d (get_or named i 0)).lits) ≡ empties rows + total m new =
      rows_as ∙ debts.balanced reading ∙ total-stored reading rows in
      let scaled : w * sum (length named) (λ i. m (row_on d (get_or named i 0)).lits) ≡ w * empties rows + w * total m new =
      ap (λ (x : ℕ). w * x) same ∙ mul-add w (empties rows) (total m new) in
      omega (arith, balance m d kind w named new owed plan)

  pub weight-no-more : weight_on after ≤ weight_on d
  unfolding given
  weight-no-more =
      let few : w * (length new + empties rows) ≤ w * length named = mul-le-mul_left w (rw (stored-count rows) debts.fewer) in
      rw (weight-measured after, weight-measured d)
      (omega (
        arith,
        balance (λ l. 1) d kind w named new owed plan,
        mul-add w (length new) (empties rows),
        ap (λ (x : ℕ). w * x)
            (sum_ones (length named)),
        ap (λ (x : ℕ). w * x) (total-ones new),
      ))

  -- ---- well formed and clean

  head-same : (p : ℕ) → (p < head_words) × (p ≡ 1 → ⊥) × (p ≡ 3 → ⊥) × (p ≡ 4 → ⊥) → get_or after p 0 ≡ get_or d p 0
  head-same = rewritten-head d kind w named new owed plan

  row-sound : (i : ℕ) → i < in_use d + length new → Sound (variables d) (row_on after i).lits
  unfolding rows_after given
  row-sound i h =
      let f : List ℕ = reweighed (λ x. x - w) (λ j. get_or named j 0) d (length named) in
      let inside : row_place (in_use d + length new) ≤ length f =
      rw (length-reweighed (λ x. x - w) (λ j. get_or named j 0) d (length named)) (rows_inside ok.desk (in_use d + length new) ok.space) in
      let lent : (j : ℕ) → j < length named → row_place (suc (get_or named j 0)) ≤ length d =
      λ j l. rows_inside ok.desk (suc (get_or named j 0)) (omega (arith, ok.used j l, ok.desk.fitting)) in
      rw (rewritten-row d kind w named new owed plan i (omega (arith, ok.space)))
      (⊎_elim
      (λ l. rw (laid-before f (in_use d) w new i l, reweighed-lits (λ x. x - w) (λ j. get_or named j 0) d (length named) lent i) (ok.desk.sound i l))
      (λ l.
      let e : in_use d + (i - in_use d) ≡ i = omega arith in
      let place : i - in_use d < length new = omega arith in
      rw (← e, laid-at f (in_use d) w new inside (i - in_use d) place)
      (each_at (Sound (variables d)) new (stored-each (Sound (variables d)) rows debts.sound) (i - in_use d) place))
      (lt-or-le i (in_use d)))

  row-marked : (i : ℕ) → i < in_use d + length new → bad_mark (row_on after i) ≡ false
  unfolding rows_after given bad_mark is_hard
  row-marked i h =
      let f : List ℕ = reweighed (λ x. x - w) (λ j. get_or named j 0) d (length named) in
      let inside : row_place (in_use d + length new) ≤ length f =
      rw (length-reweighed (λ x. x - w) (λ j. get_or named j 0) d (length named)) (rows_inside ok.desk (in_use d + length new) ok.space) in
      let lent : (j : ℕ) → j < length named → row_place (suc (get_or named j 0)) ≤ length d =
      λ j l. rows_inside ok.desk (suc (get_or named j 0)) (omega (arith, ok.used j l, ok.desk.fitting)) in
      rw (rewritten-row d kind w named new owed plan i (omega (arith, ok.space)))
      (⊎_elim
      (λ l.
      rw (laid-before f (in_use d) w new i l)
      (reweighed-marked (λ x. x - w) (λ j. get_or named j 0) d (length named) lent ok.soft i (ok.desk.marked i l)))
      (λ l.
      let e : in_use d + (i - in_use d) ≡ i = omega arith in
      rw (← e, laid-at f (in_use d) w new inside (i - in_use d) (omega arith)))
      (lt-or-le i (in_use d)))

  pub rewritten-formed : Formed after
  rewritten-formed =
      let f = ok.desk in
      let u = rewritten-use d kind w named new owed plan in
      let c = rewritten-capacity d kind w named new owed plan in
      let v : variables after ≡ variables d = head-same 0 (omega arith) in
      let l : loaded after ≡ loaded d = head-same 7 (omega arith) in
      let m : decided after ≡ decided d = head-same 5 (omega arith) in
      let t : truths after ≡ truths d = head-same 6 (omega arith) in
      record {
        roomy = rw c f.roomy;
        reaching = rw (c, length-rewritten d kind w named new owed plan) f.reaching;
        named = rw v f.named;
        loads = rw l f.loads;
        kept = rw (l, u) (omega (arith, f.kept));
        fitting = rw (u, c) ok.space;
        steps = rw (rewritten-standing d kind w named new owed plan) (omega (arith, ok.room));
        sound = λ i h. rw v (row-sound i (rw u at h));
        marked = λ i h. row-marked i (rw u at h);
        light = le_trans weight-no-more f.light;
        nested = rw (t, m) f.nested;
        within = rw (m, v) f.within;
      }

  pub rewritten-clean : Clean d → Clean after
  unfolding row_place
  rewritten-clean clean =
      record {
        rows = λ p a b.
            let here : row_place (in_use d + length new) ≤ p = rw (rewritten-use d kind w named new owed plan) at a in
            let there : p < row_place (capacity d) = rw (rewritten-capacity d kind w named new owed plan) at b in
            out p (λ q. omega arith) (λ q. omega arith) (λ q. omega arith) (inl (omega (arith, entry_past d (standing d)))) here
            ∙ clean.rows p (omega arith) there;
        entries = λ p a b.
            let here : entry_place d (standing d) + entry_words ≤ p = next p a in
            let there : p < desk_words (capacity d) = rw (rewritten-capacity d kind w named new owed plan) at b in
            let far : row_place (capacity d) ≤ p = omega (arith, entry_past d (standing d)) in
            out p (λ q. omega arith) (λ q. omega arith) (λ q. omega arith) (inr here) (omega (arith, ok.space)) ∙ clean.entries p (omega arith) there;
      }
    where
      next : (p : ℕ) → entry_place after (standing after) ≤ p → entry_place d (standing d) + entry_words ≤ p
      next p a = rw (entry_next d after (rewritten-capacity d kind w named new owed plan) (rewritten-standing d kind w named new owed plan)) at a

      out : (p : ℕ) → (p ≡ 1 → ⊥) → (p ≡ 3 → ⊥) → (p ≡ 4 → ⊥) → (p < entry_place d (standing d)) ⊎ (entry_place d (standing d) + entry_words ≤ p)
          → row_place (in_use d + length new) ≤ p → get_or after p 0 ≡ get_or d p 0
      out p a b c h k =
          rewritten-out d kind w named new owed plan p a b c h ∙ rows_out d w named new p (inr k)
          ∙ reweighed-out (λ x. x - w) (λ i. get_or named i 0) d (length named) p (λ i l. inr (omega (arith, ok.used i l)))

  -- ---- taking it back is accepted

  adds-as : (eqb (in_use after + fewer_added (last_kind after)) (last_first after + last_count after) || merged_empty after) ≡ true
  unfolding given
  adds-as =
      rw (
        merged-empty,
        last-kind d kind w named new owed plan,
        last-first d kind w named new owed plan,
        last-count d kind w named new owed plan,
        rewritten-use d kind w named new owed plan,
      )
      (⊎_elim
      (λ q. rw (eq-eqb (in_use d + length new + fewer_added kind) (in_use d + length named) (omega arith)))
      (λ q. rw (eq-eqb kind 1 q.0, eq-eqb (length new) 0 q.1) (or-true (eqb (in_use d + length new + fewer_added kind) (in_use d + length named))))
      debts.adds)

  -- a named row is as soft as it was
  named-soft : (i : ℕ) → i < length named → is_hard (row_on after (get_or named i 0)) ≡ false
  unfolding rows_after is_hard
  named-soft i l =
      let f : List ℕ = reweighed (λ x. x - w) (λ j. get_or named j 0) d (length named) in
      let lent : (j : ℕ) → j < length named → row_place (suc (get_or named j 0)) ≤ length d =
      λ j l. rows_inside ok.desk (suc (get_or named j 0)) (omega (arith, ok.used j l, ok.desk.fitting)) in
      rw (
        rewritten-row d kind w named new owed plan (get_or named i 0) (omega (arith, ok.used i l, ok.space)),
        laid-before f (in_use d) w new (get_or named i 0) (ok.used i l),
        reweighed-keeps (λ x. x - w) (λ j. get_or named j 0) d (λ r. r.mark) (λ r x. refl) (length named) lent (get_or named i 0),
      )
      (ok.soft i l)

  sound-entry : Clean d → bad_rewriting after ≡ false
  unfolding bad_rewriting
  sound-entry clean =
      let k = last-kind d kind w named new owed plan in
      let n = last-count d kind w named new owed plan in
      let first = last-first d kind w named new owed plan in
      let counts : count_fits (last_kind after) (last_count after) ≡ true = rw (k, n) ok.counted in
      let once : distinct (last_count after) (last_named after) ≡ true =
      rw n (apart_distinct (length named) (last_named after)
      (λ i j a b e. ok.apart i j a b (sym (last-named d kind w named new owed plan i (omega arith)) ∙ e ∙ last-named d kind w named new owed plan j b))) in
      let before : every (last_count after) (λ i. ltb (last_named after i) (last_first after)) ≡ true =
      rw n (every_true (length named)
      (λ i l. lt-ltb (last_named after i) (last_first after) (rw (first, last-named d kind w named new owed plan i l) (ok.used i l)))) in
      let softs : every (last_count after) (λ i. not (is_hard (row_on after (last_named after i)))) ≡ true =
      rw n (every_true (length named) (λ i l. rw (last-named d kind w named new owed plan i l, named-soft i l))) in
      let loads : ltb (last_first after) (loaded after) ≡ false =
      rw (first, head-same 7 (omega arith)) (le-ltb (in_use d) (loaded d) ok.desk.kept) in
      let repaid : ltb (conceded after) (last_conceded after) ≡ false =
      rw (owes, rewritten-conceded d kind w named new owed plan) (le-ltb (conceded d + owed) owed (omega arith)) in
      let light : weight_fits (undo_rewriting after) ≡ true =
      rw (rewriting-undone d kind w named new owed plan clean owes) (unfold weight_fits in le-leb (weight_on d) most_weight ok.desk.light) in
      rw (counts, once, before, loads, adds-as, repaid, softs, light)

  pub back-fine : Clean d → take_back_why after ≡ Ok tt
  unfolding take_back_why bad_last
  back-fine clean =
      rw (
        well rewritten-formed,
        rewritten-standing d kind w named new owed plan,
        ne_eqb (standing d + 1) 0 (λ q. omega arith),
        last-kind d kind w named new owed plan,
        le-ltb 4 kind ok.known.1,
        not-decision,
        sound-entry clean,
      )
