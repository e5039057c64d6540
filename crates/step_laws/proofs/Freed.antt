-- The parts of a taking back, each on any well-formed clean desk: the last entry withdrawn, a decision cleared, a rewriting's rows freed and
-- its named rows' weights regained. After each the desk is well formed and clean again; where weights grow, (d) is asked for.
use Prim.Native.Nat.{ℕ, suc, ◌+◌, ◌-◌, ◌*◌, ◌≤◌, ◌<◌}
use mathlib.Core.Path.{◌≡◌, sym, ◌∙◌}
use mathlib.Core.Logic.{inl, inr, ⊎_elim}
use mathlib.Core.Bool.{true, false, not, ◌&&◌}
use mathlib.Core.List.{List}
use native.Mathlib.Nat.{le_trans}
use native.Mathlib.Omega.{arith}
use lib.ListN.{length, get_or}
use Rattle.masks.specs.Masks.{has, without}
use Rattle.masks.proofs.Choice.{lt-or-le, and_left, and_right}
use Rattle.masks.proofs.Bits.{has-without}
use Rattle.masks.proofs.Sets.{within, within_of, without-lt}
use Rattle.rules.specs.Table.{most_weight, is_hard}
use Rattle.rules.specs.Desk.{head_words, variables, in_use, capacity, standing, decided, truths, loaded, entry_words}
use Rattle.rules.specs.Desk.{row_place, entry_place, desk_words, row_on, weight_on}
use Rattle.rules.specs.TakeBack.{last_place, withdrawn}
use Rattle.step_laws.specs.Clean.{Clean}
use Rattle.desk_laws.proofs.Formed.{rows_inside, Formed, head-inside, place_mono}
use Rattle.desk_laws.proofs.Stores.{reweighed-out, reweighed-marked}
use Rattle.step_laws.proofs.Entries.{last-past, withdrawn-head, withdrawn-row, length-withdrawn, withdrawn-standing, withdrawn-in, withdrawn-out}
use Rattle.step_laws.proofs.Undoing.{unset, unset-out, length-unset, unset-row, unset-decided, unset-truths, emptied, length-emptied}
use Rattle.step_laws.proofs.Undoing.{emptied-use, emptied-freed, emptied-past, emptied-head, emptied-row, emptied-lits}
use Rattle.desk_laws.proofs.Weights.{measured-same, weight-measured}

-- ---- the entry withdrawn

module _ (d : List ℕ) where
  withdrawn-capacity : capacity (withdrawn d) ≡ capacity d
  withdrawn-capacity = withdrawn-head d 2 (omega arith)

  withdrawn-use : in_use (withdrawn d) ≡ in_use d
  withdrawn-use = withdrawn-head d 1 (omega arith)

  pub withdrawn-weight : in_use d ≤ capacity d → weight_on (withdrawn d) ≡ weight_on d
  withdrawn-weight fits =
      weight-measured (withdrawn d)
      ∙ measured-same (λ l. 1) d (withdrawn d) (withdrawn-head d 4 (omega arith)) withdrawn-use (λ i h. withdrawn-row d i (omega arith))
      ∙ sym (weight-measured d)

module _ (d : List ℕ) (f : Formed d) (some : 1 ≤ standing d) where
  last-next : last_place d + entry_words ≡ entry_place d (standing d)
  unfolding last_place entry_place
  last-next = let e : entry_words * (standing d - 1) + entry_words ≡ entry_words * standing d = omega arith in omega arith

  withdrawn-place : entry_place (withdrawn d) (standing (withdrawn d)) ≡ last_place d
  unfolding entry_place last_place
  withdrawn-place = rw (withdrawn-standing d (omega (arith, head-inside f)), withdrawn-capacity d)

  pub withdrawn-formed : Formed (withdrawn d)
  withdrawn-formed =
      let v : variables (withdrawn d) ≡ variables d = withdrawn-head d 0 (omega arith) in
      let l : loaded (withdrawn d) ≡ loaded d = withdrawn-head d 7 (omega arith) in
      let m : decided (withdrawn d) ≡ decided d = withdrawn-head d 5 (omega arith) in
      let t : truths (withdrawn d) ≡ truths d = withdrawn-head d 6 (omega arith) in
      record {
        roomy = rw (withdrawn-capacity d) f.roomy;
        reaching = rw (withdrawn-capacity d, length-withdrawn d) f.reaching;
        named = rw v f.named;
        loads = rw l f.loads;
        kept = rw (l, withdrawn-use d) f.kept;
        fitting = rw (withdrawn-use d, withdrawn-capacity d) f.fitting;
        steps = rw (withdrawn-standing d (omega (arith, head-inside f))) (omega (arith, f.steps));
        sound = λ i h.
            let here : i < in_use d = rw (withdrawn-use d) at h in
            rw (v, withdrawn-row d i (omega (arith, f.fitting))) (f.sound i here);
        marked = λ i h.
            let here : i < in_use d = rw (withdrawn-use d) at h in
            rw (withdrawn-row d i (omega (arith, f.fitting))) (f.marked i here);
        light = rw (withdrawn-weight d f.fitting) f.light;
        nested = rw (t, m) f.nested;
        within = rw (m, v) f.within;
      }

  pub withdrawn-clean : Clean d → Clean (withdrawn d)
  unfolding row_place
  withdrawn-clean clean =
      record {
        rows = λ p a b.
            let here : row_place (in_use d) ≤ p = rw (withdrawn-use d) at a in
            let there : p < row_place (capacity d) = rw (withdrawn-capacity d) at b in
            withdrawn-out d p (λ q. omega arith) (inl (omega (arith, last-past d))) ∙ clean.rows p here there;
        entries = λ p a b.
            let here : last_place d ≤ p = rw withdrawn-place at a in
            let there : p < desk_words (capacity d) = rw (withdrawn-capacity d) at b in
            ⊎_elim
            (λ h. withdrawn-in d p (λ q. omega (arith, last-past d)) here h)
            (λ h. withdrawn-out d p (λ q. omega (arith, last-past d)) (inr h) ∙ clean.entries p (rw (← last-next) h) there)
            (lt-or-le p (last_place d + entry_words));
      }

-- ---- a decision cleared

module _ (d : List ℕ) (f : Formed d) (v : ℕ) where
  abbrev e : List ℕ
  e = unset d v

  -- what is within a mask stays so where both lose the same
  both-less : without (without (truths d) v) (without (decided d) v) ≡ 0
  both-less =
      within_of (without (truths d) v) (without (decided d) v)
      (λ w h.
      let parts : (has (truths d) w && not (has v w)) ≡ true = sym (has-without (truths d) v w) ∙ h in
      has-without (decided d) v w ∙ rw (within (truths d) (decided d) f.nested w (and_left (has (truths d) w) (not (has v w)) parts))
      (and_right (has (truths d) w) (not (has v w)) parts))

  pub unset-formed : Formed e
  unset-formed =
      let head : (p : ℕ) → p < 5 → get_or e p 0 ≡ get_or d p 0 = λ p h. unset-out d v p (λ q. omega arith) (λ q. omega arith) in
      let n : variables e ≡ variables d = head 0 (omega arith) in
      let u : in_use e ≡ in_use d = head 1 (omega arith) in
      let c : capacity e ≡ capacity d = head 2 (omega arith) in
      let s : standing e ≡ standing d = head 3 (omega arith) in
      let l : loaded e ≡ loaded d = unset-out d v 7 (λ q. omega arith) (λ q. omega arith) in
      let m = unset-decided d v (head-inside f) in
      let t = unset-truths d v (head-inside f) in
      record {
        roomy = rw c f.roomy;
        reaching = rw (c, length-unset d v) f.reaching;
        named = rw n f.named;
        loads = rw l f.loads;
        kept = rw (l, u) f.kept;
        fitting = rw (u, c) f.fitting;
        steps = rw s f.steps;
        sound = λ i h. rw (n, unset-row d v i) (f.sound i (rw u at h));
        marked = λ i h. rw (unset-row d v i) (f.marked i (rw u at h));
        light = rw (weight-measured e, measured-same (λ k. 1) d e (head 4 (omega arith)) u (λ i h. unset-row d v i), ← weight-measured d) f.light;
        nested = rw (t, m) both-less;
        within = rw (m, n) (without-lt (variables d) v f.within);
      }

  pub unset-clean : Clean d → Clean e
  unfolding row_place entry_place
  unset-clean clean =
      let u : in_use e ≡ in_use d = unset-out d v 1 (λ q. omega arith) (λ q. omega arith) in
      let c : capacity e ≡ capacity d = unset-out d v 2 (λ q. omega arith) (λ q. omega arith) in
      let s : standing e ≡ standing d = unset-out d v 3 (λ q. omega arith) (λ q. omega arith) in
      record {
        rows = λ p a b.
            let here : row_place (in_use d) ≤ p = rw u at a in
            let there : p < row_place (capacity d) = rw c at b in
            unset-out d v p (λ q. omega arith) (λ q. omega arith) ∙ clean.rows p here there;
        entries = λ p a b.
            let here : row_place (capacity d) + entry_words * standing d ≤ p = rw (c, s) at a in
            let there : p < desk_words (capacity d) = rw c at b in
            unset-out d v p (λ q. omega arith) (λ q. omega arith) ∙ clean.entries p here there;
      }

-- ---- a rewriting's rows freed and weights regained

module _ (d : List ℕ) (f : Formed d) (w : ℕ) (row : ℕ → ℕ) (k first c : ℕ) (loads : loaded d ≤ first) (fits : first ≤ in_use d)
    (below : (i : ℕ) → i < k → row i < first) where
  abbrev rest : List ℕ
  rest = emptied d w row k first (in_use d - first) c

  head : (p : ℕ) → (p < head_words) × (p ≡ 1 → ⊥) × (p ≡ 4 → ⊥) → get_or rest p 0 ≡ get_or d p 0
  head = emptied-head d w row k first (in_use d - first) c

  -- the named rows lie within the lent words
  inside : (i : ℕ) → i < k → row_place (suc (row i)) ≤ length d
  inside i l = rows_inside f (suc (row i)) (omega (arith, below i l, f.fitting))

  freed-use : in_use rest ≡ first
  freed-use = emptied-use d w row k first (in_use d - first) c (head-inside f)

  -- past the rows that were in use, all is as it was
  past-use : (p : ℕ) → row_place (in_use d) ≤ p → get_or rest p 0 ≡ get_or d p 0
  unfolding row_place
  past-use p h =
      emptied-past d w row k first (in_use d - first) c p (omega arith)
      ∙ reweighed-out (λ x. x + w) row d k p (λ i l. inr (omega (arith, below i l)))

  within-use : (p : ℕ) → p < row_place (in_use d) → p < row_place (first + (in_use d - first))
  unfolding row_place
  within-use p h = omega arith

  pub freed-formed : ((i : ℕ) → i < k → is_hard (row_on d (row i)) ≡ false) → weight_on rest ≤ most_weight → Formed rest
  freed-formed soft light =
      let n : variables rest ≡ variables d = head 0 (omega arith) in
      let cap : capacity rest ≡ capacity d = head 2 (omega arith) in
      let s : standing rest ≡ standing d = head 3 (omega arith) in
      let m : decided rest ≡ decided d = head 5 (omega arith) in
      let t : truths rest ≡ truths d = head 6 (omega arith) in
      let l : loaded rest ≡ loaded d = head 7 (omega arith) in
      record {
        roomy = rw cap f.roomy;
        reaching = rw (cap, length-emptied d w row k first (in_use d - first) c) f.reaching;
        named = rw n f.named;
        loads = rw l f.loads;
        kept = rw (l, freed-use) loads;
        fitting = rw (freed-use, cap) (omega (arith, f.fitting));
        steps = rw s f.steps;
        sound = λ i h.
            let here : i < first = rw freed-use at h in
            rw (n, emptied-lits d w row k first (in_use d - first) c inside i here) (f.sound i (omega arith));
        marked = λ i h.
            let here : i < first = rw freed-use at h in
            rw (emptied-row d w row k first (in_use d - first) c i here) (reweighed-marked (λ x. x + w) row d k inside soft i (f.marked i (omega arith)));
        light = light;
        nested = rw (t, m) f.nested;
        within = rw (m, n) f.within;
      }

  pub freed-clean : Clean d → Clean rest
  unfolding entry_place
  freed-clean clean =
      let cap : capacity rest ≡ capacity d = head 2 (omega arith) in
      let s : standing rest ≡ standing d = head 3 (omega arith) in
      record {
        rows = λ p a b.
            let here : row_place first ≤ p = rw freed-use at a in
            let there : p < row_place (capacity d) = rw cap at b in
            ⊎_elim (λ h. emptied-freed d w row k first (in_use d - first) c p here (within-use p h)) (λ h. past-use p h ∙ clean.rows p h there)
            (lt-or-le p (row_place (in_use d)));
        entries = λ p a b.
            let here : row_place (capacity d) + entry_words * standing d ≤ p = rw (cap, s) at a in
            let there : p < desk_words (capacity d) = rw cap at b in
            past-use p (le_trans (place_mono f.fitting) (omega arith)) ∙ clean.entries p here there;
      }
