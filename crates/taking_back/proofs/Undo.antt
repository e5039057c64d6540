-- What an accepted taking back has shown, in the words of the functions that write it.
use Rattle.std.specs.Prelude.{Ok}
use Prim.Native.Nat.{ℕ, ◌+◌, ◌-◌, ◌*◌, ◌≤◌, ◌<◌}
use mathlib.Core.Path.{◌≡◌, sym, ap, ◌∙◌}
use mathlib.Core.List.{List}
use mathlib.Core.Bool.{true, false, not, cond}
use native.Mathlib.Nat.{mul-le-mul_right}
use native.Mathlib.Omega.{arith}
use lib.ListN.{length, get_or, set, take, length-set}
use lib.Seq.{get_or-set_other, get_or-take, length-take-le}
use lib.Dec.{eqb, ltb}
use borrow.Author.Tests.{eq-eqb, ne_eqb, leb-true, eqb-false, ltb-false}
use Rattle.masks.specs.Masks.{has}
use Rattle.masks.specs.Words.{zeroed}
use Rattle.masks.proofs.Words.{zeroed-before, length-zeroed}
use Rattle.masks.proofs.Sums.{le-sum}
use Rattle.masks.proofs.Choice.{or_left, or_right}
use Rattle.rules.specs.Table.{row_words, most_weight}
use Rattle.rules.specs.Desk.{head_words, in_use, conceded, decided, row_place, desk_words, row_on, weight_on, weight_fits}
use Rattle.rules.specs.Steps.{most_named, reweighed}
use Rattle.rules.specs.TakeBack.{last_kind, last_variable, last_weight, last_count, last_named, last_first, bad_decision, bad_rewriting}
use Rattle.rules.specs.TakeBack.{bad_last, take_back_why, last_conceded, withdrawn, undo_rewriting}
use Rattle.desk_laws.proofs.Formed.{well}
use Rattle.desk_laws.proofs.Stores.{length-reweighed, reweighed-head, reweighed-ext}
use Rattle.step_laws.proofs.TakingBack.{Taken, take-back-fine}
use Rattle.words.specs.Room.{StepStands}
use Rattle.named.specs.Reweigh.{Reweighable, named_reweighed}
use Rattle.last_entry.specs.Last.{Stands}
use Rattle.last_entry.proofs.Lasts.{step-stands}
use Rattle.last_entry.proofs.Bad.{Good, good, named-apart, named-below, few, some, first_fits}
use Rattle.last_entry.proofs.Regained.{weight-after}

two-times : (w : ℕ) → 2 * w ≡ w + w
two-times w = omega arith

pub still-stands : (d e : List ℕ) → get_or e 2 0 ≡ get_or d 2 0 → get_or e 3 0 ≡ get_or d 3 0 → length e ≡ length d → StepStands d → StepStands e
still-stands d e c s n h =
    record { fits = omega (arith, c, h.fits); reach = omega (arith, c, n, h.reach); some = omega (arith, s, h.some); few = omega (arith, s, h.few) }

pub still-by-two : (d : List ℕ) (p q a b : ℕ) → (p ≡ 2 → ⊥) → (p ≡ 3 → ⊥) → (q ≡ 2 → ⊥) → (q ≡ 3 → ⊥) → StepStands d → StepStands (set (set d p a) q b)
still-by-two d p q a b p2 p3 q2 q3 h =
    still-stands d (set (set d p a) q b)
    (get_or-set_other (set d p a) q 2 b 0 (λ e. q2 (sym e)) ∙ get_or-set_other d p 2 a 0 (λ e. p2 (sym e)))
    (get_or-set_other (set d p a) q 3 b 0 (λ e. q3 (sym e)) ∙ get_or-set_other d p 3 a 0 (λ e. p3 (sym e)))
    (length-set (set d p a) q b ∙ length-set d p a) h

module _ (d : List ℕ) (fine : take_back_why d ≡ Ok tt) where
  pub taken : Taken d
  taken = take-back-fine d fine

  pub standing-still : Stands d
  standing-still = record { formed = well taken.desk; some = taken.some }

  pub steps-still : StepStands d
  steps-still = step-stands d standing-still

  pub head-fits : head_words ≤ length d
  unfolding desk_words row_place
  head-fits = omega (arith, taken.desk.reaching)

  -- a decision's variable is not 0
  pub variable-some : last_kind d ≡ 0 → 1 ≤ last_variable d
  unfolding bad_last bad_decision
  variable-some k =
      let later : bad_decision d ≡ false =
      rw (eq-eqb (last_kind d) 0 k) at (or_right (ltb 4 (last_kind d)) (cond (eqb (last_kind d) 0) (bad_decision d) (bad_rewriting d)) taken.entry) in
      omega (arith, eqb-false (last_variable d) 0 (or_left (eqb (last_variable d) 0) (not (has (decided d) (last_variable d - 1))) later))

  module _ (some-kind : 0 < last_kind d) where
    known : last_kind d ≤ 4
    unfolding bad_last
    known = ltb-false 4 (last_kind d) (or_left (ltb 4 (last_kind d)) (cond (eqb (last_kind d) 0) (bad_decision d) (bad_rewriting d)) taken.entry)

    pub entry-good : Good d
    unfolding bad_last
    entry-good =
        good d (rw (ne_eqb (last_kind d) 0 (λ e. omega arith))
        at (or_right (ltb 4 (last_kind d)) (cond (eqb (last_kind d) 0) (bad_decision d) (bad_rewriting d)) taken.entry))

    pub few-rows : last_count d ≤ most_named
    few-rows = few d some-kind known entry-good.count

    pub use-fits : last_first d ≤ in_use d
    use-fits = first_fits d some-kind known entry-good.count entry-good.added

    below : (i : ℕ) → i < last_count d → last_named d i < last_first d
    below = named-below d entry-good.named

    light : last_weight d ≤ most_weight
    unfolding weight_fits
    light =
        let total = leb-true (weight_on (undo_rewriting d)) most_weight entry-good.light in
        omega (
          arith,
          total,
          weight-after d taken.desk use-fits (named-apart d entry-good.named) below,
          mul-le-mul_right (last_weight d) (some d some-kind known entry-good.count),
          two-times (last_weight d),
        )

    weight-fits : (i : ℕ) → i < in_use d → (row_on d i).weight ≤ most_weight
    unfolding weight_on
    weight-fits i h = omega (arith, le-sum (in_use d) (λ k. (row_on d k).weight) i h, taken.desk.light)

    abbrev pub regained : List ℕ
    regained = reweighed (λ x. x + last_weight d) (last_named d) d (last_count d)

    pub length-regained : length regained ≡ length d
    length-regained = length-reweighed (λ x. x + last_weight d) (last_named d) d (last_count d)

    module _ (rows : List ℕ) (len : length rows ≡ most_named) (same : (i : ℕ) → i < most_named → get_or rows i 0 ≡ last_named d i) where
      abbrev named : List ℕ
      named = take (last_count d) rows

      pub named-length : length named ≡ last_count d
      named-length = length-take-le (last_count d) rows (omega (arith, few-rows))

      named-at : (i : ℕ) → i < last_count d → get_or named i 0 ≡ last_named d i
      named-at i l = get_or-take (last_count d) rows i 0 l ∙ same i (omega (arith, few-rows))

      pub can-regain : Reweighable d named (last_weight d) true
      unfolding desk_words row_place
      can-regain =
          record {
            inside =
                λ i l. let k : i < last_count d =
                omega (arith, named-length) in omega (arith, named-at i k, below i k, use-fits, taken.desk.reaching, taken.desk.fitting);
            apart =
                λ i j l m e. named-apart d entry-good.named i j l (omega (arith, named-length))
                (sym (named-at i (omega (arith, named-length))) ∙ e ∙ named-at j (omega (arith, named-length)));
            fits =
                λ i l. let k : i < last_count d =
                omega (arith, named-length) in rw (named-at i k) (omega (arith, weight-fits (last_named d i) (omega (arith, below i k, use-fits)), light));
            holds = λ i l. omega arith;
          }

      pub regained-same : {w n : ℕ} {e : List ℕ} → w ≡ last_weight d → n ≡ last_count d → e ≡ named_reweighed d (take n rows) w true → e ≡ regained
      regained-same {w} {n} weight count here =
          here
          ∙ ap (λ (u : ℕ). named_reweighed d (take n rows) u true) weight
          ∙ ap (λ (m : ℕ). named_reweighed d (take m rows) (last_weight d) true) count
          ∙ ap (reweighed (λ x. x + last_weight d) (λ i. get_or named i 0) d) named-length
          ∙ reweighed-ext (λ x. x + last_weight d) (λ i. get_or named i 0) (last_named d) d (last_count d) named-at

    abbrev pub freed : List ℕ
    freed = zeroed regained (row_place (last_first d)) (row_words * (in_use d - last_first d))

    pub freed-same : {first : ℕ} {e x : List ℕ} → first ≡ last_first d → e ≡ regained → x ≡ zeroed e (row_place first) (row_words * (in_use d - first)) → x ≡ freed
    freed-same f p here = here ∙ rw (f, p)

    -- the whole undoing, from its parts
    pub undone-whole : {first back : ℕ} {e x : List ℕ} → first ≡ last_first d → back ≡ last_conceded d → e ≡ freed
        → x ≡ withdrawn (set (set e 1 first) 4 (conceded d - back)) → x ≡ undo_rewriting d
    unfolding undo_rewriting
    undone-whole f b p here = here ∙ rw (f, b, p)

    pub stands_after : StepStands freed
    unfolding row_place
    stands_after =
        let same : (p : ℕ) → p < head_words → get_or freed p 0 ≡ get_or d p 0 =
        λ p h. zeroed-before regained (row_place (last_first d)) (row_words * (in_use d - last_first d)) p (omega arith)
        ∙ reweighed-head (λ x. x + last_weight d) (last_named d) d (last_count d) p h in
        still-stands d freed (same 2 (omega arith)) (same 3 (omega arith))
        (length-zeroed regained (row_place (last_first d)) (row_words * (in_use d - last_first d)) ∙ length-regained)
        steps-still
