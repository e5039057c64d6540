-- Any accepted taking back leaves a well-formed clean desk well formed and clean, also one that no call has made.
-- What the judge of the last entry found gives the bounds: named rows lie below the first new row, that is not below the rows loaded
-- nor above the rows in use, and (d) was looked at afterwards.
use Rattle.std.specs.Prelude.{Ok}
use Prim.Native.Nat.{ℕ, ◌+◌, ◌-◌, ◌≤◌, ◌<◌}
use mathlib.Core.Path.{◌≡◌}
use mathlib.Core.Logic.{⊎_elim}
use mathlib.Core.Bool.{Bool, true, false, cond, not, ◌&&◌, ◌||◌}
use mathlib.Core.List.{List}
use native.Mathlib.Omega.{arith}
use borrow.Author.Tests.{ltb-true, ltb-false, leb-true, eqb-true, eqb-false, not-false, not-true}
use lib.Dec.{eqb, ltb}
use lib.ListN.{get_or}
use Rattle.masks.specs.Masks.{single}
use Rattle.masks.specs.Sums.{every}
use Rattle.masks.proofs.Choice.{cases, and_right, or_cases, or-none}
use Rattle.masks.proofs.Sums.{every-at}
use Rattle.rules.specs.declared.Refusal.TheVariants.{BadDesk, NothingStands}
use Rattle.rules.specs.Refusals.{refuse}
use Rattle.rules.specs.Table.{most_weight, is_hard}
use Rattle.rules.specs.Desk.{head_words, in_use, capacity, standing, conceded, loaded, row_on, weight_on, weight_fits, well_formed}
use Rattle.rules.specs.Steps.{fewest, fewer_added, count_fits, distinct}
use Rattle.rules.specs.TakeBack.{last_kind, last_variable, last_weight, last_count, last_named, last_first, merged_empty, last_conceded, undo_decision}
use Rattle.rules.specs.TakeBack.{undo_rewriting, take_back_step, bad_decision, bad_rewriting, bad_last, take_back_why}
use Rattle.step_laws.specs.Clean.{Clean}
use Rattle.step_laws.specs.Framed.{Framed}
use Rattle.desk_laws.proofs.Formed.{head-inside, Formed, formed, well}
use Rattle.rules.proofs.Judging.{refuse-fine}
use Rattle.step_laws.proofs.ByKind.{by_kind, counted}
use Rattle.step_laws.proofs.Undoing.{unset, unset-out, emptied, emptied-use, emptied-head}
use Rattle.step_laws.proofs.Frames.{framed_then, withdrawn-framed, unset-framed, emptied-framed}
use Rattle.step_laws.proofs.Freed.{withdrawn-weight, withdrawn-formed, withdrawn-clean, unset-formed, unset-clean, freed-formed, freed-clean}

-- an accepted taking back: the desk is well formed, a step stands, and the last entry is not bad
pub record Taken (d : List ℕ) : Type 0 where
  pub desk : Formed d
  pub some : 1 ≤ standing d
  pub entry : bad_last d ≡ false

pub take-back-fine : (d : List ℕ) → take_back_why d ≡ Ok tt → Taken d
unfolding take_back_why
take-back-fine d e =
    let a = refuse-fine (not (well_formed d)) BadDesk (refuse (eqb (standing d) 0) NothingStands (refuse (bad_last d) BadDesk (Ok tt))) e in
    let b = refuse-fine (eqb (standing d) 0) NothingStands (refuse (bad_last d) BadDesk (Ok tt)) a.1 in
    record {
      desk = formed d (not-false (well_formed d) a.0);
      some = omega (arith, eqb-false (standing d) 0 b.0);
      entry = (refuse-fine (bad_last d) BadDesk (Ok tt) b.1).0;
    }

-- a rewriting's entry that is not bad
pub record Entered (d : List ℕ) : Type 0 where
  pub below : (i : ℕ) → i < last_count d → last_named d i < last_first d
  pub loads : loaded d ≤ last_first d
  pub fits : last_first d ≤ in_use d
  pub soft : (i : ℕ) → i < last_count d → is_hard (row_on d (last_named d i)) ≡ false
  pub light : weight_fits (undo_rewriting d) ≡ true

-- no kind adds more rows than it names
never-more : (kind : ℕ) → 1 ≤ kind → kind ≤ 4 → fewer_added kind ≤ fewest kind
unfolding fewer_added fewest
never-more = by_kind (λ k. fewer_added k ≤ fewest k) (omega arith) (omega arith) (omega arith) (omega arith)

entry-fine : (d : List ℕ) → 1 ≤ last_kind d → last_kind d ≤ 4 → bad_rewriting d ≡ false → Entered d
unfolding bad_rewriting merged_empty
entry-fine d low high e =
    let t1 : Bool = count_fits (last_kind d) (last_count d) in
    let in_order : Bool = every (last_count d) (λ i. ltb (last_named d i) (last_first d)) in
    let once : Bool = distinct (last_count d) (last_named d) in
    let t3 : Bool = ltb (last_first d) (loaded d) in
    let right : Bool = eqb (in_use d + fewer_added (last_kind d)) (last_first d + last_count d) in
    let none-added : Bool = eqb (last_kind d) 1 && eqb (in_use d) (last_first d) in
    let t5 : Bool = ltb (conceded d) (last_conceded d) in
    let softs : Bool = every (last_count d) (λ i. not (is_hard (row_on d (last_named d i)))) in
    let t6 : Bool = weight_fits (undo_rewriting d) in
    let last : Bool = not softs || not t6 in
    let a = or-none (not t1) (not (once && in_order) || (t3 || (not (right || none-added) || (t5 || last)))) e in
    let b = or-none (not (once && in_order)) (t3 || (not (right || none-added) || (t5 || last))) a.1 in
    let c = or-none t3 (not (right || none-added) || (t5 || last)) b.1 in
    let g = or-none (not (right || none-added)) (t5 || last) c.1 in
    let k = or-none t5 last g.1 in
    let h = or-none (not softs) (not t6) k.1 in
    let enough = counted (last_kind d) (last_count d) (not-false t1 a.0) in
    record {
      below =
          λ i l. ltb-true (last_named d i) (last_first d)
          (every-at (last_count d) (λ i. ltb (last_named d i) (last_first d)) (and_right once in_order (not-false (once && in_order) b.0)) i l);
      loads = ltb-false (last_first d) (loaded d) c.0;
      fits =
          ⊎_elim
          (λ q. omega (arith, eqb-true (in_use d + fewer_added (last_kind d)) (last_first d + last_count d) q, enough, never-more (last_kind d) low high))
          (λ q. omega (arith, eqb-true (in_use d) (last_first d) (and_right (eqb (last_kind d) 1) (eqb (in_use d) (last_first d)) q)))
          (or_cases right none-added (not-false (right || none-added) g.0));
      soft =
          λ i l. not-true (is_hard (row_on d (last_named d i)))
          (every-at (last_count d) (λ i. not (is_hard (row_on d (last_named d i)))) (not-false softs h.0) i l);
      light = not-false t6 h.1;
    }

module _ (d : List ℕ) (clean : Clean d) (fine : take_back_why d ≡ Ok tt) where
  abbrev Kept : List ℕ → Type 0
  Kept e = (well_formed e ≡ true) × Clean e × Framed d e

  decision-kept : Taken d → Kept (undo_decision d)
  unfolding undo_decision
  decision-kept t =
      let v : ℕ = single (last_variable d - 1) in
      let e : List ℕ = unset d v in
      let some : 1 ≤ standing e = rw (unset-out d v 3 (λ q. omega arith) (λ q. omega arith)) t.some in (
        well (withdrawn-formed e (unset-formed d t.desk v) some),
        withdrawn-clean e (unset-formed d t.desk v) some
            (unset-clean d t.desk v clean),
        framed_then (unset-framed d v) (withdrawn-framed e (unset-formed d t.desk v) some),
      )

  rewriting-kept : Taken d → Entered d → Kept (undo_rewriting d)
  unfolding undo_rewriting weight_fits
  rewriting-kept t n =
      let f = t.desk in
      let w : ℕ = last_weight d in
      let c : ℕ = conceded d - last_conceded d in
      let e : List ℕ = emptied d w (last_named d) (last_count d) (last_first d) (in_use d - last_first d) c in
      let head : (p : ℕ) → (p < head_words) × (p ≡ 1 → ⊥) × (p ≡ 4 → ⊥) → get_or e p 0 ≡ get_or d p 0 =
      emptied-head d w (last_named d) (last_count d) (last_first d) (in_use d - last_first d) c in
      let some : 1 ≤ standing e = rw (head 3 (omega arith)) t.some in
      let cap : capacity e ≡ capacity d = head 2 (omega arith) in
      let rows : in_use e ≡ last_first d = emptied-use d w (last_named d) (last_count d) (last_first d) (in_use d - last_first d) c (head-inside f) in
      let light : weight_on e ≤ most_weight =
      rw (withdrawn-weight e (omega (arith, f.fitting, n.fits))) at (leb-true (weight_on (undo_rewriting d)) most_weight n.light) in
      let g : Formed e = freed-formed d f w (last_named d) (last_count d) (last_first d) c n.loads n.fits n.below n.soft light in (
        well (withdrawn-formed e g some),
        withdrawn-clean e g some (freed-clean d f w (last_named d) (last_count d) (last_first d) c n.loads n.fits n.below clean),
        framed_then (emptied-framed d f w (last_named d) (last_count d) (last_first d) c n.fits n.below) (withdrawn-framed e g some),
      )

  kept : Kept (take_back_step d)
  unfolding take_back_step bad_last
  kept =
      let t = take-back-fine d fine in
      let parts = or-none (ltb 4 (last_kind d)) (cond (eqb (last_kind d) 0) (bad_decision d) (bad_rewriting d)) t.entry in
      ⊎_elim
      (λ q. rw q (decision-kept t))
      (λ q.
      let some : 1 ≤ last_kind d = omega (arith, eqb-false (last_kind d) 0 q) in
      rw q (rewriting-kept t (entry-fine d some (ltb-false 4 (last_kind d) parts.0) (rw q at parts.1))))
      (cases (eqb (last_kind d) 0))

  pub take-back-formed : well_formed (take_back_step d) ≡ true
  take-back-formed = kept.0

  pub take-back-clean : Clean (take_back_step d)
  take-back-clean = kept.1

  pub take-back-framed : Framed d (take_back_step d)
  take-back-framed = kept.2
