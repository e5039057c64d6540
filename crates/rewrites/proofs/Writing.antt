-- What an accepted rewriting has shown, in the words of the functions that write it: the named rows can lose w, the new rows have room,
-- what is conceded is owed by the kind, and an entry is left.
use Prim.Native.Nat.{ℕ, suc, ◌+◌, ◌-◌, ◌*◌, ◌≤◌, ◌<◌}
use mathlib.Core.Path.{◌≡◌, sym, ◌∙◌, ap}
use mathlib.Core.Logic.{inl}
use mathlib.Core.List.{List}
use mathlib.Core.Bool.{false, cond, ◌&&◌}
use native.Mathlib.Omega.{arith}
use native.Mathlib.Nat.{mul-le-mul_left, mul-one, le_trans, le_of_eq}
use lib.ListN.{length, get_or, set, length-set}
use lib.Seq.{get_or-set_other}
use lib.Dec.{eqb}
use borrow.Author.Tests.{ne_eqb}
use Rattle.masks.proofs.Sums.{le-sum}
use Rattle.masks.proofs.Choice.{cond-elim}
use Rattle.rules.specs.Table.{most_weight}
use Rattle.rules.specs.Desk.{head_words, variables, in_use, conceded, row_place, desk_words, row_on, weight_on}
use Rattle.rules.specs.Rewrite.{given, lightest, laid, rewriting_entry, rewrite_step}
use Rattle.rules.specs.Steps.{remnant_of, stored, empties, reweighed, concedes}
use Rattle.rules.specs.Decide.{entered}
use Rattle.desk_laws.proofs.Formed.{rows_inside}
use Rattle.desk_laws.proofs.Stores.{length-reweighed, reweighed-head, length-laid, laid_out_lem}
use Rattle.desk_laws.proofs.Verdicts.{Rewritten}
use Rattle.step_laws.proofs.ByKind.{Yields, yields}
use Rattle.step_laws.proofs.Accepted.{plan}
use Rattle.words.specs.Room.{EntryLeft}
use Rattle.named.specs.Reweigh.{Reweighable, named_reweighed}
use Rattle.kinds.proofs.Conceding.{concedes-once}
use Rattle.remnants.specs.Rows.{OnDesk, added_rows}
use Rattle.laying.specs.Room.{Fitting}
use Rattle.remnants.proofs.Counts.{well-named, two-named}
use Rattle.fitting.proofs.Namings.{Names, on-desk, named-sound, added-stored}
use Rattle.laying.proofs.Laying.{remnant-reweighed, lies-still}

-- an entry is left, whatever rows in use and conceded are set to
pub left-still : (d : List ℕ) (a b : ℕ) → EntryLeft d → EntryLeft (set (set d 1 a) 4 b)
left-still d a b e =
    let same : (p : ℕ) → (p ≡ 1 → ⊥) → (p ≡ 4 → ⊥) → get_or (set (set d 1 a) 4 b) p 0 ≡ get_or d p 0 =
    λ p x y. get_or-set_other (set d 1 a) 4 p b 0 y ∙ get_or-set_other d 1 p a 0 x in
    let c = same 2 (λ q. omega arith) (λ q. omega arith) in
    let s = same 3 (λ q. omega arith) (λ q. omega arith) in
    let n : length (set (set d 1 a) 4 b) ≡ length d = length-set (set d 1 a) 4 b ∙ length-set d 1 a in
    record { fits = omega (arith, c, e.fits); reach = omega (arith, c, n, e.reach); left = omega (arith, s, e.left) }

module _ (d : List ℕ) (kind : ℕ) (named : List ℕ) (ok : Rewritten d kind named) where
  abbrev pub w : ℕ
  w = lightest d named

  abbrev pub row : ℕ → ℕ
  row i = get_or named i 0

  abbrev pub lowered : List ℕ
  lowered = reweighed (λ x. x - w) row d (length named)

  pub lowered-same : {v : ℕ} {e : List ℕ} → v ≡ w → e ≡ named_reweighed d named v false → e ≡ lowered
  lowered-same q here = here ∙ ap (λ (u : ℕ). named_reweighed d named u false) q

  pub named-well : Names d kind named
  named-well =
      record {
        count = well-named kind (length named) ok.known.0 ok.known.1 ok.counted;
        fitting = ok.counted;
        used = ok.used;
        apart = ok.apart;
      }

  pub lies : OnDesk d named
  lies = on-desk d named ok.desk ok.used

  pub some-named : 2 ≤ length named
  some-named = two-named kind (length named) named-well.count

  -- a row's weight is within the limit of all
  weight-fits : (i : ℕ) → i < in_use d → (row_on d i).weight ≤ most_weight
  unfolding weight_on
  weight-fits i h = omega (arith, le-sum (in_use d) (λ k. (row_on d k).weight) i h, ok.desk.light)

  pub light : w ≤ most_weight
  light = omega (arith, (plan d kind named ok).heavy 0 (omega (arith, some-named)), weight-fits (row 0) (ok.used 0 (omega (arith, some-named))))

  pub can-lose : Reweighable d named w false
  can-lose =
      record {
        inside = lies.inside;
        apart = ok.apart;
        fits = λ i l. omega (arith, weight-fits (row i) (ok.used i l));
        holds = (plan d kind named ok).heavy;
      }

  pub added_is : added_rows d kind named ≡ length (stored (given d kind named))
  added_is = added-stored d kind named ok.desk named-well ok.fitted

  debts : Yields (variables d) kind (length named) (remnant_of d named)
  debts =
      yields (variables d) ok.desk.named (remnant_of d named) kind (length named) ok.known.0 ok.known.1 ok.counted
      (named-sound d kind named ok.desk named-well) ok.fitted

  pub owed-is : empties (given d kind named) ≡ cond (eqb kind 1 && eqb (added_rows d kind named) 0) 1 (concedes kind)
  unfolding given
  owed-is = rw added_is debts.owed

  pub owed-once : w * cond (eqb kind 1 && eqb (added_rows d kind named) 0) 1 (concedes kind) ≤ most_weight
  owed-once =
      let few : cond (eqb kind 1 && eqb (added_rows d kind named) 0) 1 (concedes kind) ≤ 1 =
      cond-elim (λ (x : ℕ). x ≤ 1) (eqb kind 1 && eqb (added_rows d kind named) 0) 1 (concedes kind) (λ e. omega arith) (λ e. concedes-once kind) in
      le_trans (mul-le-mul_left w few) (le_trans (le_of_eq (mul-one w)) light)

  length-lowered : length lowered ≡ length d
  length-lowered = length-reweighed (λ x. x - w) row d (length named)

  same-remnants : remnant_of lowered named ≡ remnant_of d named
  same-remnants =
      remnant-reweighed (λ x. x - w) row d named (length named)
      (λ i l. rows_inside ok.desk (suc (row i)) (omega (arith, ok.used i l, ok.desk.fitting)))

  pub can-lay : Fitting lowered kind named (in_use d)
  unfolding given desk_words row_place
  can-lay =
      record {
        behind = record { lies = lies-still d lowered named length-lowered lies; before = ok.used };
        count = named-well.count;
        full = λ k. rw same-remnants (debts.owed ∙ rw (ne_eqb kind 1 k));
        room = omega (arith, length-lowered, ok.desk.reaching, ok.desk.fitting, (plan d kind named ok).few);
      }

  -- the head's words are as they were, but for rows in use and conceded
  abbrev pub laid_out : List ℕ
  laid_out = laid lowered (in_use d) w (stored (given d kind named))

  -- what is laid on rows that lost w is what document 01 gives
  pub laid_same : {v : ℕ} {e x : List ℕ} → v ≡ w → e ≡ lowered → x ≡ laid e (in_use d) v (stored (given e kind named)) → x ≡ laid_out
  unfolding given
  laid_same q p here = here ∙ rw (p, q, same-remnants)

  pub length-out : length laid_out ≡ length d
  length-out = length-laid lowered (in_use d) w (stored (given d kind named)) ∙ length-lowered

  head-out : (p : ℕ) → p < head_words → get_or laid_out p 0 ≡ get_or d p 0
  unfolding row_place
  head-out p h =
      laid_out_lem lowered (in_use d) w (stored (given d kind named)) p (inl (omega arith))
      ∙ reweighed-head (λ x. x - w) row d (length named) p h

  -- an entry is left
  pub entry-still : EntryLeft laid_out
  unfolding desk_words row_place
  entry-still =
      let c = head-out 2 (omega arith) in
      let s = head-out 3 (omega arith) in
      record {
        fits = omega (arith, c, ok.desk.roomy);
        reach = omega (arith, c, length-out, ok.desk.reaching);
        left = omega (arith, s, ok.room);
      }

  -- the whole step, from its parts
  pub step-whole : {v rows owed : ℕ} {e entry x : List ℕ} → v ≡ w → rows ≡ added_rows d kind named
      → owed ≡ cond (eqb kind 1 && eqb (added_rows d kind named) 0) 1 (concedes kind) → e ≡ laid_out → entry ≡ rewriting_entry kind v named (in_use d)
      → x ≡ entered (set (set e 1 (in_use d + rows)) 4 (conceded d + v * owed)) entry → x ≡ rewrite_step d kind named
  unfolding rewrite_step
  step-whole q a b p n here = here ∙ rw (n, q, p, a ∙ added_is, b ∙ sym owed-is)
