-- What well named rows are, in numbers, and how many rows a rewriting that fits adds: the table by kind says it.
use Prim.Native.Nat.{ℕ, ◌-◌, ◌≤◌, ◌<◌}
use mathlib.Core.Path.{◌≡◌, sym, ap, ◌∙◌, subst}
use mathlib.Core.Logic.{⊎_elim}
use mathlib.Core.List.{List, [], ◌∷◌}
use mathlib.Core.Bool.{true, cond, ◌&&◌}
use native.Mathlib.Omega.{arith}
use lib.ListN.{length, get_or}
use lib.Dec.{eqb, leb, ltb}
use borrow.Author.Tests.{leb-true, ltb-true, ne_eqb}
use Rattle.masks.specs.Sums.{every}
use Rattle.masks.proofs.Sums.{every-at}
use Rattle.masks.proofs.Choice.{cases, and_left, and_right, eq-or-ne, cond-elim}
use Rattle.literals.specs.declared.Lits.{Lits}
use Rattle.literals.specs.Lits.{is_empty}
use Rattle.rules.specs.Desk.{variables, in_use, row_place, desk_words}
use Rattle.rules.specs.Rewrite.{clash, apart_from, fits, gives, given, well_fitted}
use Rattle.rules.specs.Steps.{fewest, most, fewer_added, count_fits, distinct, well_named, remnant_of, stored}
use Rattle.desk_laws.proofs.Formed.{Sound, Formed}
use Rattle.desk_laws.proofs.Stores.{Distinct}
use Rattle.desk_laws.proofs.Verdicts.{distinct_apart}
use Rattle.step_laws.proofs.Accepted.{remnant-sound}
use Rattle.step_laws.proofs.ByKind.{yields}
use Rattle.remnants.specs.Rows.{OnDesk, WellNamed, added_rows}
use Rattle.fitting.specs.Open.{all_open}
use Rattle.remnants.proofs.Counts.{well-named}

pub record Names (d : List ℕ) (kind : ℕ) (named : List ℕ) : Type 0 where
  pub count : WellNamed kind (length named)
  pub fitting : count_fits kind (length named) ≡ true
  pub used : (i : ℕ) → i < length named → get_or named i 0 < in_use d
  pub apart : Distinct (length named) (λ i. get_or named i 0)

pub names : (d : List ℕ) (kind : ℕ) (named : List ℕ) → well_named d kind named ≡ true → Names d kind named
unfolding well_named
names d kind named e =
    let n = length named in
    let used = every n (λ i. ltb (get_or named i 0) (in_use d)) in
    let apart = distinct n (λ i. get_or named i 0) in
    let n1 = and_right (leb 1 kind) (leb kind 4 && (count_fits kind n && (used && apart))) e in
    let n2 = and_right (leb kind 4) (count_fits kind n && (used && apart)) n1 in
    let n3 = and_right (count_fits kind n) (used && apart) n2 in
    let c = and_left (count_fits kind n) (used && apart) n2 in
    record {
      count =
          well-named kind n (leb-true 1 kind (and_left (leb 1 kind) (leb kind 4 && (count_fits kind n && (used && apart))) e))
          (leb-true kind 4 (and_left (leb kind 4) (count_fits kind n && (used && apart)) n1)) c;
      fitting = c;
      used = λ i l. ltb-true (get_or named i 0) (in_use d) (every-at n (λ k. ltb (get_or named k 0) (in_use d)) (and_left used apart n3) i l);
      apart = distinct_apart n (λ i. get_or named i 0) (and_right used apart n3);
    }

-- rows in use lie within the lent words
pub on-desk : (d named : List ℕ) → Formed d → ((i : ℕ) → i < length named → get_or named i 0 < in_use d) → OnDesk d named
unfolding desk_words row_place
on-desk d named f used =
    record {
      head = omega (arith, f.reaching);
      inside = λ i l. omega (arith, f.reaching, f.fitting, used i l);
    }

pub added-few : (d : List ℕ) (kind : ℕ) (named : List ℕ) → added_rows d kind named ≤ length named
unfolding added_rows
added-few d kind named =
    cond-elim (λ (x : ℕ). x ≤ length named)
    (eqb kind 1 && is_empty (apart_from (clash (remnant_of d named 0) (remnant_of d named 1)) (remnant_of d named 0))) 0 (length named - fewer_added kind)
    (λ e. omega arith) (λ e. omega arith)

-- a merge gives its rest alone
one-stored : (l : Lits) → length (stored (l ∷ [])) ≡ cond (is_empty l) 0 1
unfolding stored
one-stored l = ⊎_elim (λ e. rw e) (λ e. rw e) (cases (is_empty l))

merge-added : (d : List ℕ) (named : List ℕ) → length named ≡ 2 → added_rows d 1 named ≡ length (stored (given d 1 named))
unfolding added_rows given gives fewer_added
merge-added d named two =
    let rest = apart_from (clash (remnant_of d named 0) (remnant_of d named 1)) (remnant_of d named 0) in
    let one : length named - 1 ≡ 1 = omega arith in
    ap (λ (k : ℕ). cond (is_empty rest) 0 k) one ∙ sym (one-stored rest)

module _ (d : List ℕ) (kind : ℕ) (named : List ℕ) (f : Formed d) (n : Names d kind named) where
  pub named-sound : (i : ℕ) → i < length named → Sound (variables d) (remnant_of d named i)
  unfolding remnant_of
  named-sound i l = remnant-sound (variables d) d (f.sound (get_or named i 0) (n.used i l))

  merged : kind ≡ 1 → added_rows d kind named ≡ length (stored (given d kind named))
  unfolding fewest most
  merged k =
      let low : fewest 1 ≤ length named = subst (λ (j : ℕ). fewest j ≤ length named) k n.count.fewest_named in
      let high : length named ≤ most 1 = subst (λ (j : ℕ). length named ≤ most j) k n.count.most_named in
      subst (λ (j : ℕ). added_rows d j named ≡ length (stored (given d j named))) (sym k) (merge-added d named (omega arith))

  other : fits kind (length named) (remnant_of d named) ≡ true → (kind ≡ 1 → ⊥) → added_rows d kind named ≡ length (stored (given d kind named))
  unfolding added_rows given
  other e k =
      let y = yields (variables d) f.named (remnant_of d named) kind (length named) n.count.some n.count.known n.fitting named-sound e in
      ⊎_elim (λ a. rw (ne_eqb kind 1 k) (omega (arith, a))) (λ a. absurd (k a.0)) y.adds

  pub added-stored : fits kind (length named) (remnant_of d named) ≡ true → added_rows d kind named ≡ length (stored (given d kind named))
  added-stored e = ⊎_elim merged (other e) (eq-or-ne kind 1)

pub fitted-fits : (d : List ℕ) (kind : ℕ) (named : List ℕ) → well_fitted d kind named ≡ true → fits kind (length named) (remnant_of d named) ≡ true
unfolding well_fitted
fitted-fits d kind named e =
    and_right
    (all_open d named)
    (fits kind (length named) (remnant_of d named)) e
