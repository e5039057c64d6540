-- 14 in document 01's words: where 10, 11 and 13 are not given, it is given exactly when the named rows fit no line of the step table.
-- A desk that is well formed has sound remnants, and of these the table in words and the definitions of `rules` say the same.
use Prim.Native.Nat.{ℕ, ◌≤◌, ◌<◌}
use mathlib.Core.Path.{◌≡◌}
use mathlib.Core.Bool.{Bool, true, false, not, ◌&&◌, ◌||◌}
use mathlib.Core.List.{List}
use native.Mathlib.Omega.{arith}
use borrow.Author.Tests.{ltb-true, leb-true, not-true}
use lib.Dec.{leb, ltb}
use lib.ListN.{length, get_or}
use Rattle.masks.specs.Sums.{every}
use Rattle.masks.proofs.Choice.{and_left, and_right, both, or-none}
use Rattle.masks.proofs.Sums.{every-at, every_true}
use Rattle.literals.specs.declared.Lits.{Lits}
use Rattle.rules.specs.declared.Row.{Row}
use Rattle.rules.specs.Table.{is_hard}
use Rattle.rules.specs.Desk.{variables, in_use, decisions, satisfied, row_on, spent}
use Rattle.rules.specs.Rewrite.{fits, given, well_fitted}
use Rattle.rules.specs.Steps.{fewest, count_fits, distinct, well_named, remnant_of}
use Rattle.step_laws.specs.StepTable.{FitsALine}
use Rattle.desk_laws.proofs.Formed.{Sound, Formed}
use Rattle.step_laws.proofs.Accepted.{remnant-sound}
use Rattle.step_laws.proofs.ByKind.{by_kind, counted}
use Rattle.step_laws.proofs.InWords.{words-fit}
use Rattle.step_laws.proofs.Found.{fit_words}

-- every kind names a row
pub some-named : (kind n : ℕ) → 1 ≤ kind → kind ≤ 4 → count_fits kind n ≡ true → 1 ≤ n
unfolding fewest
some-named kind n low high =
    by_kind (λ k. count_fits k n ≡ true → 1 ≤ n) (λ c. omega (arith, counted 1 n c)) (λ c. omega (arith, counted 2 n c))
    (λ c. omega (arith, counted 3 n c)) (λ c. omega (arith, counted 4 n c)) kind low high

module _ (d : List ℕ) (kind : ℕ) (named : List ℕ) where
  -- what 13 asks about
  record WellNamed : Type 0 where
    known : (1 ≤ kind) × (kind ≤ 4)
    count : count_fits kind (length named) ≡ true
    used : (i : ℕ) → i < length named → get_or named i 0 < in_use d

  well-named : well_named d kind named ≡ true → WellNamed
  unfolding well_named
  well-named e =
      let n : ℕ = length named in
      let inside : Bool = every n (λ i. ltb (get_or named i 0) (in_use d)) in
      let apart : Bool = distinct n (λ i. get_or named i 0) in
      let n1 = and_right (leb 1 kind) (leb kind 4 && (count_fits kind n && (inside && apart))) e in
      let n2 = and_right (leb kind 4) (count_fits kind n && (inside && apart)) n1 in
      let n3 = and_right (count_fits kind n) (inside && apart) n2 in
      record {
        known = (
          leb-true 1 kind (and_left (leb 1 kind) (leb kind 4 && (count_fits kind n && (inside && apart))) e),
          leb-true kind 4 (and_left (leb kind 4) (count_fits kind n && (inside && apart)) n1),
        );
        count = and_left (count_fits kind n) (inside && apart) n2;
        used = λ i l. ltb-true (get_or named i 0) (in_use d) (every-at n (λ i. ltb (get_or named i 0) (in_use d)) (and_left inside apart n3) i l);
      }

  -- a named row that is neither hard nor spent nor satisfied
  abbrev closed : ℕ → Bool
  closed i = spent (row_on d (get_or named i 0)) || satisfied (decisions d) (row_on d (get_or named i 0)).lits

  abbrev live : ℕ → Bool
  live i = not (is_hard (row_on d (get_or named i 0)) || closed i)

  module _ (desk : Formed d) (ok : well_named d kind named ≡ true) where
    sound : (i : ℕ) → i < length named → Sound (variables d) (remnant_of d named i)
    unfolding remnant_of
    sound i l = remnant-sound (variables d) d (desk.sound (get_or named i 0) ((well-named ok).used i l))

    -- what the definitions call fitting fits a line in words
    pub fitted-words : well_fitted d kind named ≡ true → FitsALine d kind named (given d kind named)
    unfolding well_fitted given
    fitted-words e =
        let n : ℕ = length named in
        let w = well-named ok in
        let row : ℕ → Row = λ i. row_on d (get_or named i 0) in
        let each : (i : ℕ) → i < n → (is_hard (row i) ≡ false) × (closed i ≡ false) =
        λ i l. or-none (is_hard (row i)) (closed i)
        (not-true (is_hard (row i) || closed i) (every-at n live (and_left (every n live) (fits kind n (remnant_of d named)) e) i l)) in
        record {
          soft = λ i l. (each i l).0;
          unspent = λ i l. (or-none (spent (row i)) (satisfied (decisions d) (row i).lits) (each i l).1).0;
          unsatisfied = λ i l. (or-none (spent (row i)) (satisfied (decisions d) (row i).lits) (each i l).1).1;
          line =
              fit_words (variables d) desk.named (remnant_of d named) kind n w.known.0 w.known.1 w.count sound
              (and_right (every n live) (fits kind n (remnant_of d named)) e);
        }

    -- and what fits a line in words is what the definitions call fitting
    pub words-fitted : {gives : List Lits} → FitsALine d kind named gives → well_fitted d kind named ≡ true
    unfolding well_fitted
    words-fitted f =
        let w = well-named ok in
        let some = some-named kind (length named) w.known.0 w.known.1 w.count in
        both (every_true (length named) (λ i l. rw (f.soft i l, f.unspent i l, f.unsatisfied i l)))
        (words-fit (remnant_of d named) (sound 0 some).once f.line).0
