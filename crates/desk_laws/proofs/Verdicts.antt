-- What an accepted call says: none of its tests held. A call's refusals come in order, so each law takes the first test off.
-- The facts of an accepted decision and of an accepted rewriting follow, as records of plain facts.
use Rattle.std.specs.Prelude.{Ok}
use Prim.Native.Nat.{ℕ, ◌+◌, ◌-◌, ◌≤◌, ◌<◌}
use mathlib.Core.Path.{◌≡◌}
use mathlib.Core.Bool.{Bool, true, false, not, ◌&&◌, ◌||◌}
use mathlib.Core.List.{List}
use borrow.Author.Tests.{ltb-true, ltb-false, leb-true, leb-false, eqb-false, not-true, not-false}
use lib.Dec.{leb, ltb, eqb}
use lib.IntN.{ℤ}
use lib.ListN.{length, get_or}
use Rattle.masks.specs.Masks.{has}
use Rattle.masks.specs.Sums.{every}
use Rattle.masks.proofs.Choice.{and_left, and_right, or-none}
use Rattle.masks.proofs.Sums.{every-at}
use Rattle.literals.specs.Literal.{size, is_literal}
use Rattle.rules.specs.declared.Row.{Row}
use Rattle.rules.specs.declared.Refusal.TheVariants.{BadDesk, TooManySteps, BadLiteral, BadNaming, BadFit, DeskFull}
use Rattle.rules.specs.Refusals.{Judged, refuse}
use Rattle.rules.specs.Desk.{variables, in_use, capacity, standing, decided, most_steps, well_formed, decisions, satisfied, row_on, spent}
use Rattle.rules.specs.Table.{is_hard}
use Rattle.rules.specs.Decide.{bad_literal, decide_why}
use Rattle.rules.specs.Rewrite.{fits, given, well_fitted, rewrite_why}
use Rattle.rules.specs.Steps.{count_fits, distinct, well_named, remnant_of, stored}
use Rattle.rules.proofs.Judging.{refuse-fine}
use Rattle.desk_laws.proofs.Formed.{Formed, formed}
use Rattle.desk_laws.proofs.Stores.{Distinct}

-- ---- an accepted decision

pub record Decided (d : List ℕ) (l : ℤ) : Type 0 where
  pub desk : Formed d
  pub room : standing d < most_steps
  pub literal : is_literal l ≡ true
  pub counted : size l ≤ variables d
  pub fresh : has (decided d) (size l - 1) ≡ false

pub decide-fine : (d : List ℕ) (l : ℤ) → decide_why d l ≡ Ok tt → Decided d l
unfolding decide_why bad_literal
decide-fine d l e =
    let bad : Bool = bad_literal d l in
    let a = refuse-fine (not (well_formed d)) BadDesk (refuse (leb most_steps (standing d)) TooManySteps (refuse bad BadLiteral (Ok tt))) e in
    let b = refuse-fine (leb most_steps (standing d)) TooManySteps (refuse bad BadLiteral (Ok tt)) a.1 in
    let c = or-none (not (is_literal l)) (ltb (variables d) (size l) || has (decided d) (size l - 1)) (refuse-fine bad BadLiteral (Ok tt) b.1).0 in
    let f = or-none (ltb (variables d) (size l)) (has (decided d) (size l - 1)) c.1 in
    record {
      desk = formed d (not-false (well_formed d) a.0);
      room = leb-false most_steps (standing d) b.0;
      literal = not-false (is_literal l) c.0;
      counted = ltb-false (variables d) (size l) f.0;
      fresh = f.1;
    }

-- ---- an accepted rewriting

pub distinct_apart : (n : ℕ) (row : ℕ → ℕ) → distinct n row ≡ true → Distinct n row
unfolding distinct
distinct_apart n row e i j l m =
    eqb-false (row i) (row j) (not-true (eqb (row i) (row j))
    (every-at j (λ k. not (eqb (row k) (row j))) (every-at n (λ j. every j (λ k. not (eqb (row k) (row j)))) e j m) i l))

pub record Rewritten (d : List ℕ) (kind : ℕ) (named : List ℕ) : Type 0 where
  pub desk : Formed d
  pub room : standing d < most_steps
  pub known : (1 ≤ kind) × (kind ≤ 4)
  pub counted : count_fits kind (length named) ≡ true
  pub used : (i : ℕ) → i < length named → get_or named i 0 < in_use d
  pub apart : Distinct (length named) (λ i. get_or named i 0)
  pub soft : (i : ℕ) → i < length named → is_hard (row_on d (get_or named i 0)) ≡ false
  pub weighty : (i : ℕ) → i < length named → spent (row_on d (get_or named i 0)) ≡ false
  pub unsatisfied : (i : ℕ) → i < length named → satisfied (decisions d) (row_on d (get_or named i 0)).lits ≡ false
  pub fitted : fits kind (length named) (remnant_of d named) ≡ true
  pub space : in_use d + length (stored (given d kind named)) ≤ capacity d

pub rewrite-fine : (d : List ℕ) (kind : ℕ) (named : List ℕ) → rewrite_why d kind named ≡ Ok tt → Rewritten d kind named
unfolding rewrite_why well_named well_fitted
rewrite-fine d kind named e =
    let n : ℕ = length named in
    let good : ℕ → Bool = λ i. let row = row_on d (get_or named i 0) in not (is_hard row || (spent row || satisfied (decisions d) row.lits)) in
    let fit : Bool = every n good && fits kind n (remnant_of d named) in
    let full : Bool = ltb (capacity d) (in_use d + length (stored (given d kind named))) in
    let used : Bool = every n (λ i. ltb (get_or named i 0) (in_use d)) in
    let apart : Bool = distinct n (λ i. get_or named i 0) in
    let name : Bool = leb 1 kind && (leb kind 4 && (count_fits kind n && (used && apart))) in
    let last : Judged = refuse full DeskFull (Ok tt) in
    let a =
    refuse-fine (not (well_formed d)) BadDesk
    (refuse (leb most_steps (standing d)) TooManySteps (refuse (not name) BadNaming (refuse (not fit) BadFit last))) e in
    let b = refuse-fine (leb most_steps (standing d)) TooManySteps (refuse (not name) BadNaming (refuse (not fit) BadFit last)) a.1 in
    let c = refuse-fine (not name) BadNaming (refuse (not fit) BadFit last) b.1 in
    let f = refuse-fine (not fit) BadFit last c.1 in
    let g = refuse-fine full DeskFull (Ok tt) f.1 in
    let names = not-false name c.0 in
    let n1 = and_right (leb 1 kind) (leb kind 4 && (count_fits kind n && (used && apart))) names in
    let n2 = and_right (leb kind 4) (count_fits kind n && (used && apart)) n1 in
    let n3 = and_right (count_fits kind n) (used && apart) n2 in
    let fitting = not-false fit f.0 in
    let rows = every-at n good (and_left (every n good) (fits kind n (remnant_of d named)) fitting) in
    let row : ℕ → Row = λ i. row_on d (get_or named i 0) in
    let closed : ℕ → Bool = λ i. spent (row i) || satisfied (decisions d) (row i).lits in
    let each : (i : ℕ) → i < n → (is_hard (row i) ≡ false) × (closed i ≡ false) =
    λ i l. or-none (is_hard (row i)) (closed i) (not-true (is_hard (row i) || closed i) (rows i l)) in
    record {
      desk = formed d (not-false (well_formed d) a.0);
      room = leb-false most_steps (standing d) b.0;
      known = (
        leb-true 1 kind (and_left (leb 1 kind) (leb kind 4 && (count_fits kind n && (used && apart))) names),
        leb-true kind 4
            (and_left (leb kind 4) (count_fits kind n && (used && apart)) n1),
      );
      counted = and_left (count_fits kind n) (used && apart) n2;
      used = λ i l. ltb-true (get_or named i 0) (in_use d) (every-at n (λ i. ltb (get_or named i 0) (in_use d)) (and_left used apart n3) i l);
      apart = distinct_apart n (λ i. get_or named i 0) (and_right used apart n3);
      soft = λ i l. (each i l).0;
      weighty = λ i l. (or-none (spent (row i)) (satisfied (decisions d) (row i).lits) (each i l).1).0;
      unsatisfied = λ i l. (or-none (spent (row i)) (satisfied (decisions d) (row i).lits) (each i l).1).1;
      fitted = and_right (every n good) (fits kind n (remnant_of d named)) fitting;
      space = ltb-false (capacity d) (in_use d + length (stored (given d kind named))) g.0;
    }
