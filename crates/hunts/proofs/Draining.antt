-- A hunt entry by entry. At a conflict, or at the trail's end, it has come to its end: more entries change nothing.
use Prim.Native.Nat.{ℕ, ◌+◌, ◌≤◌, ◌<◌}
use mathlib.Core.Path.{◌≡◌, sym, ap, subst, ◌∙◌}
use mathlib.Core.List.{List}
use mathlib.Core.Bool.{true, ◌||◌}
use mathlib.Core.Logic.{inl, inr, ⊎_elim}
use native.Mathlib.Omega.{arith}
use borrow.Author.Tests.{leb-true}
use lib.Dec.{leb}
use lib.ListN.{get_or}
use Rattle.masks.proofs.Choice.{or_cases}
use Rattle.literals.specs.declared.Lits.{Lits}
use Rattle.rules.specs.declared.Part.{Part}
use Rattle.rules.specs.Groups.{Weights, entry_scanned, drained, hunted}
use Rattle.group_laws.proofs.Branches.{drained-more}
use Rattle.group_laws.proofs.Trails.{trail-length}
use Rattle.group_laws.proofs.Fuel.{AtEnd, drained-hunted}
use Rattle.looking.specs.declared.Trail.{Trail}
use Rattle.looking.specs.Looks.{is_found, hunt_of, Roomy}

module _ (lits : ℕ → Lits) (W : Weights) (rows : ℕ) (p : Part) (n : ℕ) where
  -- how far a hunt of at most n entries has come: the first k
  pub record Drained (k : ℕ) (t : Trail) (ms rs : List ℕ) : Type 0 where
    pub upto : k ≤ n
    pub far : hunt_of t ms rs ≡ drained lits W rows p k
    pub roomy : Roomy t ms rs

  pub drain-none : (t : Trail) (ms rs : List ℕ) → hunt_of t ms rs ≡ drained lits W rows p 0 → Roomy t ms rs → Drained 0 t ms rs
  drain-none t ms rs e roomy = record { upto = omega arith; far = e; roomy = roomy }

  module _ {k : ℕ} {t : Trail} {ms rs : List ℕ} (so : Drained k t ms rs) where
    pub drain-more : k < n → (s : Trail) (ns qs : List ℕ) → hunt_of s ns qs ≡ entry_scanned lits W rows k (hunt_of t ms rs) → Roomy s ns qs
        → Drained (k + 1) s ns qs
    drain-more less s ns qs next roomy =
        record {
          upto = omega arith;
          far = next ∙ ap (entry_scanned lits W rows k) so.far ∙ sym (drained-more lits W rows p k);
          roomy = roomy;
        }

    -- all that there can be
    pub drain-done : n ≤ k → (names : ℕ) → n ≡ names → hunt_of t ms rs ≡ hunted lits W rows names p
    unfolding hunted
    drain-done l names e =
        let k-all : k ≡ names = omega (arith, so.upto) in
        so.far ∙ ap (drained lits W rows p) k-all

    at-end : (is_found t || leb t.entries k) ≡ true → AtEnd k (hunt_of t ms rs)
    at-end b =
        ⊎_elim
        (λ f. inl f)
        (λ l. inr (omega (arith, leb-true t.entries k l, trail-length (λ j. get_or ms j 0) (λ j. get_or rs j 0) t.entries)))
        (or_cases (is_found t) (leb t.entries k) b)

    pub drain-left : (is_found t || leb t.entries k) ≡ true → (names : ℕ) → n ≡ names → hunt_of t ms rs ≡ hunted lits W rows names p
    drain-left b names e =
        so.far ∙ sym (drained-hunted lits rows names p W k (subst (AtEnd k) so.far (at-end b)) (omega (arith, so.upto)))
