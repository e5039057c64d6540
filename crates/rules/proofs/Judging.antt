-- What a call's refusals in order say: none was given exactly when each test failed.
use Rattle.std.specs.Prelude.{Ok, Err}
use Prim.Native.Nat.{ℕ}
use mathlib.Core.Path.{◌≡◌, refl}
use mathlib.Core.Bool.{Bool, true, false}
use mathlib.Core.List.{List}
use Rattle.masks.proofs.Choice.{impossible}
use Rattle.rules.specs.declared.Refusal.{Refusal}
use Rattle.rules.specs.Refusals.{Judged, refuse, in_order, unless_refused}

abbrev pub is_fine : Judged → Bool
is_fine (Ok _) = true
is_fine (Err r) = false

pub never-fine : (r : Refusal) → ◌≡◌ {A = Judged} (Err r) (Ok tt) → ⊥
never-fine r e = impossible (cc)

pub refuse-fine : (b : Bool) (r : Refusal) (after : Judged) → refuse b r after ≡ Ok tt → (b ≡ false) × (after ≡ Ok tt)
refuse-fine true r after e = absurd (never-fine r e)
refuse-fine false r after e = (refl, e)

pub order-fine : (first after : Judged) → in_order first after ≡ Ok tt → (first ≡ Ok tt) × (after ≡ Ok tt)
order-fine (Ok _) after e = (refl, e)
order-fine (Err r) after e = absurd (never-fine r e)

pub is-fine : (j : Judged) → is_fine j ≡ true → j ≡ Ok tt
is-fine (Ok _) e = refl
is-fine (Err r) e = let z : ◌≡◌ {A = Bool} true false = cc in absurd (distinct z)
  where
    distinct : true ≡ false → ⊥
    distinct e = impossible (cc)

-- the words after a call that is fine, and after one that is refused
pub words-fine : (j : Judged) (step found : List ℕ) → j ≡ Ok tt → unless_refused j step found ≡ step
words-fine j step found e = rw e

pub words-refused : (j : Judged) (step found : List ℕ) (r : Refusal) → j ≡ Err r → unless_refused j step found ≡ found
words-refused j step found r e = rw e
