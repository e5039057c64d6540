-- What it is to be judged by an order of refusals (`first_due`, by which crates/rules/specs judges each call): "given exactly when", in document 01's numbers.
use Rattle.std.specs.Prelude.{◌≡◌, List, ◌∷◌, Bool, true, false, Ok, Err}
use Rattle.rules.specs.declared.Numbered.{Numbered}
use Rattle.rules.specs.declared.Refusal.{Refusal}
use Rattle.rules.specs.Refusals.{Judged, numbered, Rule, ◌when◌, as_in, first_due}

-- the first refusal of the order that is due has this number and this place
pub data Due : List Rule → Numbered → Type 0 where
  here : {r : Refusal} {due : Bool} {rest : List Rule} → due ≡ true → Due (r when due ∷ rest) (numbered r)
  later : {r : Refusal} {due : Bool} {rest : List Rule} {told : Numbered} → due ≡ false → Due rest told → Due (r when due ∷ rest) told
  within : {judged : Judged} {rest : List Rule} (r : Refusal) → judged ≡ Err r → Due (as_in judged ∷ rest) (numbered r)
  beyond : {judged : Judged} {rest : List Rule} {told : Numbered} → judged ≡ Ok tt → Due rest told → Due (as_in judged ∷ rest) told

-- A call is refused with a number and a place exactly when they are the first due, and accepted exactly when none is.
pub record ExactlyWhen (order : List Rule) : Type 0 where
  pub refuses : (r : Refusal) → first_due order ≡ Err r → Due order (numbered r)
  pub refused-when : (told : Numbered) → Due order told → (r : Refusal) × (first_due order ≡ Err r) × (numbered r ≡ told)
  pub accepts : first_due order ≡ Ok tt → (told : Numbered) → Due order told → ⊥
  pub accepted-when : ((told : Numbered) → Due order told → ⊥) → first_due order ≡ Ok tt
