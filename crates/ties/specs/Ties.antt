-- A contract tied to definitions: said of the term that the kit makes of a function's `requires` and `ensures`, which the function's own theorem is about.
use Rattle.std.specs.Prelude.{◌≡◌}
use base.Logic.{ent}
use contract.Lifetimes.{Lfts}
use contract.Monad.{conj, fact}
use contract.Notation.{connectives}
use denote.Signature.{Signature}
use denote.Triple.Entry.{Args, Res}
use denote.Triple.Clauses.{Ended, Lasts, at_exit, Clauses, closing}
use denote.Triple.Spec.{Spec}
use types.Logic.{Logic}
use seplogic.Ra.Ura.{Ura}

-- of the arguments of a call: its answer, and the last values behind what was lent `&mut`. (A value that was not lent so is `tt`.)
abbrev pub Answers : Ended → Type 0
Answers T = (κs : Lfts T.signature.lifetimes) (a : Args T.signature κs) → Res T.signature κs

abbrev pub Leaves : Ended → Type 0
Leaves T = (κs : Lfts T.signature.lifetimes) (a : Args T.signature κs) → Lasts T κs a

-- a contract with no `requires`: whatever is passed, what it asks of the caller is the assertion that always holds
abbrev pub AsksNothing : {M : Type 1} (𝓤 : Ura M) (S : Signature) → Spec 𝓤 S → Type 2
AsksNothing 𝓤 S s = (κs : Lfts S.lifetimes) (a : Args S κs) → (g : (s κs a).ghost) × ((s κs a).requires g ≡ (connectives 𝓤).⊤ₛ)

-- the clauses say this answer and these last values
abbrev pub Says : {M : Type 1} (𝓤 : Ura M) (T : Ended) → Clauses 𝓤 T → Answers T → Leaves T → Type 1
Says 𝓤 T c answer last =
    (κs : Lfts T.signature.lifetimes) (a : Args T.signature κs) (g : (c κs a).ghost) (x : Res T.signature κs) (ws : Lasts T κs a)
    → ent 𝓤 ((c κs a).ensures g x (at_exit T κs a ws)) (fact 𝓤 ((x ≡ answer κs a) × (ws ≡ last κs a)))

-- "any two outcomes it permits coincide": where the clauses hold of the answer x with the last values ws, and of y with vs, x is y and ws is vs
abbrev pub Determines : {M : Type 1} (𝓤 : Ura M) (T : Ended) → Clauses 𝓤 T → Type 1
Determines 𝓤 T c =
    (κs : Lfts T.signature.lifetimes) (a : Args T.signature κs) (g h : (c κs a).ghost) (x y : Res T.signature κs) (ws vs : Lasts T κs a)
    → ent 𝓤 (conj 𝓤 ((c κs a).ensures g x (at_exit T κs a ws)) ((c κs a).ensures h y (at_exit T κs a vs))) (fact 𝓤 ((x ≡ y) × (ws ≡ vs)))

-- A function meets its contract: `met` is the kit's statement of it, that the routine which the compiler makes of the source, called with any values of
-- its parameters' types, returns, touches nothing but what it was lent, and leaves what its `ensures` says. The contract asks nothing; it is its clauses;
-- they say just this answer and these last values, and so determine the outcome.
pub record Tied {M : Type 1} {𝓤 : Ura M} (𝓛 : Logic 𝓤) (T : Ended) (statement : Type 2) (s : Spec 𝓤 T.signature) (c : Clauses 𝓤 T)
    (answer : Answers T) (last : Leaves T) : Type 2 where
  pub met : statement
  pub asks_nothing : AsksNothing 𝓤 T.signature s
  pub is_contract : s ≡ closing 𝓛 T c
  pub says : Says 𝓤 T c answer last
  pub determines : Determines 𝓤 T c
