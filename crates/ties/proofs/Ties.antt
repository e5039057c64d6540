-- Clauses that are plain facts, one, two or three, entail what the facts say; and clauses that say an answer and last values determine them.
use mathlib.Core.Path.{◌≡◌, sym, ◌∙◌}
use base.Logic.{SProp, ent, sep, id⊢, via, fst∗, snd∗}
use contract.Monad.{conj, conj_l, conj_r, fact, fact_i, fact_use}
use denote.Triple.Clauses.{Ended, at_exit, Clauses, closing}
use denote.Triple.Spec.{Spec}
use types.Logic.{Logic}
use seplogic.Ra.Ura.{Ura}
use Rattle.ties.specs.Ties.{Answers, Leaves, AsksNothing, Says, Determines, Tied}

module _ {M : Type 1} (𝓤 : Ura M) where
  pub one-fact : (φ χ : Type 0) → (φ → χ) → ent 𝓤 (fact 𝓤 φ) (fact 𝓤 χ)
  one-fact φ χ f = fact_use 𝓤 φ (id⊢ 𝓤 (fact 𝓤 φ)) (λ p. fact_i 𝓤 χ (fact 𝓤 φ) (f p))

  pub two_facts : (φ α χ : Type 0) → (φ → α → χ) → ent 𝓤 (sep 𝓤 (fact 𝓤 φ) (fact 𝓤 α)) (fact 𝓤 χ)
  two_facts φ α χ f =
      let P : SProp 𝓤 = sep 𝓤 (fact 𝓤 φ) (fact 𝓤 α) in
      fact_use 𝓤 φ (fst∗ 𝓤 (fact 𝓤 φ) (fact 𝓤 α)) (λ p.
      fact_use 𝓤 α (snd∗ 𝓤 (fact 𝓤 φ) (fact 𝓤 α)) (λ a.
      fact_i 𝓤 χ P (f p a)))

  pub three-facts : (φ α β χ : Type 0) → (φ → α → β → χ) → ent 𝓤 (sep 𝓤 (fact 𝓤 φ) (sep 𝓤 (fact 𝓤 α) (fact 𝓤 β))) (fact 𝓤 χ)
  three-facts φ α β χ f =
      let Q : SProp 𝓤 = sep 𝓤 (fact 𝓤 α) (fact 𝓤 β) in
      let P : SProp 𝓤 = sep 𝓤 (fact 𝓤 φ) Q in
      fact_use 𝓤 φ (fst∗ 𝓤 (fact 𝓤 φ) Q) (λ p.
      fact_use 𝓤 α (via 𝓤 Q (snd∗ 𝓤 (fact 𝓤 φ) Q) (fst∗ 𝓤 (fact 𝓤 α) (fact 𝓤 β))) (λ a.
      fact_use 𝓤 β (via 𝓤 Q (snd∗ 𝓤 (fact 𝓤 φ) Q) (snd∗ 𝓤 (fact 𝓤 α) (fact 𝓤 β))) (λ b.
      fact_i 𝓤 χ P (f p a b))))

  -- what is said of both outcomes is the same
  determined : (T : Ended) (c : Clauses 𝓤 T) (answer : Answers T) (last : Leaves T) → Says 𝓤 T c answer last → Determines 𝓤 T c
  determined T c answer last says κs a g h x y ws vs =
      let P : SProp 𝓤 = (c κs a).ensures g x (at_exit T κs a ws) in
      let Q : SProp 𝓤 = (c κs a).ensures h y (at_exit T κs a vs) in
      fact_use 𝓤 _ (via 𝓤 P (conj_l 𝓤 P Q) (says κs a g x ws)) (λ (p : (x ≡ answer κs a) × (ws ≡ last κs a)).
      fact_use 𝓤 _ (via 𝓤 Q (conj_r 𝓤 P Q) (says κs a h y vs)) (λ (q : (y ≡ answer κs a) × (vs ≡ last κs a)).
      fact_i 𝓤 _ (conj 𝓤 P Q) (p.0 ∙ sym q.0, p.1 ∙ sym q.1)))

  pub tied : (𝓛 : Logic 𝓤) {T : Ended} {statement : Type 2} {s : Spec 𝓤 T.signature} {c : Clauses 𝓤 T} {answer : Answers T}
      {last : Leaves T} → statement → AsksNothing 𝓤 T.signature s → s ≡ closing 𝓛 T c → Says 𝓤 T c answer last
      → Tied 𝓛 T statement s c answer last
  tied 𝓛 {T} {statement} {s} {c} {answer} {last} met asks e says =
      record { met = met; asks_nothing = asks; is_contract = e; says = says; determines = determined T c answer last says }
