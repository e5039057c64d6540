-- Of two sound bounds the larger never leads to more nodes in a finished run, and finishes where the smaller does.
-- Side by side, by induction on the variables left: where the smaller bound cuts so does the larger, and after a branch that both have
-- finished both keep the same, since each is the scan of the same leaves.
use Prim.Native.Nat.{ℕ, ◌+◌, ◌≤◌, ◌<◌}
use mathlib.Core.Path.{◌≡◌, refl, sym, ap, ◌∙◌, subst}
use mathlib.Core.List.{List, [], ◌∷◌}
use mathlib.Core.Bool.{Bool, false, not}
use mathlib.Core.Logic.{⊎_elim}
use native.Mathlib.Omega.{arith}
use Rattle.masks.proofs.Choice.{lt-or-le, clash}
use Rattle.rules.specs.declared.Part.{Part}
use Rattle.rules.specs.declared.Walked.{Walked}
use Rattle.rules.specs.Walk.{fixed, visited, kept_at, halted, walk}
use Rattle.walk_laws.specs.Scan.{Chosen, chosen, scan}
use Rattle.walk_laws.specs.Leaves.{leaves}
use Rattle.walk_laws.specs.Sound.{Sound}
use Rattle.walk_laws.proofs.Branches.{walk-cut, walk-leaf, walk-branches}
use Rattle.walk_laws.proofs.Walks.{entered, was-running, finished}
use Rattle.walk_laws.proofs.Counting.{no-fewer}

-- finished, with at most this many nodes
abbrev pub Within : Walked → ℕ → Type 0
Within w n = (w.stopped ≡ false) × (w.nodes ≤ n)

module _ (larger smaller : Part → ℕ) (first : ℕ → Bool) (budget : ℕ) {nodes : List ℕ → Part → Type 0} {weight : ℕ → ℕ}
    (sound₁ : Sound nodes larger weight) (sound₂ : Sound nodes smaller weight)
    (order : (vs : List ℕ) (p : Part) → nodes vs p → smaller p ≤ larger p) where
  -- cut at once
  cut-within : (vs : List ℕ) (p : Part) (s : Walked) (n : ℕ) → s.stopped ≡ false → s.nodes < budget → s.best ≤ larger p → s.nodes < n
      → Within (walk larger first budget vs p s) n
  unfolding visited
  cut-within vs p s n e r c h =
      subst (λ (w : Walked). Within w n) (sym (walk-cut larger first budget vs p s r c)) (e, omega arith)

  pub fewer-nodes : (vs : List ℕ) (p : Part) (s u : Walked) → nodes vs p → chosen s ≡ chosen u → s.stopped ≡ false → s.nodes ≤ u.nodes
      → (walk smaller first budget vs p u).stopped ≡ false → Within (walk larger first budget vs p s) (walk smaller first budget vs p u).nodes
  unfolding walk visited kept_at halted chosen
  fewer-nodes [] p s u n same e h =
      let best : s.best ≡ u.best = ap (λ (c : Chosen). c.best) same in
      entered (λ (w : Walked). w.stopped ≡ false → Within (walk larger first budget [] p s) w.nodes) budget (smaller p) u
      (kept_at (smaller p) p.truths (visited u))
      (λ r f. absurd (clash refl f))
      (λ r c f. cut-within [] p s (u.nodes + 1) e (omega arith) (omega (arith, order [] p n)) (omega arith))
      (λ r c f.
      subst (λ (w : Walked). Within w (u.nodes + 1))
      (sym (walk-leaf larger first budget p s (omega arith) (omega (arith, sound₁.at_leaf n, sound₂.at_leaf n))))
      (e, omega arith))
  fewer-nodes (v ∷ vs) p s u n same e h =
      let best : s.best ≡ u.best = ap (λ (c : Chosen). c.best) same in
      let p₁ : Part = fixed p v (first v) in
      let p₂ : Part = fixed p v (not (first v)) in
      let n₁ = sound₁.deeper n (first v) in
      let n₂ = sound₁.deeper n (not (first v)) in
      let one : Walked = walk larger first budget vs p₁ (visited s) in
      let one' : Walked = walk smaller first budget vs p₁ (visited u) in
      entered (λ (w : Walked). w.stopped ≡ false → Within (walk larger first budget (v ∷ vs) p s) w.nodes) budget (smaller p) u
      (walk smaller first budget vs p₂ one')
      (λ r f. absurd (clash refl f))
      (λ r c f. cut-within (v ∷ vs) p s (u.nodes + 1) e (omega arith) (omega (arith, order (v ∷ vs) p n)) (omega arith))
      (λ r c f.
      ⊎_elim
      (λ (on : larger p < s.best).
      let running : one'.stopped ≡ false = was-running smaller first budget vs p₂ one' f in
      let i : Within one one'.nodes = fewer-nodes vs p₁ (visited s) (visited u) n₁ same e (omega arith) running in
      let keep : chosen one ≡ chosen one' =
      finished larger first budget sound₁ vs p₁ (visited s) n₁ i.0
      ∙ ap (scan (λ q. weight q.truths) (leaves first vs p₁)) same
      ∙ sym (finished smaller first budget sound₂ vs p₁ (visited u) n₁ running) in
      subst (λ (w : Walked). Within w (walk smaller first budget vs p₂ one').nodes)
      (sym (walk-branches larger first budget v vs p s (omega arith) on))
      (fewer-nodes vs p₂ one one' n₂ keep i.0 i.1 f))
      (λ cut.
      cut-within (v ∷ vs) p s (walk smaller first budget vs p₂ one').nodes e (omega arith) cut
      (omega (arith, no-fewer smaller first budget vs p₁ (visited u), no-fewer smaller first budget vs p₂ one')))
      (lt-or-le (larger p) s.best))
