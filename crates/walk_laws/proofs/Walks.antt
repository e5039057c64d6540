-- A finished walk is a scan of all leaves below its node, for any sound bound. By induction on the variables left: a node that is cut has
-- only leaves that the scan passes over, a node that is not is its two branches, and a leaf is taken where it is not cut.
-- A walk that has stopped stays stopped, so no node of a finished walk was refused by the budget.
use Prim.Native.Nat.{ℕ, ◌≤◌, ◌<◌}
use mathlib.Core.Path.{◌≡◌, refl, sym, ap, ◌∙◌, subst}
use mathlib.Core.List.Memᴰ
use mathlib.Core.List.{List, [], ◌∷◌, Memᴰ}
use mathlib.Core.Bool.{Bool, true, false, cond, not}
use mathlib.Core.Logic.{⊎_elim}
use native.Mathlib.Omega.{arith}
use borrow.Author.Tests.{leb-true, leb-false, ltb-true, ltb-false}
use lib.Dec.{leb, ltb}
use Rattle.masks.proofs.Choice.{cases, clash, cond-elim}
use Rattle.rules.specs.declared.Part.{Part}
use Rattle.rules.specs.declared.Walked.{Walked}
use Rattle.rules.specs.Walk.{fixed, visited, kept_at, halted, entering, walk}
use Rattle.walk_laws.specs.Scan.{chosen, scan}
use Rattle.walk_laws.specs.Leaves.{leaves}
use Rattle.walk_laws.specs.Sound.{Below, here, there, Sound}
use Rattle.walk_laws.proofs.Scans.{take-passed, take-taken, scan-one, scan-append, scan-passed}

-- ---- a node that is due is refused by the budget, cut, or entered

pub entered : (P : Walked → Type 0) (budget b : ℕ) (s beyond : Walked) → (budget ≤ s.nodes → P (halted s))
    → (s.nodes < budget → s.best ≤ b → P (visited s)) → (s.nodes < budget → b < s.best → P beyond) → P (entering budget b s beyond)
entered P budget b s beyond refused cut on =
    cond-elim P (ltb s.nodes budget) (cond (leb s.best b) (visited s) beyond) (halted s)
    (λ t. cond-elim P (leb s.best b) (visited s) beyond
    (λ c. cut (ltb-true s.nodes budget t) (leb-true s.best b c))
    (λ c. on (ltb-true s.nodes budget t) (leb-false s.best b c)))
    (λ t. refused (ltb-false s.nodes budget t))

-- ---- the leaves of the list are the leaves below

pub leaf-below : (first : ℕ → Bool) (vs : List ℕ) (p q : Part) → Memᴰ q (leaves first vs p) → Below vs p q
unfolding leaves
leaf-below first [] p q m = subst (λ (r : Part). Below [] p r) (sym (Memᴰ.eq_of_singleton m)) here
leaf-below first (v ∷ vs) p q m =
    ⊎_elim
    (λ l. there (first v) (leaf-below first vs (fixed p v (first v)) q l))
    (λ l. there (not (first v)) (leaf-below first vs (fixed p v (not (first v))) q l))
    (Memᴰ.append_cases (leaves first vs (fixed p v (first v))) m)

-- a value is the one tried first or the other
either_way : (P : Bool → Type 0) (f value : Bool) → (value ≡ f → P f) → (value ≡ not f → P (not f)) → P value
either_way P true true one other = one refl
either_way P true false one other = other refl
either_way P false true one other = other refl
either_way P false false one other = one refl

pub below-leaf : (first : ℕ → Bool) {vs : List ℕ} {p q : Part} → Below vs p q → Memᴰ q (leaves first vs p)
unfolding leaves
below-leaf first here = Memᴰ.head refl
below-leaf first (there {v = v} {vs = vs} {p = p} {q = q} value b) =
    either_way (λ (t : Bool). Memᴰ q (leaves first vs (fixed p v t)) → Memᴰ q (leaves first (v ∷ vs) p)) (first v) value
    (λ e l. Memᴰ.append_left (leaves first vs (fixed p v (not (first v)))) l)
    (λ e l. Memᴰ.append_right (leaves first vs (fixed p v (first v))) l)
    (below-leaf first b)

-- a leaf below a node is a node
pub below-node : {nodes : List ℕ → Part → Type 0} {bound : Part → ℕ} {weight : ℕ → ℕ} {vs : List ℕ} {p q : Part} → Sound nodes bound weight
    → nodes vs p → Below vs p q → nodes [] q
below-node sound n here = n
below-node sound n (there value b) = below-node sound (sound.deeper n value) b

module _ (bound : Part → ℕ) (first : ℕ → Bool) (budget : ℕ) where
  -- ---- stopped stays

  pub stays-stopped : (vs : List ℕ) (p : Part) (s : Walked) → s.stopped ≡ true → (walk bound first budget vs p s).stopped ≡ true
  unfolding walk visited kept_at halted
  stays-stopped [] p s h =
      entered (λ (w : Walked). w.stopped ≡ true) budget (bound p) s (kept_at (bound p) p.truths (visited s)) (λ r. refl) (λ r c. h) (λ r c. h)
  stays-stopped (v ∷ vs) p s h =
      entered (λ (w : Walked). w.stopped ≡ true) budget (bound p) s
      (walk bound first budget vs (fixed p v (not (first v))) (walk bound first budget vs (fixed p v (first v)) (visited s)))
      (λ r. refl) (λ r c. h)
      (λ r c. stays-stopped vs (fixed p v (not (first v))) (walk bound first budget vs (fixed p v (first v)) (visited s))
      (stays-stopped vs (fixed p v (first v)) (visited s) h))

  pub was-running : (vs : List ℕ) (p : Part) (s : Walked) → (walk bound first budget vs p s).stopped ≡ false → s.stopped ≡ false
  was-running vs p s e = ⊎_elim (λ t. absurd (clash (stays-stopped vs p s t) e)) (λ t. t) (cases s.stopped)

  -- ---- a finished walk is a scan

  pub finished : {nodes : List ℕ → Part → Type 0} {weight : ℕ → ℕ} → Sound nodes bound weight
      → (vs : List ℕ) (p : Part) (s : Walked) → nodes vs p → (walk bound first budget vs p s).stopped ≡ false
      → chosen (walk bound first budget vs p s) ≡ scan (λ q. weight q.truths) (leaves first vs p) (chosen s)
  unfolding walk visited kept_at halted leaves chosen
  finished {nodes} {weight} sound [] p s n =
      entered (λ (w : Walked). w.stopped ≡ false → chosen w ≡ scan (λ q. weight q.truths) (p ∷ []) (chosen s)) budget (bound p) s
      (kept_at (bound p) p.truths (visited s))
      (λ r e. absurd (clash refl e))
      (λ r c e. sym (scan-one _ p (chosen s) ∙ take-passed _ p.truths (chosen s) (omega (arith, sound.at_leaf n))))
      (λ r c e. sym (scan-one _ p (chosen s) ∙ take-taken _ p.truths (chosen s) (omega (arith, sound.at_leaf n)) ∙ rw (sym (sound.at_leaf n))))
  finished {nodes} {weight} sound (v ∷ vs) p s n =
      let price : Part → ℕ = λ q. weight q.truths in
      let p₁ : Part = fixed p v (first v) in
      let p₂ : Part = fixed p v (not (first v)) in
      let one : Walked = walk bound first budget vs p₁ (visited s) in
      entered (λ (w : Walked). w.stopped ≡ false → chosen w ≡ scan price (leaves first (v ∷ vs) p) (chosen s)) budget (bound p) s
      (walk bound first budget vs p₂ one)
      (λ r e. absurd (clash refl e))
      (λ r c e. sym (scan-passed price (leaves first (v ∷ vs) p) (chosen s)
      (λ q m. omega (arith, sound.at_most n (leaf-below first (v ∷ vs) p q m)))))
      (λ r c e.
      finished sound vs p₂ one (sound.deeper n (not (first v))) e
      ∙ ap (scan price (leaves first vs p₂)) (finished sound vs p₁ (visited s) (sound.deeper n (first v)) (was-running vs p₂ one e))
      ∙ sym (scan-append price (leaves first vs p₁) (leaves first vs p₂) (chosen s)))
