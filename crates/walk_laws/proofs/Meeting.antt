-- What a walk keeps, stopped or not, is the best of the leaves that it met: the walk is the scan of these by their bounds.
-- With a larger budget a walk meets the same leaves and then perhaps more, so that what it keeps never gets worse.
use Prim.Native.Nat.{ℕ, ◌≤◌, ◌<◌}
use mathlib.Core.Path.{◌≡◌, refl, sym, ap, ap₂, ◌∙◌}
use mathlib.Core.List.Memᴰ
use mathlib.Core.List.{List, [], ◌∷◌, ◌++◌, append-nil, append_assoc, Memᴰ, Sublistᴰ}
use mathlib.Core.List.Sublistᴰ
use mathlib.Core.Bool.{Bool, true, false, cond, not}
use mathlib.Core.Logic.{⊎_elim}
use native.Mathlib.Omega.{arith}
use borrow.Author.Tests.{leb-true, leb-false, ltb-true, ltb-false, lt-ltb, le-ltb, le-leb, lt-leb}
use lib.Dec.{leb, ltb}
use Rattle.masks.proofs.Choice.{cases, clash}
use Rattle.rules.specs.declared.Part.{Part}
use Rattle.rules.specs.declared.Walked.{Walked}
use Rattle.rules.specs.Walk.{fixed, visited, kept_at, halted, entering, walk}
use Rattle.walk_laws.specs.Scan.{Chosen, chosen, scan, WithinBudget}
use Rattle.walk_laws.specs.Leaves.{leaves, met}
use Rattle.walk_laws.specs.Sound.{Sound}
use Rattle.walk_laws.proofs.Scans.{scan-none, scan-one, scan-append, scan-ext, take-taken, scan-best, scan-kept}
use Rattle.walk_laws.proofs.Walks.{leaf-below, below-node, was-running}
use Rattle.walk_laws.proofs.Counting.{counted, same-with-more}

-- the three ways of a node that is due, with the leaves met below it
abbrev meeting : ℕ → ℕ → Walked → List Part → List Part
meeting budget b s beyond = cond (ltb s.nodes budget) (cond (leb s.best b) [] beyond) []

pub entered-met : (P : Walked → List Part → Type 0) (budget b : ℕ) (s beyond : Walked) (qs : List Part) → (budget ≤ s.nodes → P (halted s) [])
    → (s.nodes < budget → s.best ≤ b → P (visited s) []) → (s.nodes < budget → b < s.best → P beyond qs)
    → P (entering budget b s beyond) (meeting budget b s qs)
entered-met P budget b s beyond qs refused cut on =
    go (ltb s.nodes budget) (leb s.best b)
    (λ t. refused (ltb-false s.nodes budget t))
    (λ t c. cut (ltb-true s.nodes budget t) (leb-true s.best b c))
    (λ t c. on (ltb-true s.nodes budget t) (leb-false s.best b c))
  where
    go : (t c : Bool) → (t ≡ false → P (halted s) []) → (t ≡ true → c ≡ true → P (visited s) []) → (t ≡ true → c ≡ false → P beyond qs)
        → P (cond t (cond c (visited s) beyond) (halted s)) (cond t (cond c [] qs) [])
    go true true f g h = g refl refl
    go true false f g h = h refl refl
    go false c f g h = f refl

-- a member of a part of a list is one of the list
pub member-of-sublist : {qs rs : List Part} {q : Part} → Sublistᴰ qs rs → Memᴰ q qs → Memᴰ q rs
member-of-sublist Sublistᴰ.slnil m = m
member-of-sublist (Sublistᴰ.cons s) m = Memᴰ.tail (member-of-sublist s m)
member-of-sublist (Sublistᴰ.cons-cons e s) m =
    ⊎_elim (λ h. Memᴰ.head (h ∙ e)) (λ t. Memᴰ.tail (member-of-sublist s t)) (Memᴰ.cases_cons m)

module _ (bound : Part → ℕ) (first : ℕ → Bool) (budget : ℕ) where
  -- ---- the walk is the scan of what it met

  pub walk-met : (vs : List ℕ) (p : Part) (s : Walked)
      → chosen (walk bound first budget vs p s) ≡ scan bound (met bound first budget vs p s) (chosen s)
  unfolding walk visited kept_at halted met chosen
  walk-met [] p s =
      entered-met (λ (w : Walked) (qs : List Part). chosen w ≡ scan bound qs (chosen s)) budget (bound p) s
      (kept_at (bound p) p.truths (visited s)) (p ∷ [])
      (λ r. sym (scan-none bound (chosen s)))
      (λ r c. sym (scan-none bound (chosen s)))
      (λ r c. sym (scan-one bound p (chosen s) ∙ take-taken (bound p) p.truths (chosen s) c))
  walk-met (v ∷ vs) p s =
      let p₁ : Part = fixed p v (first v) in
      let p₂ : Part = fixed p v (not (first v)) in
      let one : Walked = walk bound first budget vs p₁ (visited s) in
      entered-met (λ (w : Walked) (qs : List Part). chosen w ≡ scan bound qs (chosen s)) budget (bound p) s
      (walk bound first budget vs p₂ one) (met bound first budget vs p₁ (visited s) ++ met bound first budget vs p₂ one)
      (λ r. sym (scan-none bound (chosen s)))
      (λ r c. sym (scan-none bound (chosen s)))
      (λ r c.
      walk-met vs p₂ one
      ∙ ap (scan bound (met bound first budget vs p₂ one)) (walk-met vs p₁ (visited s))
      ∙ sym (scan-append bound (met bound first budget vs p₁ (visited s)) (met bound first budget vs p₂ one) (chosen s)))

  -- what is met are leaves below the node, in their order
  pub met-leaves : (vs : List ℕ) (p : Part) (s : Walked) → Sublistᴰ (met bound first budget vs p s) (leaves first vs p)
  unfolding met leaves
  met-leaves [] p s =
      entered-met (λ (w : Walked) (qs : List Part). Sublistᴰ qs (p ∷ [])) budget (bound p) s s (p ∷ [])
      (λ r. Sublistᴰ.nil-sublist (p ∷ [])) (λ r c. Sublistᴰ.nil-sublist (p ∷ [])) (λ r c. Sublistᴰ.refl (p ∷ []))
  met-leaves (v ∷ vs) p s =
      let p₁ : Part = fixed p v (first v) in
      let p₂ : Part = fixed p v (not (first v)) in
      let one : Walked = walk bound first budget vs p₁ (visited s) in
      entered-met (λ (w : Walked) (qs : List Part). Sublistᴰ qs (leaves first vs p₁ ++ leaves first vs p₂)) budget (bound p) s s
      (met bound first budget vs p₁ (visited s) ++ met bound first budget vs p₂ one)
      (λ r. Sublistᴰ.nil-sublist (leaves first vs p₁ ++ leaves first vs p₂))
      (λ r c. Sublistᴰ.nil-sublist (leaves first vs p₁ ++ leaves first vs p₂))
      (λ r c. Sublistᴰ.append (met-leaves vs p₁ (visited s)) (met-leaves vs p₂ one))

  -- so by weights, where the bound is sound
  pub walk-met-weights : {nodes : List ℕ → Part → Type 0} {weight : ℕ → ℕ} → Sound nodes bound weight
      → (vs : List ℕ) (p : Part) (s : Walked) → nodes vs p
      → chosen (walk bound first budget vs p s) ≡ scan (λ q. weight q.truths) (met bound first budget vs p s) (chosen s)
  walk-met-weights sound vs p s n =
      walk-met vs p s
      ∙ scan-ext (met bound first budget vs p s) (chosen s)
      (λ q m. sound.at_leaf (below-node sound n (leaf-below first vs p q (member-of-sublist (met-leaves vs p s) m))))

  -- nothing is met once the budget is used up
  pub met-past : (vs : List ℕ) (p : Part) (s : Walked) → budget ≤ s.nodes → met bound first budget vs p s ≡ []
  unfolding met
  met-past [] p s h = rw (le-ltb s.nodes budget h)
  met-past (v ∷ vs) p s h = rw (le-ltb s.nodes budget h)

-- ---- a larger budget

-- qs is the first part of rs
abbrev pub Prefix : List Part → List Part → Type 0
Prefix qs rs = (more : List Part) × (rs ≡ qs ++ more)

module _ (bound : Part → ℕ) (first : ℕ → Bool) (budget more : ℕ) (larger : budget ≤ more) where
  meet-cut : (b : ℕ) (s : Walked) (qs : List Part) → s.nodes < budget → s.best ≤ b → meeting more b s qs ≡ []
  meet-cut b s qs r c = rw (lt-ltb s.nodes more (omega arith), le-leb s.best b c)

  meet-on : (b : ℕ) (s : Walked) (qs : List Part) → s.nodes < budget → b < s.best → meeting more b s qs ≡ qs
  meet-on b s qs r c = rw (lt-ltb s.nodes more (omega arith), lt-leb s.best b c)

  -- a walk that is not stopped meets no other leaves
  pub same_met : (vs : List ℕ) (p : Part) (s : Walked) → (walk bound first budget vs p s).stopped ≡ false
      → met bound first more vs p s ≡ met bound first budget vs p s
  unfolding walk visited kept_at halted met
  same_met [] p s =
      entered-met (λ (w : Walked) (qs : List Part). w.stopped ≡ false → meeting more (bound p) s (p ∷ []) ≡ qs) budget (bound p) s
      (kept_at (bound p) p.truths (visited s)) (p ∷ [])
      (λ r e. absurd (clash refl e))
      (λ r c e. meet-cut (bound p) s (p ∷ []) r c)
      (λ r c e. meet-on (bound p) s (p ∷ []) r c)
  same_met (v ∷ vs) p s =
      let p₁ : Part = fixed p v (first v) in
      let p₂ : Part = fixed p v (not (first v)) in
      let one : Walked = walk bound first budget vs p₁ (visited s) in
      let qs : List Part = met bound first more vs p₁ (visited s) ++ met bound first more vs p₂ (walk bound first more vs p₁ (visited s)) in
      entered-met (λ (w : Walked) (rs : List Part). w.stopped ≡ false → meeting more (bound p) s qs ≡ rs) budget (bound p) s
      (walk bound first budget vs p₂ one) (met bound first budget vs p₁ (visited s) ++ met bound first budget vs p₂ one)
      (λ r e. absurd (clash refl e))
      (λ r c e. meet-cut (bound p) s qs r c)
      (λ r c e.
      let running : one.stopped ≡ false = was-running bound first budget vs p₂ one e in
      meet-on (bound p) s qs r c
      ∙ ap₂ (λ (a b : List Part). a ++ b) (same_met vs p₁ (visited s) running)
      (ap (met bound first more vs p₂) (same-with-more bound first budget more larger vs p₁ (visited s) running) ∙ same_met vs p₂ one e))

  pub met-prefix : (vs : List ℕ) (p : Part) (s : Walked) → WithinBudget budget s
      → Prefix (met bound first budget vs p s) (met bound first more vs p s)
  unfolding visited met
  met-prefix [] p s h =
      entered-met (λ (w : Walked) (qs : List Part). Prefix qs (meeting more (bound p) s (p ∷ []))) budget (bound p) s s (p ∷ [])
      (λ r. (meeting more (bound p) s (p ∷ []), refl))
      (λ r c. ([], meet-cut (bound p) s (p ∷ []) r c))
      (λ r c. ([], meet-on (bound p) s (p ∷ []) r c))
  met-prefix (v ∷ vs) p s h =
      let p₁ : Part = fixed p v (first v) in
      let p₂ : Part = fixed p v (not (first v)) in
      let one : Walked = walk bound first budget vs p₁ (visited s) in
      let qs₁ : List Part = met bound first budget vs p₁ (visited s) in
      let qs₂ : List Part = met bound first budget vs p₂ one in
      let rs₁ : List Part = met bound first more vs p₁ (visited s) in
      let rs₂ : List Part = met bound first more vs p₂ (walk bound first more vs p₁ (visited s)) in
      entered-met (λ (w : Walked) (qs : List Part). Prefix qs (meeting more (bound p) s (rs₁ ++ rs₂))) budget (bound p) s s (qs₁ ++ qs₂)
      (λ r. (meeting more (bound p) s (rs₁ ++ rs₂), refl))
      (λ r c. ([], meet-cut (bound p) s (rs₁ ++ rs₂) r c))
      (λ r c.
      let start : WithinBudget budget (visited s) = record { within = omega arith; at_stop = λ e. absurd (omega (arith, h.at_stop e)) } in
      let mid : WithinBudget budget one = counted bound first budget vs p₁ (visited s) start in
      ⊎_elim
      (λ t.
      let f : Prefix qs₁ rs₁ = met-prefix vs p₁ (visited s) start in
      let none : qs₂ ≡ [] = met-past bound first budget vs p₂ one (omega (arith, mid.at_stop t)) in
      (f.0 ++ rs₂, meet-on (bound p) s (rs₁ ++ rs₂) r c ∙ rw (f.1, none, append-nil, append_assoc)))
      (λ t.
      let g : Prefix qs₂ (met bound first more vs p₂ one) = met-prefix vs p₂ one mid in (
        g.0,
        meet-on (bound p) s (rs₁ ++ rs₂) r c
            ∙ ap₂ (λ (a b : List Part). a ++ b) (same_met vs p₁ (visited s) t)
            (ap (met bound first more vs p₂) (same-with-more bound first budget more larger vs p₁ (visited s) t) ∙ g.1)
            ∙ sym (append_assoc qs₁ qs₂ g.0),
      ))
      (cases one.stopped))

  -- what is kept never gets worse, and is not lost
  pub never-worse : (vs : List ℕ) (p : Part) (s : Walked) → WithinBudget budget s
      → (walk bound first more vs p s).best ≤ (walk bound first budget vs p s).best
  unfolding chosen
  never-worse vs p s h =
      let f = met-prefix vs p s h in
      let qs : List Part = met bound first budget vs p s in
      let best : Chosen → ℕ = λ c. c.best in
      let less : (walk bound first budget vs p s).best ≡ (scan bound qs (chosen s)).best = ap best (walk-met bound first budget vs p s) in
      let most : (walk bound first more vs p s).best ≡ (scan bound f.0 (scan bound qs (chosen s))).best =
      ap best (walk-met bound first more vs p s ∙ ap (λ (rs : List Part). scan bound rs (chosen s)) f.1 ∙ scan-append bound qs f.0 (chosen s)) in
      omega (arith, scan-best bound f.0 (scan bound qs (chosen s)))

  pub kept-with-more : (vs : List ℕ) (p : Part) (s : Walked) → WithinBudget budget s → (walk bound first budget vs p s).kept ≡ true
      → (walk bound first more vs p s).kept ≡ true
  unfolding chosen
  kept-with-more vs p s h k =
      let f = met-prefix vs p s h in
      let qs : List Part = met bound first budget vs p s in
      let kept : Chosen → Bool = λ c. c.kept in
      ap kept (walk-met bound first more vs p s ∙ ap (λ (rs : List Part). scan bound rs (chosen s)) f.1 ∙ scan-append bound qs f.0 (chosen s))
      ∙ scan-kept bound f.0 (scan bound qs (chosen s)) (sym (ap kept (walk-met bound first budget vs p s)) ∙ k)
