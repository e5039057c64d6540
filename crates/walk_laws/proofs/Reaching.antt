-- A walk at any budget, stopped or not, is a scan of the first leaves below its node: those that it has seen, or cut, by then.
-- By induction on the variables left: a node that is refused has seen none and is itself due, a node that is cut has passed over all of its
-- leaves, and of two branches the second is walked only where the first is not stopped.
-- A walk is stopped exactly when a larger budget visits more nodes.
use Prim.Native.Nat.{ℕ, ◌≤◌, ◌<◌}
use mathlib.Core.Path.{◌≡◌, refl, sym, ap, ◌∙◌, subst}
use mathlib.Core.List.{List, [], ◌∷◌, ◌++◌, append-nil, append_assoc}
use mathlib.Core.Bool.{Bool, true, false, not}
use mathlib.Core.Logic.{⊎_elim}
use native.Mathlib.Omega.{arith}
use lib.ListN.{length, length-append}
use Rattle.masks.proofs.Choice.{cases, clash}
use Rattle.rules.specs.declared.Part.{Part}
use Rattle.rules.specs.declared.Walked.{Walked}
use Rattle.rules.specs.Walk.{fixed, visited, kept_at, halted, walk}
use Rattle.walk_laws.specs.Scan.{Chosen, chosen, scan, Reached, WithinBudget}
use Rattle.walk_laws.specs.Leaves.{leaves}
use Rattle.walk_laws.specs.Sound.{Sound}
use Rattle.walk_laws.proofs.Scans.{take-passed, take-taken, scan-none, scan-one, scan-append, scan-passed}
use Rattle.walk_laws.proofs.Branches.{walk_refused, walk-branches}
use Rattle.walk_laws.proofs.Walks.{entered, leaf-below}
use Rattle.walk_laws.proofs.Counting.{counted, no-fewer, rises, same-with-more}

-- ---- the first leaves

-- below every node there is a leaf, so that one is left where a node is due
some-leaf : (first : ℕ → Bool) (vs : List ℕ) (p : Part) → 1 ≤ length (leaves first vs p)
unfolding leaves
some-leaf first [] p = omega arith
some-leaf first (v ∷ vs) p =
    omega (
      arith,
      length-append (leaves first vs (fixed p v (first v))) (leaves first vs (fixed p v (not (first v)))),
      some-leaf first vs (fixed p v (first v)),
    )

module _ (weight : Part → ℕ) where
  -- no leaf is seen, and the node is due
  none_seen : (first : ℕ → Bool) (vs : List ℕ) (p : Part) (s : Walked) → Reached weight (leaves first vs p) (chosen s) (halted s)
  unfolding halted chosen
  none_seen first vs p s =
      record {
        front = [];
        rest = leaves first vs p;
        split = refl;
        is_best = sym (scan-none weight (chosen s));
        whole = λ e. absurd (clash refl e);
        some_left = λ e. some-leaf first vs p;
      }

  -- all leaves are seen
  all_seen : (qs : List Part) (c : Chosen) (w : Walked) → w.stopped ≡ false → chosen w ≡ scan weight qs c → Reached weight qs c w
  all_seen qs c w running e =
      record {
        front = qs;
        rest = [];
        split = sym (append-nil qs);
        is_best = e;
        whole = λ f. refl;
        some_left = λ f. absurd (clash f running);
      }

  -- stopped in the first of two lists
  in-first : (qs rs : List Part) (c : Chosen) (w u : Walked) → w.stopped ≡ true → u.stopped ≡ true → chosen u ≡ chosen w → Reached weight qs c w
      → Reached weight (qs ++ rs) c u
  in-first qs rs c w u halt still same r =
      record {
        front = r.front;
        rest = r.rest ++ rs;
        split = ap (λ (x : List Part). x ++ rs) r.split ∙ append_assoc r.front r.rest rs;
        is_best = same ∙ r.is_best;
        whole = λ e. absurd (clash still e);
        some_left = λ e. omega (arith, length-append r.rest rs, r.some_left halt);
      }

  -- through the first of two lists, and some way into the second
  in-second : (qs rs : List Part) (c : Chosen) (w u : Walked) → w.stopped ≡ false → Reached weight qs c w → Reached weight rs (chosen w) u
      → Reached weight (qs ++ rs) c u
  in-second qs rs c w u running r t =
      let through : qs ≡ r.front = r.split ∙ ap (λ (x : List Part). r.front ++ x) (r.whole running) ∙ append-nil r.front in
      record {
        front = qs ++ t.front;
        rest = t.rest;
        split = ap (λ (x : List Part). qs ++ x) t.split ∙ sym (append_assoc qs t.front t.rest);
        is_best =
            t.is_best
            ∙ ap (scan weight t.front) (r.is_best ∙ ap (λ (x : List Part). scan weight x c) (sym through))
            ∙ sym (scan-append weight qs t.front c);
        whole = t.whole;
        some_left = t.some_left;
      }

module _ (bound : Part → ℕ) (first : ℕ → Bool) (budget : ℕ) where
  -- a walk that starts below the budget, and not stopped
  started : (s : Walked) → s.stopped ≡ false → s.nodes < budget → WithinBudget budget (visited s)
  unfolding visited
  started s running r = record { within = omega arith; at_stop = λ e. absurd (clash e running) }

  pub reached : {nodes : List ℕ → Part → Type 0} {weight : ℕ → ℕ} → Sound nodes bound weight
      → (vs : List ℕ) (p : Part) (s : Walked) → nodes vs p → s.stopped ≡ false → WithinBudget budget s
      → Reached (λ q. weight q.truths) (leaves first vs p) (chosen s) (walk bound first budget vs p s)
  unfolding walk visited kept_at leaves chosen
  reached {nodes} {weight} sound [] p s n running h =
      let price : Part → ℕ = λ q. weight q.truths in
      entered (Reached price (p ∷ []) (chosen s)) budget (bound p) s (kept_at (bound p) p.truths (visited s))
      (λ r. none_seen price first [] p s)
      (λ r c. all_seen price (p ∷ []) (chosen s) (visited s) running
      (sym (scan-one _ p (chosen s) ∙ take-passed _ p.truths (chosen s) (omega (arith, sound.at_leaf n)))))
      (λ r c. all_seen price (p ∷ []) (chosen s) (kept_at (bound p) p.truths (visited s)) running
      (sym (scan-one _ p (chosen s) ∙ take-taken _ p.truths (chosen s) (omega (arith, sound.at_leaf n)) ∙ rw (sym (sound.at_leaf n)))))
  reached {nodes} {weight} sound (v ∷ vs) p s n running h =
      let price : Part → ℕ = λ q. weight q.truths in
      let p₁ : Part = fixed p v (first v) in
      let p₂ : Part = fixed p v (not (first v)) in
      let one : Walked = walk bound first budget vs p₁ (visited s) in
      let both : Walked = walk bound first budget vs p₂ one in
      let qs : List Part = leaves first vs p₁ in
      let rs : List Part = leaves first vs p₂ in
      entered (Reached price (qs ++ rs) (chosen s)) budget (bound p) s both
      (λ r. none_seen price first (v ∷ vs) p s)
      (λ r c. all_seen price (qs ++ rs) (chosen s) (visited s) running
      (sym (scan-passed price (qs ++ rs) (chosen s) (λ q m. omega (arith, sound.at_most n (leaf-below first (v ∷ vs) p q m))))))
      (λ r c.
      let start = started s running r in
      let mid : WithinBudget budget one = counted bound first budget vs p₁ (visited s) start in
      let half : Reached price qs (chosen s) one = reached sound vs p₁ (visited s) (sound.deeper n (first v)) running start in
      ⊎_elim
      (λ t.
      let stop : both ≡ halted one = walk_refused bound first budget vs p₂ one (omega (arith, mid.at_stop t)) in
      subst (Reached price (qs ++ rs) (chosen s)) (sym stop) (in-first price qs rs (chosen s) one (halted one) t (unfold halted in refl)
      (unfold halted in refl) half))
      (λ t. in-second price qs rs (chosen s) one both t half (reached sound vs p₂ one (sound.deeper n (not (first v))) t mid))
      (cases one.stopped))

-- ---- stopped exactly when a node was due

module _ (bound : Part → ℕ) (first : ℕ → Bool) (budget more : ℕ) (larger : budget < more) where
  -- the node that was due is entered with a larger budget
  pub due-entered : (vs : List ℕ) (p : Part) (s : Walked) → s.stopped ≡ false → WithinBudget budget s → (walk bound first budget vs p s).stopped ≡ true
      → budget < (walk bound first more vs p s).nodes
  unfolding walk visited kept_at halted
  due-entered [] p s running h =
      entered (λ (w : Walked). w.stopped ≡ true → budget < (walk bound first more [] p s).nodes) budget (bound p) s
      (kept_at (bound p) p.truths (visited s))
      (λ r e. omega (arith, rises bound first more [] p s (omega (arith, h.within))))
      (λ r c e. absurd (clash e running))
      (λ r c e. absurd (clash e running))
  due-entered (v ∷ vs) p s running h =
      let p₁ : Part = fixed p v (first v) in
      let p₂ : Part = fixed p v (not (first v)) in
      let one : Walked = walk bound first budget vs p₁ (visited s) in
      let one' : Walked = walk bound first more vs p₁ (visited s) in
      let both' : Walked = walk bound first more vs p₂ one' in
      entered (λ (w : Walked). w.stopped ≡ true → budget < (walk bound first more (v ∷ vs) p s).nodes) budget (bound p) s
      (walk bound first budget vs p₂ one)
      (λ r e. omega (arith, rises bound first more (v ∷ vs) p s (omega (arith, h.within))))
      (λ r c e. absurd (clash e running))
      (λ r c e.
      let start = started bound first budget s running r in
      let on : (walk bound first more (v ∷ vs) p s).nodes ≡ both'.nodes =
      ap (λ (w : Walked). w.nodes) (walk-branches bound first more v vs p s (omega arith) c) in
      let second : budget < both'.nodes =
      ⊎_elim
      (λ t. omega (arith, due-entered vs p₁ (visited s) running start t, no-fewer bound first more vs p₂ one'))
      (λ t.
      let same : one' ≡ one = same-with-more bound first budget more (omega arith) vs p₁ (visited s) t in
      subst (λ (w : Walked). budget < (walk bound first more vs p₂ w).nodes) (sym same)
      (due-entered vs p₂ one t (counted bound first budget vs p₁ (visited s) start) e))
      (cases one.stopped) in
      omega arith)
