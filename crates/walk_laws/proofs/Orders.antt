-- The leaves stand in the order of readings: one stands earlier than another exactly where it is before it.
-- At a node, the leaves of the first branch and those of the second agree on all lower variables, which are decided, and differ in the
-- node's variable. Since nothing is before itself, and no two readings are each before the other, each reading is there once.
use Prim.Native.Nat.{ℕ}
use mathlib.Core.Path.{◌≡◌, refl, sym, ap, ◌∙◌, subst}
use mathlib.Core.List.Memᴰ
use mathlib.Core.List.{List, [], ◌∷◌, ◌++◌, Memᴰ}
use mathlib.Core.Bool.{Bool, true, false, not, ◌&&◌, and-true}
use mathlib.Core.Logic.{◌⊎◌, inl, inr, ⊎_elim}
use native.Mathlib.Omega.{arith}
use Rattle.masks.specs.Masks.{has}
use Rattle.masks.proofs.Choice.{lt-or-le, eq-or-ne, clash}
use Rattle.masks.proofs.Bits.{has-and}
use Rattle.rules.specs.declared.Part.{Part}
use Rattle.rules.specs.Walk.{fixed}
use Rattle.walk_laws.specs.Leaves.{leaves}
use Rattle.walk_laws.specs.Sound.{Extends, Node}
use Rattle.walk_laws.specs.Order.{Before, Earlier, headed, behind}
use Rattle.walk_laws.proofs.Walks.{leaf-below}
use Rattle.walk_laws.proofs.Nodes.{node-next, node-deeper, extends-less, extends-value, leaf-extends}

-- ---- before

flips : (t : Bool) → t ≡ not t → ⊥
flips true e = clash refl e
flips false e = clash e refl

module _ (first : ℕ → Bool) where
  pub before-itself : (a : ℕ) → Before first a a → ⊥
  before-itself a b = flips (first b.place) (sym b.mine ∙ b.other)

  -- no two readings are each before the other
  pub before-once : (a b : ℕ) → Before first a b → Before first b a → ⊥
  before-once a b x y =
      ⊎_elim
      (λ l. flips (first x.place) (sym x.mine ∙ sym (y.agree x.place l) ∙ x.other))
      (λ l.
      ⊎_elim
      (λ e. flips (first y.place) (sym y.mine ∙ ap (has b) (sym e) ∙ x.other ∙ ap (λ (v : ℕ). not (first v)) e))
      (λ n. flips (first y.place) (sym y.mine ∙ sym (x.agree y.place (omega arith)) ∙ y.other))
      (eq-or-ne x.place y.place))
      (lt-or-le x.place y.place)

-- ---- earlier

earlier-cons : {x q r : Part} {qs : List Part} → Earlier (x ∷ qs) q r → ((q ≡ x) × Memᴰ r qs) ⊎ Earlier qs q r
earlier-cons (headed e m) = inl (e, m)
earlier-cons (behind e) = inr e

earlier-none : {q r : Part} → Earlier [] q r → ⊥
earlier-none e = elim e [ ]

-- both in the first list, or one in each, or both in the second
pub earlier-cases : {q r : Part} (xs : List Part) {ys : List Part} → Earlier (xs ++ ys) q r
    → Earlier xs q r ⊎ ((Memᴰ q xs × Memᴰ r ys) ⊎ Earlier ys q r)
earlier-cases [] e = inr (inr e)
earlier-cases {q} {r} (x ∷ xs) {ys} e =
    ⊎_elim
    (λ (h : (q ≡ x) × Memᴰ r (xs ++ ys)).
    ⊎_elim (λ m. inl (headed h.0 m)) (λ m. inr (inl (Memᴰ.head h.0, m))) (Memᴰ.append_cases xs h.1))
    (λ t.
    ⊎_elim
    (λ a. inl (behind a))
    (λ b. inr (⊎_elim (λ (m : Memᴰ q xs × Memᴰ r ys). inl (Memᴰ.tail m.0, m.1)) (λ c. inr c) b))
    (earlier-cases xs t))
    (earlier-cons e)

-- what stands behind a leaf
pub earlier-behind : (front : List Part) {q r : Part} {rest : List Part} → Memᴰ r rest → Earlier (front ++ (q ∷ rest)) q r
earlier-behind [] m = headed refl m
earlier-behind (x ∷ front) m = behind (earlier-behind front m)

-- of two members one is earlier, unless they are the same
pub two-members : {q r : Part} (qs : List Part) → Memᴰ q qs → Memᴰ r qs → (q ≡ r) ⊎ (Earlier qs q r ⊎ Earlier qs r q)
two-members [] a b = absurd (Memᴰ.not-nil a)
two-members {q} {r} (x ∷ qs) a b =
    ⊎_elim
    (λ (e : q ≡ x). ⊎_elim (λ (f : r ≡ x). inl (e ∙ sym f)) (λ m. inr (inl (headed e m))) (Memᴰ.cases_cons b))
    (λ m.
    ⊎_elim
    (λ (f : r ≡ x). inr (inr (headed f m)))
    (λ k. ⊎_elim (λ e. inl e) (λ o. inr (⊎_elim (λ u. inl (behind u)) (λ u. inr (behind u)) o)) (two-members qs m k))
    (Memᴰ.cases_cons b))
    (Memᴰ.cases_cons a)

-- ---- the leaves below a node

-- on a decided variable a reading has what the partial reading that it extends has
pub extends-at : (p : Part) (reading v : ℕ) → Extends p reading → has p.decided v ≡ true → has reading v ≡ has p.truths v
extends-at p reading v e h =
    sym (and-true (has reading v))
    ∙ ap (λ (t : Bool). has reading v && t) (sym h)
    ∙ sym (has-and reading p.decided v)
    ∙ ap (λ (m : ℕ). has m v) e

-- a leaf of the first branch is before one of the second
branch-before : (first : ℕ → Bool) {n v : ℕ} {vs : List ℕ} {p : Part} → Node n (v ∷ vs) p → (a b : ℕ)
    → Extends (fixed p v (first v)) a → Extends (fixed p v (not (first v))) b → Before first a b
branch-before first {n} {v} {vs} {p} node a b x y =
    record {
      place = v;
      agree = λ u l.
          extends-at p a u (extends-less node (first v) a x) ((node-next node).lower u l)
          ∙ sym (extends-at p b u (extends-less node (not (first v)) b y) ((node-next node).lower u l));
      mine = extends-value node (first v) a x;
      other = extends-value node (not (first v)) b y;
    }

module _ (first : ℕ → Bool) {n : ℕ} where
  pub earlier-before : (vs : List ℕ) (p q r : Part) → Node n vs p → Earlier (leaves first vs p) q r → Before first q.truths r.truths
  unfolding leaves
  earlier-before [] p q r node e =
      ⊎_elim (λ (h : (q ≡ p) × Memᴰ r []). absurd (Memᴰ.not-nil h.1)) (λ t. absurd (earlier-none t)) (earlier-cons e)
  earlier-before (v ∷ vs) p q r node e =
      let p₁ : Part = fixed p v (first v) in
      let p₂ : Part = fixed p v (not (first v)) in
      let node₁ = node-deeper node (first v) in
      let node₂ = node-deeper node (not (first v)) in
      ⊎_elim
      (earlier-before vs p₁ q r node₁)
      (λ o.
      ⊎_elim
      (λ (m : Memᴰ q (leaves first vs p₁) × Memᴰ r (leaves first vs p₂)).
      branch-before first node q.truths r.truths
      (leaf-extends node₁ (leaf-below first vs p₁ q m.0))
      (leaf-extends node₂ (leaf-below first vs p₂ r m.1)))
      (earlier-before vs p₂ q r node₂)
      o)
      (earlier-cases (leaves first vs p₁) e)

  pub before-earlier : (vs : List ℕ) (p q r : Part) → Node n vs p → Memᴰ q (leaves first vs p) → Memᴰ r (leaves first vs p)
      → Before first q.truths r.truths → Earlier (leaves first vs p) q r
  before-earlier vs p q r node a b h =
      ⊎_elim
      (λ e. absurd (before-itself first r.truths (subst (λ (x : Part). Before first x.truths r.truths) e h)))
      (λ o.
      ⊎_elim (λ e. e) (λ e. absurd (before-once first q.truths r.truths h (earlier-before vs p r q node e))) o)
      (two-members (leaves first vs p) a b)

  -- each reading is there once
  pub leaves-once : (vs : List ℕ) (p q r : Part) → Node n vs p → Earlier (leaves first vs p) q r → q.truths ≡ r.truths → ⊥
  leaves-once vs p q r node e same =
      before-itself first r.truths (subst (λ (m : ℕ). Before first m r.truths) same (earlier-before vs p q r node e))
