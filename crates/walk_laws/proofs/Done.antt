-- A search that is done found a reading of the least weight, and of those the first: its walk is the scan of all leaves, the leaves are
-- the readings that keep the decisions, in order, and all weigh less than the best that the walk starts with.
-- It is stated for any sound bound and any order. The bound of document 01 is sound, and so is lost alone.
use Prim.Native.Nat.{ℕ, ◌+◌, ◌≤◌}
use mathlib.Core.Path.{◌≡◌, refl, sym, ap, ◌∙◌, subst}
use mathlib.Core.List.{List, ◌∷◌, ◌++◌, Memᴰ}
use mathlib.Core.Bool.{Bool, true, false}
use mathlib.Core.Logic.{◌⊎◌, inl, inr, ⊎_elim}
use native.Mathlib.Omega.{arith}
use borrow.Author.Tests.{eqb-true, eq-eqb}
use lib.Bits.{bit_and}
use lib.Dec.{eqb}
use Rattle.masks.specs.Masks.{below}
use Rattle.masks.proofs.Choice.{and_left, and_right, both}
use Rattle.masks.proofs.Bits.{below-lt, lt-below}
use Rattle.rules.specs.declared.Part.{Part}
use Rattle.rules.specs.declared.Walked.{Walked}
use Rattle.rules.specs.Desk.{variables, decided, truths, weight_on, decisions, desk_weighs, keeps}
use Rattle.rules.specs.Bound.{lost, bound}
use Rattle.rules.specs.Walk.{undecided, at_start, walk_of}
use Rattle.walk_laws.specs.Scan.{Chosen, chosen, scan, Least}
use Rattle.walk_laws.specs.Leaves.{leaves}
use Rattle.walk_laws.specs.Sound.{Below, Sound, Node}
use Rattle.walk_laws.specs.Order.{Before, Earlier}
use Rattle.walk_laws.specs.Right.{Right, NoneBelow}
use Rattle.walk_laws.proofs.Scans.{scan-outcome, least-of-all}
use Rattle.walk_laws.proofs.Walks.{leaf-below, below-leaf, finished}
use Rattle.walk_laws.proofs.Bounds.{lost-below, lost-at-leaf, bound-below, bound-at-leaf}
use Rattle.desk_laws.proofs.Formed.{Formed}
use Rattle.walk_laws.proofs.Nodes.{node-truths, node-full, node-itself, node-deeper, leaf-node, leaf-extends, leaf-of}
use Rattle.walk_laws.proofs.Orders.{earlier-before, earlier-behind}

-- the walk starts at a node
pub root : (d : List ℕ) → Formed d → Node (variables d) (undecided (variables d) (decided d)) (decisions d)
unfolding decisions
root d f = record { fits = f.named; nested = f.nested; within = f.within; left = refl }

-- ---- the leaves are the readings that keep the decisions

module _ (d : List ℕ) (f : Formed d) where
  pub leaf-keeps : (q : Part) → Below (undecided (variables d) (decided d)) (decisions d) q → keeps d q.truths ≡ true
  unfolding keeps decisions
  leaf-keeps q b =
      both (lt-below (variables d) (node-truths (leaf-node (root d f) b)))
      (eq-eqb (bit_and q.truths (decided d)) (truths d) (leaf-extends (root d f) b))

  pub keeps-leaf : (reading : ℕ) → keeps d reading ≡ true
      → (q : Part) × Below (undecided (variables d) (decided d)) (decisions d) q × (q.truths ≡ reading)
  unfolding keeps decisions
  keeps-leaf reading h =
      leaf-of (undecided (variables d) (decided d)) (decisions d) reading (root d f)
      (below-lt reading (variables d) (and_left (below reading (variables d)) (eqb (bit_and reading (decided d)) (truths d)) h))
      (eqb-true (bit_and reading (decided d)) (truths d) (and_right (below reading (variables d)) (eqb (bit_and reading (decided d)) (truths d)) h))

  -- ---- the bound of document 01 is sound, and so is lost alone

  pub bound-sound : Sound (Node (variables d)) (bound d) (desk_weighs d)
  bound-sound =
      record {
        deeper = λ node value. node-deeper node value;
        at_most = λ {vs} {p} {q} node b. bound-below d p q.truths (leaf-extends node b) f.named;
        at_leaf = λ {p} node. bound-at-leaf d p f.sound (node-itself node) (node-full node);
      }

  pub lost-sound : Sound (Node (variables d)) (lost d) (desk_weighs d)
  lost-sound =
      record {
        deeper = λ node value. node-deeper node value;
        at_most = λ {vs} {p} {q} node b. lost-below d p q.truths (leaf-extends node b);
        at_leaf = λ {p} node. lost-at-leaf d p f.sound (node-itself node) (node-full node);
      }

-- ---- a finished walk is right

module _ (b : Part → ℕ) (weight : ℕ → ℕ) (first : ℕ → Bool) (d : List ℕ) (budget : ℕ) (f : Formed d)
    (sound : Sound (Node (variables d)) b weight) where
  abbrev lefts : List ℕ
  lefts = undecided (variables d) (decided d)

  abbrev all : List Part
  all = leaves first lefts (decisions d)

  abbrev price : Part → ℕ
  price q = weight q.truths

  -- the first of the least leaves is the foremost reading
  least-right : (w : Walked) → Least price all (weight_on d + 1) (chosen w) → Right weight first d w
  unfolding chosen
  least-right w l =
      let leaf : Part = l.leaf in
      let reading : w.reading ≡ leaf.truths = ap (λ (c : Chosen). c.reading) l.is_kept in
      let best : w.best ≡ weight leaf.truths = ap (λ (c : Chosen). c.best) l.is_kept in
      let member : Memᴰ leaf all =
      subst (λ (qs : List Part). Memᴰ leaf qs) (sym l.stands) (mathlib.Core.List.Memᴰ.append_right l.front (mathlib.Core.List.Memᴰ.head refl)) in
      record {
        kept = ap (λ (c : Chosen). c.kept) l.is_kept;
        within = omega (arith, best, l.less);
        foremost = record {
          keeps_all = ap (keeps d) reading ∙ leaf-keeps d f leaf (leaf-below first lefts (decisions d) leaf member);
          weighs = ap weight reading ∙ sym best;
          least = λ r h.
              let x = keeps-leaf d f r h in
              omega (arith, least-of-all l x.0 (below-leaf first x.1), ap weight x.2);
          first_of = λ r h s.
              let x = keeps-leaf d f r h in
              let split : Memᴰ x.0 (l.front ++ (leaf ∷ l.rest)) =
              subst (λ (qs : List Part). Memᴰ x.0 qs) l.stands (below-leaf first x.1) in
              ⊎_elim
              (λ m. absurd (omega (arith, l.in_front x.0 m, ap weight x.2)))
              (λ m.
              ⊎_elim
              (λ (q : x.0 ≡ leaf). inl (sym x.2 ∙ ap (λ (p : Part). p.truths) q ∙ sym reading))
              (λ k.
              let order : Before first leaf.truths x.0.truths =
              earlier-before first lefts (decisions d) leaf x.0 (root d f)
              (subst (λ (qs : List Part). Earlier qs leaf x.0) (sym l.stands) (earlier-behind l.front k)) in
              inr (rw (reading, sym x.2) order))
              (mathlib.Core.List.Memᴰ.cases_cons m))
              (mathlib.Core.List.Memᴰ.append_cases l.front split);
        };
      }

  -- A finished walk kept the foremost reading, or none is below the best that it starts with.
  pub finished-outcome : (walk_of b first d budget).stopped ≡ false
      → NoneBelow weight d (walk_of b first d budget) ⊎ Right weight first d (walk_of b first d budget)
  unfolding walk_of at_start chosen
  finished-outcome e =
      let start : Chosen = chosen (at_start d) in
      let same : chosen (walk_of b first d budget) ≡ scan price all start = finished b first budget sound lefts (decisions d) (at_start d) (root d f) e in
      ⊎_elim
      (λ (n : (scan price all start ≡ start) × ((q : Part) → Memᴰ q all → weight_on d + 1 ≤ weight q.truths)).
      inl (record {
        none = ap (λ (c : Chosen). c.kept) (same ∙ n.0);
        above = λ r h. let x = keeps-leaf d f r h in omega (arith, n.1 x.0 (below-leaf first x.1), ap weight x.2);
      }))
      (λ (l : Least price all (weight_on d + 1) (scan price all start)).
      inr (least-right (walk_of b first d budget) (subst (λ (c : Chosen). Least price all (weight_on d + 1) c) (sym same) l)))
      (scan-outcome price all start)

  -- where every reading is below it, and some reading always keeps the decisions: the decisions themselves, all else false
  pub finished-right : ((reading : ℕ) → weight reading ≤ weight_on d) → (walk_of b first d budget).stopped ≡ false → Right weight first d (walk_of b first d budget)
  unfolding decisions
  finished-right most e =
      let some = leaf-of lefts (decisions d) (truths d) (root d f) (node-truths (root d f)) (node-itself (root d f)) in
      ⊎_elim
      (λ (n : NoneBelow weight d (walk_of b first d budget)).
      absurd (omega (arith, n.above some.0.truths (leaf-keeps d f some.0 some.1), most some.0.truths)))
      (λ r. r)
      (finished-outcome e)
