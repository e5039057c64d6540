-- The nodes of document 01's walk. A leaf below a node extends it: fixing a variable that is not decided keeps the values of those that
-- are. And every full reading that extends a node is a leaf below it: give each variable in turn the value that the reading has.
use Prim.Native.Nat.{ℕ, ◌^◌, ◌<◌}
use mathlib.Core.Path.{◌≡◌, refl, sym, ap, ◌∙◌}
use mathlib.Core.List.{List, [], ◌∷◌}
use mathlib.Core.Bool.{Bool, true, false, ◌&&◌, and-true, and-false}
use mathlib.Core.Logic.{⊎_elim}
use native.Mathlib.Nat.{lt_of_le_of_lt}
use native.Mathlib.Omega.{arith}
use lib.Bits.{bit_or}
use Rattle.masks.specs.Masks.{has, without, single}
use Rattle.masks.proofs.Choice.{clash, not_so, eq-or-ne}
use Rattle.masks.proofs.Bits.{has-ext, has-and, has-lt}
use Rattle.masks.proofs.Sets.{within, within_of, within-and, within-le, put-lt, has-put-same, has-put-other, single-pow}
use Rattle.rules.specs.declared.Part.{Part}
use Rattle.rules.specs.Walk.{fixed, undecided}
use Rattle.walk_laws.specs.Sound.{Below, here, there, Extends, Node}
use Rattle.walk_laws.proofs.Undecided.{Lowest, undecided-head, all-decided}

-- ---- what a node has

pub node-truths : {n : ℕ} {vs : List ℕ} {p : Part} → Node n vs p → p.truths < 2 ^ n
node-truths {n} {vs} {p} node = lt_of_le_of_lt (within-le p.truths p.decided node.nested) node.within

-- the next variable
pub node-next : {n v : ℕ} {vs : List ℕ} {p : Part} → Node n (v ∷ vs) p → Lowest n p.decided v vs
node-next {n} {v} {vs} {p} node = undecided-head n p.decided v vs node.left

pub node-full : {n : ℕ} {p : Part} → Node n [] p → (v : ℕ) → v < n → has p.decided v ≡ true
node-full {n} {p} node = all-decided n p.decided node.left

pub node-itself : {n : ℕ} {vs : List ℕ} {p : Part} → Node n vs p → Extends p p.truths
node-itself {n} {vs} {p} node = within-and p.truths p.decided node.nested

-- what is not decided is not true
node-not-true : {n v : ℕ} {vs : List ℕ} {p : Part} → Node n (v ∷ vs) p → has p.truths v ≡ false
node-not-true {n} {v} {vs} {p} node =
    not_so (λ t. clash (within p.truths p.decided node.nested v t) (node-next node).is_left)

-- ---- fixing the next variable

module _ {n v : ℕ} {vs : List ℕ} {p : Part} (node : Node n (v ∷ vs) p) where
  bit-of-next : single v ≡ 2 ^ v
  bit-of-next = single-pow v (omega (arith, node.fits, (node-next node).variable))

  pub fixed-decided : (value : Bool) → (fixed p v value).decided ≡ bit_or p.decided (2 ^ v)
  unfolding fixed
  fixed-decided value = ap (bit_or p.decided) bit-of-next

  pub fixed-true : (fixed p v true).truths ≡ bit_or p.truths (2 ^ v)
  unfolding fixed
  fixed-true = ap (bit_or p.truths) bit-of-next

  pub fixed-false : (fixed p v false).truths ≡ p.truths
  unfolding fixed
  fixed-false = refl

  -- the variable has the value given
  pub fixed-value : (value : Bool) → has (fixed p v value).truths v ≡ value
  fixed-value true = ap (λ (m : ℕ). has m v) fixed-true ∙ has-put-same p.truths v
  fixed-value false = ap (λ (m : ℕ). has m v) fixed-false ∙ node-not-true node

  -- and the others have what they had
  pub fixed-other : (value : Bool) (u : ℕ) → (u ≡ v → ⊥) → has (fixed p v value).truths u ≡ has p.truths u
  fixed-other true u h = ap (λ (m : ℕ). has m u) fixed-true ∙ has-put-other p.truths v u h
  fixed-other false u h = ap (λ (m : ℕ). has m u) fixed-false

  fixed-nested : (value : Bool) → without (fixed p v value).truths (fixed p v value).decided ≡ 0
  fixed-nested value =
      rw (fixed-decided value)
      (within_of (fixed p v value).truths (bit_or p.decided (2 ^ v)) (λ u t.
      ⊎_elim
      (λ e. rw e (has-put-same p.decided v))
      (λ h. has-put-other p.decided v u h ∙ within p.truths p.decided node.nested u (sym (fixed-other value u h) ∙ t))
      (eq-or-ne u v)))

  pub node-deeper : (value : Bool) → Node n vs (fixed p v value)
  node-deeper value =
      record {
        fits = node.fits;
        nested = fixed-nested value;
        within = rw (fixed-decided value) (put-lt n node.within (node-next node).variable);
        left = ap (undecided n) (fixed-decided value) ∙ (node-next node).rest;
      }

  -- ---- what extends a node with one more variable fixed, extends the node, and the other way round

  pub extends-less : (value : Bool) (reading : ℕ) → Extends (fixed p v value) reading → Extends p reading
  extends-less value reading e =
      has-ext (λ u.
      ⊎_elim
      (λ q. rw q (has-and reading p.decided v ∙ rw (node-next node).is_left (and-false (has reading v) ∙ sym (node-not-true node))))
      (λ h.
      has-and reading p.decided u
      ∙ ap (λ (t : Bool). has reading u && t) (sym (has-put-other p.decided v u h) ∙ ap (λ (m : ℕ). has m u) (sym (fixed-decided value)))
      ∙ sym (has-and reading (fixed p v value).decided u)
      ∙ ap (λ (m : ℕ). has m u) e
      ∙ fixed-other value u h)
      (eq-or-ne u v))

  pub extends-value : (value : Bool) (reading : ℕ) → Extends (fixed p v value) reading → has reading v ≡ value
  extends-value value reading e =
      sym (and-true (has reading v))
      ∙ ap (λ (t : Bool). has reading v && t) (sym (ap (λ (m : ℕ). has m v) (fixed-decided value) ∙ has-put-same p.decided v))
      ∙ sym (has-and reading (fixed p v value).decided v)
      ∙ ap (λ (m : ℕ). has m v) e
      ∙ fixed-value value

  pub extends-more : (value : Bool) (reading : ℕ) → Extends p reading → has reading v ≡ value → Extends (fixed p v value) reading
  extends-more value reading e h =
      rw (fixed-decided value)
      (has-ext (λ u.
      ⊎_elim
      (λ q. rw q (has-and reading (bit_or p.decided (2 ^ v)) v ∙ rw (has-put-same p.decided v) (and-true (has reading v) ∙ h ∙ sym (fixed-value value))))
      (λ k.
      has-and reading (bit_or p.decided (2 ^ v)) u
      ∙ ap (λ (t : Bool). has reading u && t) (has-put-other p.decided v u k)
      ∙ sym (has-and reading p.decided u)
      ∙ ap (λ (m : ℕ). has m u) e
      ∙ sym (fixed-other value u k))
      (eq-or-ne u v)))

-- ---- leaves below a node

pub leaf-node : {n : ℕ} {vs : List ℕ} {p q : Part} → Node n vs p → Below vs p q → Node n [] q
leaf-node node here = node
leaf-node node (there value b) = leaf-node (node-deeper node value) b

pub leaf-extends : {n : ℕ} {vs : List ℕ} {p q : Part} → Node n vs p → Below vs p q → Extends p q.truths
leaf-extends node here = node-itself node
leaf-extends node (there {q = q} value b) = extends-less node value q.truths (leaf-extends (node-deeper node value) b)

-- the leaf that a reading is
pub leaf-of : {n : ℕ} (vs : List ℕ) (p : Part) (reading : ℕ) → Node n vs p → reading < 2 ^ n → Extends p reading
    → (q : Part) × Below vs p q × (q.truths ≡ reading)
leaf-of {n} [] p reading node l e =
    (p, here, sym e ∙ within-and reading p.decided (within_of reading p.decided (λ v t. node-full node v (has-lt n l t))))
leaf-of (v ∷ vs) p reading node l e =
    let w = leaf-of vs (fixed p v (has reading v)) reading (node-deeper node (has reading v)) l (extends-more node (has reading v) reading e refl) in
    (w.0, there (has reading v) w.1, w.2)
