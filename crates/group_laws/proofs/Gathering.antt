-- The rows of a group cannot all hold below the node. A reading that extends the node's partial reading and satisfies the rows of a trail's
-- entries that join, oldest first, agrees with q on all that is needed: each entry's literal is the only one of its row that the reading can
-- make true. So it misses the conflict row. What a group costs is the smallest working weight among its rows.
use Prim.Native.Nat.{ℕ, ◌<◌, ◌≤◌, min}
use mathlib.Core.Path.{◌≡◌, refl, sym, ap, ◌∙◌}
use mathlib.Core.List.Memᴰ
use mathlib.Core.List.{List, [], ◌∷◌, Memᴰ}
use mathlib.Core.Bool.{Bool, true, false, ◌||◌}
use mathlib.Core.Logic.{◌⊎◌, inl, inr, ⊎_elim}
use native.Mathlib.Nat.{le_refl}
use native.Mathlib.Omega.{arith}
use lib.Bits.{bit_and, bit_or}
use Rattle.masks.specs.Masks.{has, none}
use Rattle.masks.proofs.Choice.{cases, clash, lt-or-le, or_cases, cond-elim}
use Rattle.masks.proofs.Bits.{has-or}
use Rattle.masks.proofs.Sets.{apart, none-zero, zero-none}
use Rattle.literals.specs.declared.Lits.{Lits}
use Rattle.literals.specs.Lits.{variables_of}
use Rattle.literals.proofs.TwoMasks.{Held}
use Rattle.rules.specs.declared.Part.{Part}
use Rattle.rules.specs.Table.{holds}
use Rattle.rules.specs.Desk.{remnant}
use Rattle.rules.specs.Groups.{Weights, Forced, Hunt, Group, joined, gathered, conflict_group, group_of}
use Rattle.walk_laws.specs.Sound.{Extends}
use Rattle.walk_laws.proofs.Agreeing.{Nested, Agrees, extends-agrees, agrees-less, holds-agreed}
use Rattle.walk_laws.proofs.Remnants.{holds-empty}
use Rattle.group_laws.proofs.Parts.{Grows, grows_same, grows-on, decided-or-left, left-undecided, remnant-held, one-made, made-nested}
use Rattle.group_laws.proofs.Parts.{made-grows, made-agrees}
use Rattle.group_laws.proofs.Hunting.{Forces, behind, Leads, here, on, leads-nested, Clashes, Hunting}

module _ (lits : ℕ → Lits) (rows : ℕ) (p : Part) (W : Weights) where
  -- ---- an entry: not needed, or one more row

  abbrev pub more : Forced → Group → Group
  more e g =
      record {
        needed = bit_or g.needed (variables_of (remnant p (lits e.row)));
        cost = min (W e.row) g.cost;
        rows = e.row ∷ g.rows;
      }

  pub joined_by : (P : Group → Type 0) (e : Forced) (g : Group) → (bit_and e.variable g.needed ≡ 0 → P g) → P (more e g)
      → P (joined lits W p e g)
  unfolding joined
  joined_by P e g not-needed joins =
      cond-elim P (none (bit_and e.variable g.needed)) g (more e g) (λ t. not-needed (zero-none (bit_and e.variable g.needed) t)) (λ t. joins)

  pub joined-out : (e : Forced) (g : Group) → bit_and e.variable g.needed ≡ 0 → joined lits W p e g ≡ g
  unfolding joined
  joined-out e g z = rw (none-zero z)

  pub joined_in : (e : Forced) (g : Group) → (bit_and e.variable g.needed ≡ 0 → ⊥) → joined lits W p e g ≡ more e g
  joined_in e g h = joined_by (λ k. k ≡ more e g) e g (λ z. absurd (h z)) refl

  -- ---- what a group costs

  pub record Costed (g : Group) : Type 0 where
    pub used : (j : ℕ) → Memᴰ j g.rows → j < rows
    pub weighty : (j : ℕ) → Memᴰ j g.rows → 0 < W j
    pub least : (j : ℕ) → Memᴰ j g.rows → g.cost ≤ W j
    pub attained : (j : ℕ) × Memᴰ j g.rows × (W j ≡ g.cost)

  more-costed : (e : Forced) (g : Group) → e.row < rows → 0 < W e.row → Costed g → Costed (more e g)
  more-costed e g l w c =
      record {
        used = λ j m. ⊎_elim (λ (q : j ≡ e.row). rw q l) (c.used j) (Memᴰ.cases_cons m);
        weighty = λ j m. ⊎_elim (λ (q : j ≡ e.row). rw q w) (c.weighty j) (Memᴰ.cases_cons m);
        least = λ j m. ⊎_elim (λ (q : j ≡ e.row). rw q (omega arith)) (λ k. omega (arith, c.least j k)) (Memᴰ.cases_cons m);
        attained =
            ⊎_elim
            (λ (s : W e.row < g.cost). (e.row, Memᴰ.head refl, omega arith))
            (λ (s : g.cost ≤ W e.row). let a = c.attained in (a.0, Memᴰ.tail a.1, omega (arith, a.2)))
            (lt-or-le (W e.row) g.cost);
      }

  gathered-costed : {q r : Part} {es : List Forced} → Leads lits rows p W q es r → (g : Group) → Costed g
      → Costed (gathered lits W p es g)
  unfolding gathered
  gathered-costed here g c = c
  gathered-costed (on {e = e} {es = es} f l) g c =
      let rest = gathered-costed l g c in
      joined_by Costed e (gathered lits W p es g) (λ t. rest) (more-costed e _ f.used f.weighty rest)

  -- ---- the rows of a group and a reading

  pub record Missed (x : ℕ) (js : List ℕ) : Type 0 where
    pub row : ℕ
    pub among : Memᴰ row js
    pub missed : holds (lits row) x ≡ false

  module _ (x : ℕ) (held : (i : ℕ) → i < rows → Held (lits i)) where
    -- where a reading agrees: on what the node has decided and on what is needed
    abbrev with : ℕ → ℕ
    with m = bit_or p.decided m

    -- a row whose variables left at the node are needed has no other variables than these and decided ones
    row_within : (l : Lits) (m : ℕ) → (v : ℕ) → has (variables_of l) v ≡ true → has (with (bit_or m (variables_of (remnant p l)))) v ≡ true
    row_within l m v t =
        simp has-or (go (has p.decided v) (has m v) (has (variables_of (remnant p l)) v) (simp has-or at (decided-or-left p l v t)))
      where
        go : (a b c : Bool) → (a || c) ≡ true → (a || (b || c)) ≡ true
        go true b c e = refl
        go false true c e = refl
        go false false c e = e

    with-less : (m k : ℕ) → (v : ℕ) → has (with m) v ≡ true → has (with (bit_or m k)) v ≡ true
    with-less m k v t = simp has-or (go (has p.decided v) (has m v) (has k v) (simp has-or at t))
      where
        go : (a b c : Bool) → (a || b) ≡ true → (a || (b || c)) ≡ true
        go true b c e = refl
        go false true c e = refl
        go false false c e = absurd (clash e refl)

    module _ (q : Part) (e : Forced) (nested : Nested q) (grown : Grows p q) (f : Forces lits rows p W q e) where
      abbrev row : Lits
      row = lits e.row

      -- an entry that is not needed
      passed-agrees : (m : ℕ) → bit_and e.variable m ≡ 0 → Agrees q (with m) x → Agrees (behind lits rows p W q e) (with m) x
      passed-agrees m z a =
          made-agrees q row (with m) x nested a (λ v t u.
          let outside : has m v ≡ false = apart e.variable m z v (ap (λ (k : ℕ). has k v) f.mask ∙ u) in
          ⊎_elim
          (λ d. absurd (clash (grown.decided v d) (left-undecided q row v u)))
          (λ d. absurd (clash d outside))
          (or_cases (has p.decided v) (has m v) (sym (has-or p.decided m v) ∙ t)))

      -- an entry that is needed, and whose row the reading satisfies
      held-agrees : (m : ℕ) → holds row x ≡ true → Agrees q (with (bit_or m (variables_of (remnant p row)))) x
          → Agrees (behind lits rows p W q e) (with m) x
      held-agrees m h a =
          let all : ℕ = with (bit_or m (variables_of (remnant p row))) in
          let left : holds (remnant q row) x ≡ true =
          sym (holds-agreed q row x nested (agrees-less q all (variables_of row) x (row_within row m) a)
          ∙ ap (λ (t : Bool). t || holds (remnant q row) x) f.unsatisfied)
          ∙ h in
          made-agrees q row (with m) x nested (agrees-less q all (with m) x (with-less m (variables_of (remnant p row))) a)
          (λ v t u. one-made (remnant q row) x (remnant-held q row (held e.row f.used)) f.one left v u)

    -- all along the trail: a row of the group is missed, or the reading agrees with q where the group started
    along : {q r : Part} {es : List Forced} → Leads lits rows p W q es r → (g : Group) → Nested q → Grows p q
        → Agrees q (with (gathered lits W p es g).needed) x
        → Missed x (gathered lits W p es g).rows ⊎ Agrees r (with g.needed) x
    unfolding gathered
    along here g n b = λ a. inr a
    along (on {q = q} {r = r} {e = e} {es = es} f l) g n b =
        let rest : Group = gathered lits W p es g in
        let further = along l g (made-nested q (lits e.row) n) (grows-on p q (behind lits rows p W q e) b (made-grows q (lits e.row))) in
        joined_by (λ k. Agrees q (with k.needed) x → Missed x k.rows ⊎ Agrees r (with g.needed) x) e rest
        (λ z a. further (passed-agrees q e n b f rest.needed z a))
        (λ a.
        ⊎_elim
        (λ h.
        ⊎_elim
        (λ (m : Missed x rest.rows). inl (record { row = m.row; among = Memᴰ.tail m.among; missed = m.missed }))
        (λ s. inr s)
        (further (held-agrees q e n b f rest.needed h a)))
        (λ h. inl (record { row = e.row; among = Memᴰ.head refl; missed = h }))
        (cases (holds (lits e.row) x)))

    -- what the group starts with stays in it
    stays : (es : List Forced) (g : Group) (j : ℕ) → Memᴰ j g.rows → Memᴰ j (gathered lits W p es g).rows
    unfolding gathered
    stays [] g j m = m
    stays (e ∷ es) g j m =
        let rest = stays es g j m in
        joined_by (λ k. Memᴰ j k.rows) e (gathered lits W p es g) (λ z. rest) (Memᴰ.tail rest)

    conflict-missed : (r : Part) (c : ℕ) → Nested r → Clashes lits rows p W r c
        → Agrees r (with (variables_of (remnant p (lits c)))) x → holds (lits c) x ≡ false
    conflict-missed r c nested k a =
        holds-agreed r (lits c) x nested
        (agrees-less r (with (variables_of (remnant p (lits c)))) (variables_of (lits c)) x (decided-or-left p (lits c)) a)
        ∙ rw (k.unsatisfied, holds-empty (remnant r (lits c)) x k.nothing)

    -- A reading that extends the node's misses a row of the group.
    pub group-missed : (h : Hunt) → Nested p → Extends p x → Hunting lits rows p W h → h.found ≡ true
        → Missed x (group_of lits W p h).rows
    unfolding group_of
    group-missed h nested extends hunting found =
        let c : ℕ = h.conflict in
        let g : Group = conflict_group lits W p c in
        ⊎_elim
        (λ m. m)
        (λ a.
        record {
          row = c;
          among = stays h.trail g c (Memᴰ.head refl);
          missed = conflict-missed h.q c (leads-nested lits rows p W hunting.leads nested) (hunting.clashes found) a;
        })
        (along hunting.leads g nested (grows_same p) (extends-agrees p _ x extends))

  -- A group's rows are in use and have working weights, and the smallest of these is what it costs.
  pub group-costed : (h : Hunt) → Hunting lits rows p W h → h.found ≡ true → Costed (group_of lits W p h)
  unfolding group_of
  group-costed h hunting found =
      let c : ℕ = h.conflict in
      let k = hunting.clashes found in
      gathered-costed hunting.leads (conflict_group lits W p c)
      (record {
        used = λ j m. rw (Memᴰ.eq_of_singleton m) k.used;
        weighty = λ j m. rw (Memᴰ.eq_of_singleton m) k.weighty;
        least = λ j m. rw (Memᴰ.eq_of_singleton m) (le_refl (W c));
        attained = (c, Memᴰ.head refl, refl);
      })
