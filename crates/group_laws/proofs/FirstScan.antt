-- The first scan, over the rows whose remnant at the node is one literal. Where it finds no conflict, q satisfies every such row that has a
-- working weight, so that no two of them clash. Where it finds one, the group is a pair: the conflict row, and the row of the only entry on
-- its variable, which holds the opposite literal. For no entry's variable is decided before it joins, and none of the pair needs another one.
use Prim.Native.Nat.{ℕ, zero, suc, ◌^◌, ◌≤◌, ◌<◌, min}
use mathlib.Core.Path.{◌≡◌, refl, sym, ap, ap₂, ◌∙◌, subst}
use mathlib.Core.List.Memᴰ
use mathlib.Core.List.{List, [], ◌∷◌, Memᴰ}
use mathlib.Core.Bool.{Bool, true, false, not, or-false}
use mathlib.Core.Logic.{◌⊎◌, inl, inr, ⊎_elim}
use native.Mathlib.Nat.{le_refl, le_of_lt}
use native.Mathlib.Omega.{arith}
use lib.Bits.{bit_and, bit_or, or_self, and_self}
use lib.Pow.{pow_pos}
use Rattle.masks.specs.Masks.{has}
use Rattle.masks.proofs.Choice.{cases, clash, not_so, so, eq-or-ne}
use Rattle.masks.proofs.Sums.{upwards}
use Rattle.masks.proofs.Bits.{has-pow-other}
use Rattle.masks.proofs.Sets.{pow_apart}
use Rattle.literals.specs.declared.Lits.{Lits}
use Rattle.literals.specs.Lits.{variables_of, is_empty, is_one}
use Rattle.literals.proofs.TwoMasks.{Held}
use Rattle.rules.specs.declared.Part.{Part}
use Rattle.rules.specs.Desk.{satisfied, remnant}
use Rattle.rules.specs.Groups.{Weights, Forced, Hunt, hunt_from, Group, conflict_at, forced_at, made_true, looked, scanned, drained, joined, gathered}
use Rattle.rules.specs.Groups.{conflict_group, group_of}
use Rattle.walk_laws.proofs.Agreeing.{Nested}
use Rattle.walk_laws.proofs.Remnants.{unit, unit-some}
use Rattle.group_laws.proofs.Parts.{Grows, grows_same, grows-on, left-undecided, remnant-held, Unit, unit-of, variables-unit, made-decided}
use Rattle.group_laws.proofs.Parts.{made-nested, made-grows}
use Rattle.group_laws.proofs.Hunting.{looked-by, scanned-by, Forces, behind, Leads, here, on, leads-grows, leads-nested, Hunting}
use Rattle.group_laws.proofs.Hunting.{scanned-hunting}
use Rattle.group_laws.proofs.Gathering.{more, joined-out, joined_in}
use Rattle.group_laws.proofs.Units.{satisfied-grown, satisfied-still, remnant-grown, unit-value, unit-satisfied, unit-gone, unit_left}
use Rattle.group_laws.proofs.Units.{unit-one, unit-has, made-value, made-there, made-satisfies}

-- the test of the first scan
abbrev pub one_left : Part → Lits → Bool
one_left p l = is_one (remnant p l)

module _ (lits : ℕ → Lits) (rows : ℕ) (p : Part) (W : Weights) (nested : Nested p) (held : (i : ℕ) → i < rows → Held (lits i))
    (works : (i : ℕ) → i < rows → 0 < W i → satisfied p (lits i) ≡ false) where
  -- ---- a row of one literal under a partial reading that has grown

  pub unit_row : (i : ℕ) → i < rows → one_left p (lits i) ≡ true → Unit (remnant p (lits i))
  unit_row i l one = unit-of (remnant p (lits i)) (remnant-held p (lits i) (held i l)) one

  module _ (q : Part) (grown : Grows p q) (i : ℕ) (used : i < rows) (weighty : 0 < W i) (u : Unit (remnant p (lits i))) where
    unit-row-satisfied : satisfied q (lits i) ≡ satisfied q (unit u.variable u.value)
    unit-row-satisfied = satisfied-grown p q nested grown (lits i) ∙ rw (works i used weighty) (ap (satisfied q) u.only)

    unit-row-left : remnant q (lits i) ≡ remnant q (unit u.variable u.value)
    unit-row-left = sym (remnant-grown p q nested grown (lits i)) ∙ ap (remnant q) u.only

    -- nothing of it is left, or it is
    unit-row-ways : (is_empty (remnant q (lits i)) ≡ false) → (is_one (remnant q (lits i)) ≡ false) → ⊥
    unit-row-ways e o =
        ⊎_elim
        (λ d. clash (ap is_empty unit-row-left ∙ unit-gone q u.variable u.below u.value d) e)
        (λ d. clash (ap is_one (unit-row-left ∙ unit_left q u.variable u.below u.value d) ∙ unit-one u.variable u.value u.below) o)
        (cases (has q.decided u.variable))

  -- ---- no conflict: every row of one literal is satisfied

  abbrev start : ℕ → Hunt
  start k = scanned lits W (one_left p) k (hunt_from p)

  start-hunting : (k : ℕ) → k ≤ rows → Hunting lits rows p W (start k)
  start-hunting k l = scanned-hunting lits rows p W (one_left p) k l

  abbrev Covers : ℕ → Hunt → Type 0
  Covers k h = h.found ≡ false → (i : ℕ) → i < k → 0 < W i → one_left p (lits i) ≡ true → satisfied h.q (lits i) ≡ true

  looked-covers : (k : ℕ) (h : Hunt) → k < rows → Hunting lits rows p W h → Covers k h → Covers (suc k) (looked lits W (one_left p) k h)
  unfolding conflict_at forced_at
  looked-covers k h l s c =
      let grown = leads-grows lits rows p W s.leads in
      let fine = leads-nested lits rows p W s.leads nested in
      looked-by lits rows p W (Covers (suc k)) (one_left p) k h
      (λ idle f.
      upwards {P = λ i. 0 < W i → one_left p (lits i) ≡ true → satisfied h.q (lits i) ≡ true} (c f) (λ w o.
      ⊎_elim
      (λ t. t)
      (λ t.
      let ways = idle (record { running = f; weighty = w; passes = o; unsatisfied = t }) in
      absurd (unit-row-ways h.q grown k l w (unit_row k l o) ways.0 ways.1))
      (cases (satisfied h.q (lits k)))))
      (λ seen e f. absurd (clash refl f))
      (λ seen o f.
      let q = made_true (remnant h.q (lits k)) h.q in
      upwards {P = λ i. 0 < W i → one_left p (lits i) ≡ true → satisfied q (lits i) ≡ true}
      (λ i m w t. satisfied-still h.q q fine (made-grows h.q (lits k)) (lits i) (c f i m w t))
      (λ w t. made-satisfies h.q (lits k) fine (unit-of (remnant h.q (lits k)) (remnant-held h.q (lits k) (held k l)) o)))

  start-covers : (k : ℕ) → k ≤ rows → Covers k (start k)
  unfolding scanned
  start-covers zero l = λ f i m. absurd (omega arith)
  start-covers (suc k) l = looked-covers k (start k) l (start-hunting k (le_of_lt l)) (start-covers k (le_of_lt l))

  -- two rows of opposite literals are not both satisfied
  pub none-clash : (drained lits W rows p 0).found ≡ false → (v i j : ℕ) → v < 64 → i < rows → j < rows → 0 < W i → 0 < W j
      → remnant p (lits i) ≡ unit v true → remnant p (lits j) ≡ unit v false → ⊥
  unfolding drained
  none-clash f v i j below li lj wi wj a b =
      let q = (start rows).q in
      let grown = leads-grows lits rows p W (start-hunting rows (le_refl rows)).leads in
      let value : (k : ℕ) (t : Bool) → k < rows → 0 < W k → remnant p (lits k) ≡ unit v t → has q.truths v ≡ t =
      λ k t l w e.
      let u : Unit (remnant p (lits k)) = record { variable = v; value = t; below = below; only = e } in
      unit-value q v below t
      (sym (unit-row-satisfied q grown k l w u) ∙ start-covers rows (le_refl rows) f k l w (ap is_one e ∙ unit-one v t below)) in
      clash (value i true li wi a) (value j false lj wj b)

  -- ---- a conflict: the group is a pair

  -- all that a hunt names are rows of one literal
  record Ones (h : Hunt) : Type 0 where
    entries : (e : Forced) → Memᴰ e h.trail → one_left p (lits e.row) ≡ true
    conflicts : h.found ≡ true → one_left p (lits h.conflict) ≡ true

  looked-ones : (i : ℕ) (h : Hunt) → i < rows → Ones h → Ones (looked lits W (one_left p) i h)
  unfolding conflict_at forced_at
  looked-ones i h l s =
      looked-by lits rows p W Ones (one_left p) i h (λ idle. s)
      (λ seen e. record { entries = s.entries; conflicts = λ f. seen.passes })
      (λ seen o.
      record {
        entries = λ e m.
            ⊎_elim (s.entries e)
            (λ k. ap (λ (x : Forced). one_left p (lits x.row)) (Memᴰ.eq_of_singleton k) ∙ seen.passes)
            (Memᴰ.append_cases h.trail m);
        conflicts = s.conflicts;
      })

  start-ones : Ones (start rows)
  start-ones =
      scanned-by lits rows p W Ones (one_left p) looked-ones rows (hunt_from p) (le_refl rows)
      (record { entries = λ e m. absurd (Memᴰ.not-nil m); conflicts = λ f. absurd (clash f refl) })

  -- an entry that is a row of one literal, where it joins
  record Single (q : Part) (e : Forced) : Type 0 where
    unit-at-node : Unit (remnant p (lits e.row))
    fresh : has q.decided unit-at-node.variable ≡ false
    left : remnant q (lits e.row) ≡ unit unit-at-node.variable unit-at-node.value
    mask : e.variable ≡ 2 ^ unit-at-node.variable

  single : (q : Part) (e : Forced) → Grows p q → Forces lits rows p W q e → one_left p (lits e.row) ≡ true → Single q e
  single q e grown f one =
      let u = unit_row e.row f.used one in
      let l = lits e.row in
      let rest = unit-row-left q grown e.row f.used f.weighty u in
      let u' = unit-of (remnant q l) (remnant-held q l (held e.row f.used)) f.one in
      let fresh : has q.decided u.variable ≡ false =
      not_so (λ d.
      unit-some u'.variable u'.value u'.below
      (ap is_empty (sym u'.only ∙ rest) ∙ unit-gone q u.variable u.below u.value d)) in
      let left = rest ∙ unit_left q u.variable u.below u.value fresh in
      record {
        unit-at-node = u;
        fresh = fresh;
        left = left;
        mask = f.mask ∙ ap variables_of left ∙ variables-unit u.variable u.value u.below;
      }

  -- of the entries between two partial readings none is on the variable, or one is: its row joins, and needs no other variable
  record Paired (q r : Part) (v : ℕ) (g k : Group) : Type 0 where
    fresh : has q.decided v ≡ false
    row : ℕ
    used : row < rows
    literal : remnant p (lits row) ≡ unit v (has r.truths v)
    needed : k.needed ≡ 2 ^ v
    cost : k.cost ≡ min (W row) g.cost
    both : k.rows ≡ row ∷ g.rows

  abbrev Gathers : Part → Part → ℕ → Group → Group → Type 0
  Gathers q r v g k = ((has q.decided v ≡ has r.decided v) × (k ≡ g)) ⊎ Paired q r v g k

  module _ (q r : Part) (e : Forced) (fine : Nested q) (f : Forces lits rows p W q e) (s : Single q e) (rest g : Group)
      (grown : Grows (behind lits rows p W q e) r) where
    abbrev next : Part
    next = behind lits rows p W q e

    abbrev v : ℕ
    v = s.unit-at-node.variable

    abbrev unit-left-here : Unit (remnant q (lits e.row))
    unit-left-here = record { variable = v; value = s.unit-at-node.value; below = s.unit-at-node.below; only = s.left }

    decided-here : has next.decided v ≡ true
    decided-here = made-there q (lits e.row) fine unit-left-here

    -- on the entry's own variable: no later entry is on it
    gathers-here : g.needed ≡ 2 ^ v → Gathers next r v g rest → Gathers q r v g (joined lits W p e rest)
    gathers-here n =
        ⊎_elim
        (λ (o : (has next.decided v ≡ has r.decided v) × (rest ≡ g)).
        let meets : bit_and e.variable g.needed ≡ 0 → ⊥ = λ z. omega (arith, sym (and_self (2 ^ v)) ∙ ap₂ bit_and (sym s.mask) (sym n) ∙ z, pow_pos v) in
        let joins : joined lits W p e rest ≡ more lits rows p W e g =
        ap (joined lits W p e) o.1 ∙ joined_in lits rows p W e g meets in
        let value : has r.truths v ≡ s.unit-at-node.value = grown.truths v decided-here ∙ made-value q (lits e.row) fine unit-left-here in
        inr (record {
          fresh = s.fresh;
          row = e.row;
          used = f.used;
          literal = s.unit-at-node.only ∙ ap (unit v) (sym value);
          needed = ap (λ (k : Group). k.needed) joins
              ∙ ap₂ bit_or n (ap variables_of s.unit-at-node.only ∙ variables-unit v s.unit-at-node.value s.unit-at-node.below)
              ∙ or_self (2 ^ v);
          cost = ap (λ (k : Group). k.cost) joins;
          both = ap (λ (k : Group). k.rows) joins;
        }))
        (λ (o : Paired next r v g rest). absurd (clash decided-here o.fresh))

    -- on another variable: the entry is not needed
    gathers-past : (w : ℕ) → (w ≡ v → ⊥) → g.needed ≡ 2 ^ w → Gathers next r w g rest → Gathers q r w g (joined lits W p e rest)
    gathers-past w ne n =
        let apart : has (variables_of (remnant q (lits e.row))) w ≡ false =
        ap (λ (m : ℕ). has m w) (sym f.mask ∙ s.mask) ∙ has-pow-other v w ne in
        let same : has next.decided w ≡ has q.decided w =
        made-decided q (lits e.row) w ∙ rw apart (or-false (has q.decided w)) in
        let out : rest.needed ≡ 2 ^ w → joined lits W p e rest ≡ rest =
        λ k. joined-out lits rows p W e rest (ap₂ bit_and s.mask k ∙ pow_apart v w ne) in
        ⊎_elim
        (λ (o : (has next.decided w ≡ has r.decided w) × (rest ≡ g)).
        inl (sym same ∙ o.0, out (ap (λ (k : Group). k.needed) o.1 ∙ n) ∙ o.1))
        (λ (o : Paired next r w g rest).
        let stays = out o.needed in
        inr (record {
          fresh = sym same ∙ o.fresh;
          row = o.row;
          used = o.used;
          literal = o.literal;
          needed = ap (λ (k : Group). k.needed) stays ∙ o.needed;
          cost = ap (λ (k : Group). k.cost) stays ∙ o.cost;
          both = ap (λ (k : Group). k.rows) stays ∙ o.both;
        }))

  gathers : {q r : Part} {es : List Forced} → Leads lits rows p W q es r → Nested q → Grows p q
      → ((e : Forced) → Memᴰ e es → one_left p (lits e.row) ≡ true) → (w : ℕ) (g : Group) → g.needed ≡ 2 ^ w
      → Gathers q r w g (gathered lits W p es g)
  unfolding gathered
  gathers here fine grown ones w g n = inl (refl, refl)
  gathers (on {q = q} {r = r} {e = e} {es = es} f l) fine grown ones w g n =
      let s = single q e grown f (ones e (Memᴰ.head refl)) in
      let next = behind lits rows p W q e in
      let rest = gathered lits W p es g in
      let later : (x : ℕ) → g.needed ≡ 2 ^ x → Gathers next r x g rest =
      λ x. gathers l (made-nested q (lits e.row) fine) (grows-on p q next grown (made-grows q (lits e.row))) (λ x m. ones x (Memᴰ.tail m)) x g in
      ⊎_elim
      (λ (t : w ≡ s.unit-at-node.variable).
      let n' : g.needed ≡ 2 ^ s.unit-at-node.variable = n ∙ ap (λ (x : ℕ). 2 ^ x) t in
      subst (λ (x : ℕ). Gathers q r x g (joined lits W p e rest)) (sym t)
      (gathers-here q r e fine f s rest g (leads-grows lits rows p W l) n' (later s.unit-at-node.variable n')))
      (λ t. gathers-past q r e fine f s rest g (leads-grows lits rows p W l) w t n (later w n))
      (eq-or-ne w s.unit-at-node.variable)

  -- two rows of opposite literals, and what the pair costs
  pub record Pair (g : Group) : Type 0 where
    pub variable : ℕ
    pub value : Bool
    pub below : variable < 64
    pub one : ℕ
    pub other : ℕ
    pub literal : remnant p (lits one) ≡ unit variable (not value)
    pub opposite : remnant p (lits other) ≡ unit variable value
    pub both : g.rows ≡ one ∷ other ∷ []
    pub cost : g.cost ≡ min (W one) (W other)

  pub first-pair : (drained lits W rows p 0).found ≡ true → Pair (group_of lits W p (drained lits W rows p 0))
  unfolding drained group_of
  first-pair f =
      let h = start rows in
      let s = start-hunting rows (le_refl rows) in
      let grown = leads-grows lits rows p W s.leads in
      let c = h.conflict in
      let k = s.clashes f in
      let u = unit_row c k.used (start-ones.conflicts f) in
      let v = u.variable in
      let there : has h.q.decided v ≡ true =
      so (λ d.
      unit-some v u.value u.below
      (ap is_empty (sym (unit-row-left h.q grown c k.used k.weighty u ∙ unit_left h.q v u.below u.value d)) ∙ k.nothing)) in
      let value : has h.q.truths v ≡ not u.value =
      other-value (has h.q.truths v) u.value (λ t.
      clash (unit-row-satisfied h.q grown c k.used k.weighty u ∙ unit-satisfied h.q v u.below u.value there t) k.unsatisfied) in
      let absent : has p.decided v ≡ false =
      left-undecided p (lits c) v (ap (λ (l : Lits). has (variables_of l) v) u.only ∙ unit-has v u.value u.below) in
      let g : Group = conflict_group lits W p c in
      ⊎_elim
      (λ (o : (has p.decided v ≡ has h.q.decided v) × (gathered lits W p h.trail g ≡ g)). absurd (clash (o.0 ∙ there) absent))
      (λ (o : Paired p h.q v g (gathered lits W p h.trail g)).
      record {
        variable = v;
        value = u.value;
        below = u.below;
        one = o.row;
        other = c;
        literal = o.literal ∙ ap (unit v) value;
        opposite = u.only;
        both = o.both;
        cost = o.cost;
      })
      (gathers s.leads nested (grows_same p) start-ones.entries v g (ap variables_of u.only ∙ variables-unit v u.value u.below))
    where
      other-value : (a b : Bool) → (a ≡ b → ⊥) → a ≡ not b
      other-value true true h = absurd (h refl)
      other-value true false h = refl
      other-value false true h = refl
      other-value false false h = absurd (h refl)
