-- The bound by groups reads a desk's head and its rows in use: of desks alike in these it is the same. All that a hunt does is done with rows
-- below their number, so literals and working weights that agree there give the same groups.
use Prim.Native.Nat.{ℕ, zero, suc, ◌+◌, ◌-◌, ◌≤◌, ◌<◌}
use mathlib.Core.Path.{◌≡◌, refl, sym, ap, ap₂, ◌∙◌}
use mathlib.Core.List.{List, [], ◌∷◌}
use mathlib.Core.Bool.{Bool, true, cond, not}
use native.Mathlib.Nat.{le_refl, le_of_lt}
use native.Mathlib.Omega.{arith}
use lib.Dec.{eqb}
use Rattle.masks.proofs.Choice.{clash}
use Rattle.literals.specs.declared.Lits.{Lits}
use Rattle.literals.specs.Lits.{is_empty, is_one}
use Rattle.rules.specs.declared.Part.{Part}
use Rattle.rules.specs.declared.Row.{Row}
use Rattle.rules.specs.Desk.{variables, in_use, conceded, row_on, decisions, remnant}
use Rattle.rules.specs.Bound.{weight_where}
use Rattle.rules.specs.Groups.{Weights, Forced, Hunt, hunt_from, Group, Tally, looked, scanned, opposes, entry_scanned, drained, hunted, joined}
use Rattle.rules.specs.Groups.{gathered, conflict_group, group_of}
use Rattle.rules.specs.Groups.{less_at, taken, tallied, hunts, working_weight, hunts_on, groups_cost, groups_bound, losses_by_groups}
use Rattle.desk_laws.proofs.Alike.{Alike, decisions-alike}
use Rattle.walk_laws.proofs.Alike.{beyond-alike, lost-alike}
use Rattle.group_laws.proofs.Hunting.{Leads, here, on}
use Rattle.group_laws.proofs.Costs.{group_at, after, tallied-by, hunted-hunting}

-- the working weights of the rows below a number agree
abbrev pub Agree : ℕ → Weights → Weights → Type 0
Agree rows W U = (i : ℕ) → i < rows → W i ≡ U i

pub taken-same : (cost : ℕ) (rs : List ℕ) (W U : Weights) (i : ℕ) → W i ≡ U i → taken cost rs W i ≡ taken cost rs U i
unfolding taken less_at
taken-same cost [] W U i e = e
taken-same cost (r ∷ rs) W U i e = ap (λ (w : ℕ). cond (eqb i r) (w - cost) w) (taken-same cost rs W U i e)

module _ (lits lats : ℕ → Lits) (rows names : ℕ) (p : Part) (same : (i : ℕ) → i < rows → lits i ≡ lats i) where
  module _ (W U : Weights) (agree : Agree rows W U) where
    pub looked-same : (test : Lits → Bool) (i : ℕ) (h : Hunt) → i < rows → looked lits W test i h ≡ looked lats U test i h
    unfolding looked
    looked-same test i h l = rw (same i l, agree i l)

    pub scanned-same : (test : Lits → Bool) (k : ℕ) (h : Hunt) → k ≤ rows → scanned lits W test k h ≡ scanned lats U test k h
    unfolding scanned
    scanned-same test zero h l = refl
    scanned-same test (suc k) h l = ap (looked lits W test k) (scanned-same test k h (le_of_lt l)) ∙ looked-same test k _ l

    pub drained-same : (k : ℕ) → drained lits W rows p k ≡ drained lats U rows p k
    unfolding drained entry_scanned opposes
    drained-same zero = scanned-same (λ l. is_one (remnant p l)) rows (hunt_from p) (le_refl rows)
    drained-same (suc k) =
        ap (entry_scanned lits W rows k) (drained-same k) ∙ scanned-same _ rows (drained lats U rows p k) (le_refl rows)

    pub hunted-same : hunted lits W rows names p ≡ hunted lats U rows names p
    unfolding hunted
    hunted-same = drained-same names

    joined_same : (e : Forced) (g : Group) → e.row < rows → joined lits W p e g ≡ joined lats U p e g
    unfolding joined
    joined_same e g l = rw (same e.row l, agree e.row l)

    pub gathered-same : {q r : Part} {es : List Forced} → Leads lits rows p W q es r → (g : Group)
        → gathered lits W p es g ≡ gathered lats U p es g
    unfolding gathered
    gathered-same here g = refl
    gathered-same (on {e = e} {es = es} f l) g =
        ap (joined lits W p e) (gathered-same l g) ∙ joined_same e (gathered lats U p es g) f.used

    pub group-same : (hunted lits W rows names p).found ≡ true
        → group_of lits W p (hunted lits W rows names p) ≡ group_of lats U p (hunted lats U rows names p)
    unfolding group_of
    group-same f =
        let h = hunted lits W rows names p in
        let s = hunted-hunting lits rows names p W in
        let c = (s.clashes f).used in
        gathered-same s.leads (conflict_group lits W p h.conflict)
        ∙ rw (same h.conflict c, agree h.conflict c)
        (ap (λ (k : Hunt). group_of lats U p k) hunted-same)

  -- ---- hunts one after another

  pub record Same (t s : Tally) : Type 0 where
    pub weights : Agree rows t.weights s.weights
    pub costs : t.costs ≡ s.costs

  after_same : (t s : Tally) → Same t s → (hunted lits t.weights rows names p).found ≡ true → Same (after lits rows names p t) (after lats rows names p s)
  after_same t s e f =
      let g : group_at lits rows names p t ≡ group_at lats rows names p s = group-same t.weights s.weights e.weights f in
      record {
        weights = λ i l.
            taken-same (group_at lits rows names p t).cost (group_at lits rows names p t).rows t.weights s.weights i (e.weights i l)
            ∙ ap (λ (k : Group). taken k.cost k.rows s.weights i) g;
        costs = ap₂ (λ (x y : ℕ). x + y) e.costs (ap (λ (k : Group). k.cost) g);
      }

  pub tallied-same : (t s : Tally) → Same t s → Same (tallied lits rows names p t) (tallied lats rows names p s)
  tallied-same t s e =
      let h : (hunted lits t.weights rows names p).found ≡ (hunted lats s.weights rows names p).found =
      ap (λ (k : Hunt). k.found) (hunted-same t.weights s.weights e.weights) in
      tallied-by lits rows names p (λ a. Same a (tallied lats rows names p s)) t
      (λ f. tallied-by lats rows names p (Same t) s (λ o. e) (λ o. absurd (clash o (sym h ∙ f))))
      (λ f. tallied-by lats rows names p (Same (after lits rows names p t)) s (λ o. absurd (clash (sym h ∙ f) o)) (λ o. after_same t s e f))

  hunts-same : (W U : Weights) → Agree rows W U → (k : ℕ) → Same (hunts lits rows names p W k) (hunts lats rows names p U k)
  unfolding hunts
  hunts-same W U agree zero = record { weights = agree; costs = refl }
  hunts-same W U agree (suc k) = tallied-same (hunts lits rows names p W k) (hunts lats rows names p U k) (hunts-same W U agree k)

  pub costs-same : (W U : Weights) → Agree rows W U → (k : ℕ) → (hunts lits rows names p W k).costs ≡ (hunts lats rows names p U k).costs
  costs-same W U agree k = (hunts-same W U agree k).costs

-- ---- desks

module _ {d e : List ℕ} (alike : Alike d e) where
  pub costs-alike : (p : Part) (k : ℕ) → (hunts_on e p k).costs ≡ (hunts_on d p k).costs
  unfolding hunts_on working_weight
  costs-alike p k =
      let lits : List ℕ → ℕ → Lits = λ w i. (row_on w i).lits in
      let works : List ℕ → Weights = λ w i. weight_where (λ l. not (is_empty l)) p (row_on w i) in
      ap₂ (λ (n m : ℕ). (hunts (lits e) n m p (works e) k).costs) (alike.heads 1 (omega arith)) (alike.heads 0 (omega arith))
      ∙ costs-same (lits e) (lits d) (in_use d) (variables d) p (λ i l. ap (λ (r : Row). r.lits) (alike.rows i l)) (works e) (works d)
      (λ i l. ap (weight_where (λ l. not (is_empty l)) p) (alike.rows i l)) k

  pub groups-cost-alike : (p : Part) → groups_cost e p ≡ groups_cost d p
  unfolding groups_cost
  groups-cost-alike p = ap (λ (n : ℕ). (hunts_on e p n).costs) (alike.heads 1 (omega arith)) ∙ costs-alike p (in_use d)

  pub groups-alike : (p : Part) → groups_bound e p ≡ groups_bound d p
  unfolding groups_bound
  groups-alike p = ap₂ (λ (x y : ℕ). x + y) (lost-alike alike p) (groups-cost-alike p)

  pub groups-losses-alike : losses_by_groups e (decisions e) ≡ losses_by_groups d (decisions d)
  unfolding losses_by_groups
  groups-losses-alike =
      let p = decisions d in
      ap (losses_by_groups e) (decisions-alike alike)
      ∙ (λ t. record { conceded = alike.heads 4 (omega arith) t; lost = beyond-alike alike p t; foreseen = groups-cost-alike p t })
