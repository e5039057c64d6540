-- Document 02, C-14: the bound by groups. What is lost is counted as before; foreseen is what groups cost: rows that cannot all hold below the
-- node, found by unit propagation, oldest unit first. What a group costs is taken from each of its rows, so that no weight is counted twice.
use Rattle.std.specs.Prelude.{ℕ, zero, suc, ◌+◌, ◌-◌, min, List, [], ◌∷◌, ◌++◌, Bool, true, false, cond, not, ◌&&◌, get_or, eqb, ltb}
use Rattle.std.specs.Int.Bits.{bit_and, bit_or}
use Rattle.masks.specs.Masks.{none, without}
use Rattle.literals.specs.declared.Lits.{Lits}
use Rattle.literals.specs.Lits.{variables_of, is_empty, is_one}
use Rattle.rules.specs.declared.Part.{Part}
use Rattle.rules.specs.declared.Losses.{Losses}
use Rattle.rules.specs.Desk.{variables, in_use, conceded, row_on, satisfied, remnant}
use Rattle.rules.specs.Bound.{weight_where, lost_beyond, lost}

-- the working weight of each row
abbrev pub Weights : Type 0
Weights = ℕ → ℕ

-- "of pairs (variable, row)": the variable's mask, and the row that is "its reason"
pub record Forced : Type 0 where
  pub variable : ℕ
  pub row : ℕ

-- "A hunt keeps a partial reading q, at first the node's, and a trail, at first empty", oldest first; and the conflict once it is found.
pub record Hunt : Type 0 where
  pub q : Part
  pub trail : List Forced
  pub found : Bool
  pub conflict : ℕ

abbrev pub hunt_from : Part → Hunt
hunt_from p = record { q = p; trail = []; found = false; conflict = 0 }

-- "If its remnant under q is empty, the row is the conflict and the hunt ends there."
unfoldable pub conflict_at : ℕ → Hunt → Hunt
conflict_at i h = record { q = h.q; trail = h.trail; found = true; conflict = i }

unfoldable pub made_true : Lits → Part → Part
made_true l q = record { decided = bit_or q.decided (variables_of l); truths = bit_or q.truths l.positive }

-- "If its remnant under q is one literal, that literal is made true in q at once, and its variable joins the end of the trail with the row as
-- its reason."
unfoldable pub forced_at : ℕ → Lits → Hunt → Hunt
forced_at i l h =
    record {
      q = made_true l h.q;
      trail = h.trail ++ (record { variable = variables_of l; row = i } ∷ []);
      found = h.found;
      conflict = h.conflict;
    }

-- A group: the variables that are "needed"; what it costs, "the smallest working weight among its rows"; and the rows.
pub record Group : Type 0 where
  pub needed : ℕ
  pub cost : ℕ
  pub rows : List ℕ

-- "the rows that hold the negation of the entry's literal": those that its variable satisfies with the other value
unfoldable pub opposes : Part → ℕ → Lits → Bool
opposes q variable = satisfied (record { decided = variable; truths = without variable q.truths })

-- Rows by their literals and their working weights; there are so many rows, and p is the node's partial reading.
module _ (lits : ℕ → Lits) (W : Weights) where
  -- A scan with a test "looks at a row whose working weight is above 0, which passes the test and is unsatisfied under q", until there is a conflict.
  unfoldable pub looked : (Lits → Bool) → ℕ → Hunt → Hunt
  looked test i h =
      let l = remnant h.q (lits i) in
      let unit = cond (is_one l) (forced_at i l h) h in
      let seen = cond (is_empty l) (conflict_at i h) unit in
      cond (not h.found && (ltb 0 (W i) && (test (lits i) && not (satisfied h.q (lits i))))) seen h

  -- It "goes over the rows in use by rising number": the first k of them.
  unfoldable pub scanned : (Lits → Bool) → ℕ → Hunt → Hunt
  scanned test zero h = h
  scanned test (suc k) h = looked test k (scanned test k h)

  -- the scan of the trail's entry k; behind the trail's end there is no variable, and no row passes
  unfoldable pub entry_scanned : ℕ → ℕ → Hunt → Hunt
  entry_scanned rows k h = scanned (opposes h.q (get_or h.trail k (record { variable = 0; row = 0 })).variable) rows h

  -- "First scan: the rows whose remnant at the node is one literal. Then the trail's entries from the oldest on": the first k of them.
  unfoldable pub drained : ℕ → Part → ℕ → Hunt
  drained rows p zero = scanned (λ l. is_one (remnant p l)) rows (hunt_from p)
  drained rows p (suc k) = entry_scanned rows k (drained rows p k)

  -- a trail has at most as many entries as there are variables
  unfoldable pub hunted : ℕ → ℕ → Part → Hunt
  hunted rows names p = drained rows p names

  -- "An entry whose variable is needed joins the group with its row, and the variables of that row's remnant at the node are needed too."
  unfoldable pub joined : Part → Forced → Group → Group
  joined p e g =
      let with : Group =
      record {
        needed = bit_or g.needed (variables_of (remnant p (lits e.row)));
        cost = min (W e.row) g.cost;
        rows = e.row ∷ g.rows;
      } in
      cond (none (bit_and e.variable g.needed)) g with

  -- "Then the trail from the newest entry to the oldest"
  unfoldable pub gathered : Part → List Forced → Group → Group
  gathered p [] g = g
  gathered p (e ∷ es) g = joined p e (gathered p es g)

  -- "The group of a conflict: the conflict row; the variables of its remnant at the node are needed." Then the trail.
  abbrev pub conflict_group : Part → ℕ → Group
  conflict_group p i = record { needed = variables_of (remnant p (lits i)); cost = W i; rows = i ∷ [] }

  unfoldable pub group_of : Part → Hunt → Group
  group_of p h = gathered p h.trail (conflict_group p h.conflict)

-- "The cost is taken from the working weight of each of its rows (nothing is taken below 0)"
unfoldable pub less_at : ℕ → ℕ → Weights → Weights
less_at row cost W i = cond (eqb i row) (W i - cost) (W i)

unfoldable pub taken : ℕ → List ℕ → Weights → Weights
taken cost [] W = W
taken cost (r ∷ rs) W = less_at r cost (taken cost rs W)

-- after some hunts: the working weights that are left, and the sum of the costs
pub record Tally : Type 0 where
  pub weights : Weights
  pub costs : ℕ

module _ (lits : ℕ → Lits) (rows names : ℕ) (p : Part) where
  -- "The cost is added to foreseen. Then the next hunt starts from the node's partial reading again." One that finds nothing changes nothing, and
  -- so does each that follows: "The first hunt that finds nothing ends the bound."
  unfoldable pub tallied : Tally → Tally
  tallied t =
      let h = hunted lits t.weights rows names p in
      let g = group_of lits t.weights p h in
      let more : Tally = record { weights = taken g.cost g.rows t.weights; costs = t.costs + g.cost } in
      cond h.found more t

  unfoldable pub hunts : Weights → ℕ → Tally
  hunts W zero = record { weights = W; costs = 0 }
  hunts W (suc k) = tallied (hunts W k)

-- "the row's weight where it is unsatisfied under the node's partial reading and its remnant there is not empty, else 0"
unfoldable pub working_weight : List ℕ → Part → Weights
working_weight d p i = weight_where (λ l. not (is_empty l)) p (row_on d i)

-- the first k hunts on a desk
unfoldable pub hunts_on : List ℕ → Part → ℕ → Tally
hunts_on d p k = hunts (λ i. (row_on d i).lits) (in_use d) (variables d) p (working_weight d p) k

-- There are "at most as many hunts that find a group as there are rows in use: that many are allowed".
unfoldable pub groups_cost : List ℕ → Part → ℕ
groups_cost d p = (hunts_on d p (in_use d)).costs

unfoldable pub groups_bound : List ℕ → Part → ℕ
groups_bound d p = lost d p + groups_cost d p

-- "Conceded and lost are those of C-12; foreseen is the sum of the costs."
unfoldable pub losses_by_groups : List ℕ → Part → Losses
losses_by_groups d p = record { conceded = conceded d; lost = lost_beyond d p; foreseen = groups_cost d p }
