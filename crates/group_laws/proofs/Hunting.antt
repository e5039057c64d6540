-- What a hunt has come to. Its trail leads from the node's partial reading to q: each entry's row was unsatisfied where it joined, one literal
-- of it was left, and that literal was made true. The conflict is a row in use that is unsatisfied under q and of which nothing is left.
-- A row that is looked at changes a hunt in one of two ways (`looked-by`), so what both keep, every scan keeps, and every hunt.
use Prim.Native.Nat.{ℕ, zero, suc, ◌<◌, ◌≤◌}
use mathlib.Core.Path.{◌≡◌, refl}
use mathlib.Core.List.{List, [], ◌∷◌, ◌++◌}
use mathlib.Core.Bool.{Bool, true, false, cond, not, ◌&&◌}
use native.Mathlib.Nat.{le_refl, le_of_lt}
use borrow.Author.Tests.{ltb-true, lt-ltb, not-true}
use lib.Dec.{ltb}
use Rattle.masks.proofs.Choice.{and_left, and_right, clash, cond-elim}
use Rattle.literals.specs.declared.Lits.{Lits}
use Rattle.literals.specs.Lits.{variables_of, is_empty, is_one}
use Rattle.rules.specs.declared.Part.{Part}
use Rattle.rules.specs.Desk.{satisfied, remnant}
use Rattle.rules.specs.Groups.{Weights, Forced, Hunt, hunt_from, conflict_at, made_true, forced_at, looked, scanned, entry_scanned, drained}
use Rattle.walk_laws.proofs.Agreeing.{Nested}
use Rattle.group_laws.proofs.Parts.{Grows, grows_same, grows-on, made-nested, made-grows}

-- a row that a scan looks at
pub record Seen (lits : ℕ → Lits) (W : Weights) (test : Lits → Bool) (i : ℕ) (h : Hunt) : Type 0 where
  pub running : h.found ≡ false
  pub weighty : 0 < W i
  pub passes : test (lits i) ≡ true
  pub unsatisfied : satisfied h.q (lits i) ≡ false

module _ (lits : ℕ → Lits) (rows : ℕ) (p : Part) (W : Weights) where
  -- ---- one row: not looked at or of no use, the conflict, or a unit

  seen_of : (test : Lits → Bool) (i : ℕ) (h : Hunt)
      → (not h.found && (ltb 0 (W i) && (test (lits i) && not (satisfied h.q (lits i))))) ≡ true → Seen lits W test i h
  seen_of test i h t =
      let a : Bool = not h.found in
      let b : Bool = ltb 0 (W i) in
      let c : Bool = test (lits i) in
      let d : Bool = not (satisfied h.q (lits i)) in
      let bcd = and_right a (b && (c && d)) t in
      let cd = and_right b (c && d) bcd in
      record {
        running = not-true h.found (and_left a (b && (c && d)) t);
        weighty = ltb-true 0 (W i) (and_left b (c && d) bcd);
        passes = and_left c d cd;
        unsatisfied = not-true (satisfied h.q (lits i)) (and_right c d cd);
      }

  of-seen : (test : Lits → Bool) (i : ℕ) (h : Hunt) → Seen lits W test i h
      → (not h.found && (ltb 0 (W i) && (test (lits i) && not (satisfied h.q (lits i))))) ≡ true
  of-seen test i h s = rw (s.running, lt-ltb 0 (W i) s.weighty, s.passes, s.unsatisfied)

  pub looked-by : (P : Hunt → Type 0) (test : Lits → Bool) (i : ℕ) (h : Hunt)
      → ((Seen lits W test i h → (is_empty (remnant h.q (lits i)) ≡ false) × (is_one (remnant h.q (lits i)) ≡ false)) → P h)
      → (Seen lits W test i h → is_empty (remnant h.q (lits i)) ≡ true → P (conflict_at i h))
      → (Seen lits W test i h → is_one (remnant h.q (lits i)) ≡ true → P (forced_at i (remnant h.q (lits i)) h))
      → P (looked lits W test i h)
  unfolding looked
  looked-by P test i h same clashes forces =
      let l = remnant h.q (lits i) in
      cond-elim P (not h.found && (ltb 0 (W i) && (test (lits i) && not (satisfied h.q (lits i)))))
      (cond (is_empty l) (conflict_at i h) (cond (is_one l) (forced_at i l h) h)) h
      (λ t.
      cond-elim P (is_empty l) (conflict_at i h) (cond (is_one l) (forced_at i l h) h)
      (clashes (seen_of test i h t))
      (λ e. cond-elim P (is_one l) (forced_at i l h) h (forces (seen_of test i h t)) (λ o. same (λ seen. (e, o)))))
      (λ t. same (λ seen. absurd (clash (of-seen test i h seen) t)))

  -- ---- what looking keeps, scans and hunts keep

  pub scanned-by : (P : Hunt → Type 0) (test : Lits → Bool) → ((i : ℕ) (h : Hunt) → i < rows → P h → P (looked lits W test i h))
      → (k : ℕ) (h : Hunt) → k ≤ rows → P h → P (scanned lits W test k h)
  unfolding scanned
  scanned-by P test kept zero h l s = s
  scanned-by P test kept (suc k) h l s = kept k (scanned lits W test k h) l (scanned-by P test kept k h (le_of_lt l) s)

  pub drained-by : (P : Hunt → Type 0) → ((test : Lits → Bool) (i : ℕ) (h : Hunt) → i < rows → P h → P (looked lits W test i h))
      → (k : ℕ) → P (hunt_from p) → P (drained lits W rows p k)
  unfolding drained entry_scanned
  drained-by P kept zero s = scanned-by P _ (kept (λ l. is_one (remnant p l))) rows (hunt_from p) (le_refl rows) s
  drained-by P kept (suc k) s = scanned-by P _ (kept _) rows (drained lits W rows p k) (le_refl rows) (drained-by P kept k s)

  -- ---- the trail

  -- an entry's row is in use and unsatisfied, one literal of it is left, and the entry names that one's variable
  pub record Forces (q : Part) (e : Forced) : Type 0 where
    pub used : e.row < rows
    pub weighty : 0 < W e.row
    pub unsatisfied : satisfied q (lits e.row) ≡ false
    pub one : is_one (remnant q (lits e.row)) ≡ true
    pub mask : e.variable ≡ variables_of (remnant q (lits e.row))

  abbrev pub behind : Part → Forced → Part
  behind q e = made_true (remnant q (lits e.row)) q

  -- from one partial reading to another by the entries of a trail, oldest first
  pub data Leads : Part → List Forced → Part → Type 0 where
    here : {q : Part} → Leads q [] q
    on : {q r : Part} {e : Forced} {es : List Forced} → Forces q e → Leads (behind q e) es r → Leads q (e ∷ es) r

  pub leads-on : {q r : Part} {es : List Forced} → Leads q es r → (e : Forced) → Forces r e → Leads q (es ++ (e ∷ [])) (behind r e)
  leads-on here e f = on f here
  leads-on (on g l) e f = on g (leads-on l e f)

  pub leads-grows : {q r : Part} {es : List Forced} → Leads q es r → Grows q r
  leads-grows (here {q = q}) = grows_same q
  leads-grows (on {q = q} {r = r} {e = e} f l) = grows-on q (behind q e) r (made-grows q (lits e.row)) (leads-grows l)

  pub leads-nested : {q r : Part} {es : List Forced} → Leads q es r → Nested q → Nested r
  leads-nested here n = n
  leads-nested (on {q = q} {e = e} f l) n = leads-nested l (made-nested q (lits e.row) n)

  -- ---- the conflict

  pub record Clashes (q : Part) (c : ℕ) : Type 0 where
    pub used : c < rows
    pub weighty : 0 < W c
    pub unsatisfied : satisfied q (lits c) ≡ false
    pub nothing : is_empty (remnant q (lits c)) ≡ true

  pub record Hunting (h : Hunt) : Type 0 where
    pub leads : Leads p h.trail h.q
    pub clashes : h.found ≡ true → Clashes h.q h.conflict

  looked-hunting : (test : Lits → Bool) (i : ℕ) (h : Hunt) → i < rows → Hunting h → Hunting (looked lits W test i h)
  unfolding conflict_at forced_at
  looked-hunting test i h l s =
      looked-by Hunting test i h (λ idle. s)
      (λ seen e.
      record {
        leads = s.leads;
        clashes = λ t. record { used = l; weighty = seen.weighty; unsatisfied = seen.unsatisfied; nothing = e };
      })
      (λ seen o.
      record {
        leads = leads-on s.leads (record { variable = variables_of (remnant h.q (lits i)); row = i })
            (record { used = l; weighty = seen.weighty; unsatisfied = seen.unsatisfied; one = o; mask = refl });
        clashes = λ t. absurd (clash t seen.running);
      })

  hunting-start : Hunting (hunt_from p)
  hunting-start = record { leads = here; clashes = λ t. absurd (clash t refl) }

  pub scanned-hunting : (test : Lits → Bool) (k : ℕ) → k ≤ rows → Hunting (scanned lits W test k (hunt_from p))
  scanned-hunting test k l = scanned-by Hunting test (looked-hunting test) k (hunt_from p) l hunting-start

  pub hunting : (k : ℕ) → Hunting (drained lits W rows p k)
  hunting k = drained-by Hunting looked-hunting k hunting-start
