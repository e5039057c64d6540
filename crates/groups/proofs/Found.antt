-- What a hunt leaves. The rows of its trail and of its group are rows in use, and a group costs something: each of its rows has a working weight.
use Prim.Native.Nat.{ℕ, zero, suc, ◌≤◌, ◌<◌}
use mathlib.Core.Path.{◌≡◌, refl, sym, ap, subst, ◌∙◌}
use mathlib.Core.Bool.{false}
use mathlib.Core.List.{List, Memᴰ}
use mathlib.Core.Logic.{⊎_elim}
use native.Mathlib.Nat.{le_of_suc-le-suc, eq-or-lt_of_le, not-suc-le-zero}
use native.Mathlib.Omega.{arith}
use lib.ListN.{length, get_or}
use Rattle.masks.proofs.Counts.{count-le}
use Rattle.literals.specs.declared.Lits.{Lits}
use Rattle.rules.specs.declared.Part.{Part}
use Rattle.rules.specs.Desk.{variables, in_use}
use Rattle.rules.specs.Groups.{Weights, Forced, Hunt, Group, Tally, group_of, taken}
use Rattle.group_laws.specs.Trails.{trail_of, rows_of, weights_in}
use Rattle.group_laws.proofs.Hunting.{Leads, here, on, Hunting}
use Rattle.group_laws.proofs.Gathering.{Costed, group-costed}
use Rattle.group_laws.proofs.Costs.{hunted-hunting}
use Rattle.group_laws.proofs.Branches.{tallied-found, tallied-last}
use Rattle.group_laws.proofs.Trails.{trail-length, trail-at}
use Rattle.looking.specs.declared.Trail.{Trail}
use Rattle.looking.proofs.Looking.{not_found, is_found_lem}
use Rattle.looking.specs.Looks.{lits_on, hunt_of, Roomy}
use Rattle.gathering.specs.declared.Joined.{Joined}
use Rattle.gathering.specs.Gathered.{group_in, group_words, Traced, Standing, Taken}
use Rattle.groups.specs.Foresees.{Room, hunt_on, Hunted}

-- ---- rows in use

leads-used : {lits : ℕ → Lits} {rows : ℕ} {p : Part} {W : Weights} {q r : Part} {es : List Forced} → Leads lits rows p W q es r
    → (k : ℕ) (none : Forced) → k < length es → (get_or es k none).row < rows
leads-used here k none l = absurd (not-suc-le-zero l)
leads-used (on f rest) zero none l = f.used
leads-used (on f rest) (suc k) none l = leads-used rest k none (le_of_suc-le-suc l)

row-in : (row : ℕ → ℕ) (n k : ℕ) → k < n → Memᴰ (row k) (rows_of row n)
unfolding rows_of
row-in row zero k l = absurd (not-suc-le-zero l)
row-in row (suc n) k l =
    ⊎_elim
    (λ (e : k ≡ n). Memᴰ.head (ap row e))
    (λ m. Memᴰ.tail (row-in row n k m))
    (eq-or-lt_of_le (le_of_suc-le-suc l))

module _ (d : List ℕ) (p : Part) (words : List ℕ) (t : Trail) (ms rs : List ℕ) (is : hunt_of t ms rs ≡ hunt_on d p words) (roomy : Roomy t ms rs) where
  hunting-so : Hunting (lits_on d) (in_use d) p (weights_in words) (hunt_of t ms rs)
  hunting-so = subst (Hunting (lits_on d) (in_use d) p (weights_in words)) (sym is) (hunted-hunting (lits_on d) (in_use d) (variables d) p (weights_in words))

  -- nothing found
  pub nothing-found : t.found ≡ 0 → Hunted d p words words 0
  nothing-found f =
      let e : (hunt_on d p words).found ≡ false = sym (ap (λ (h : Hunt). h.found) is) ∙ not_found t f in
      let last = tallied-last (lits_on d) (in_use d) (variables d) p (record { weights = weights_in words; costs = 0 }) e in
      record {
        words = refl;
        costs = ap (λ (s : Tally). s.costs) last;
        weights = λ i l. sym (ap (λ (s : Tally). s.weights i) last);
        last = λ z. e;
      }

  module _ (f : t.found ≡ 0 → ⊥) where
    pub traced : Traced d t rs
    traced =
        let none : Forced = record { variable = 0; row = 0 } in
        let trail : List Forced = trail_of (λ j. get_or ms j 0) (λ j. get_or rs j 0) t.entries in
        record {
          conflict = (hunting-so.clashes (is_found_lem t f)).used;
          entries = omega (arith, roomy.short, count-le t.q.decided);
          each = λ k l.
              let used : (get_or trail k none).row < in_use d =
              leads-used hunting-so.leads k none (omega (arith, trail-length (λ j. get_or ms j 0) (λ j. get_or rs j 0) t.entries)) in
              subst (λ (e : Forced). e.row < in_use d) (trail-at (λ j. get_or ms j 0) (λ j. get_or rs j 0) t.entries k none l) used;
        }

    costed-so : Costed (lits_on d) (in_use d) p (weights_in words) (group_of (lits_on d) (weights_in words) p (hunt_of t ms rs))
    costed-so = group-costed (lits_on d) (in_use d) p (weights_in words) (hunt_of t ms rs) hunting-so (is_found_lem t f)

    module _ (g : Joined) (group : List ℕ) (gathers : group_in g group ≡ group_of (lits_on d) (weights_in words) p (hunt_of t ms rs)) where
      pub standing : g.size ≤ group_words → length group ≡ group_words → in_use d ≤ length words → Standing g.size group words
      standing most stored lying =
          record {
            stored = omega arith;
            each = λ k l.
                let member : Memᴰ (get_or group k 0) (group_of (lits_on d) (weights_in words) p (hunt_of t ms rs)).rows =
                subst (λ (x : Group). Memᴰ (get_or group k 0) x.rows) gathers (row-in (λ j. get_or group j 0) g.size k l) in
                omega (arith, costed-so.used _ member);
          }

      -- the group, its cost taken
      pub group-taken : (after : List ℕ) → Taken g.cost g.size group words after → Hunted d p words after g.cost
      group-taken after taking =
          let W = weights_in words in
          let start : Tally = record { weights = W; costs = 0 } in
          let more = tallied-found (lits_on d) (in_use d) (variables d) p start (sym (ap (λ (h : Hunt). h.found) is) ∙ is_found_lem t f) in
          let whole : group_in g group ≡ group_of (lits_on d) W p (hunt_on d p words) = gathers ∙ ap (group_of (lits_on d) W p) is in
          let c = costed-so in
          record {
            words = taking.words;
            costs = omega (arith, ap (λ (s : Tally). s.costs) more, ap (λ (x : Group). x.cost) whole);
            weights = λ i l.
                taking.each i ∙ ap (λ (x : Group). taken x.cost x.rows W i) whole ∙ sym (ap (λ (s : Tally). s.weights i) more);
            last = λ z.
                absurd (omega (
                  arith,
                  ap (λ (x : Group). x.cost) gathers,
                  c.attained.2,
                  c.weighty c.attained.0 c.attained.1,
                ));
          }

-- ---- room stays where lengths do

pub room-kept : (d ws ms rs gs us ns qs hs : List ℕ) → Room d ws ms rs gs → length us ≡ length ws → length ns ≡ length ms → length qs ≡ length rs
    → length hs ≡ length gs → Room d us ns qs hs
room-kept d ws ms rs gs us ns qs hs room a b c e =
    record {
      lying = record { rows = room.lying.rows; weights = omega (arith, room.lying.weights) };
      lent = record { masks = b ∙ room.lent.masks; rows = c ∙ room.lent.rows };
      grouped = e ∙ room.grouped;
    }
