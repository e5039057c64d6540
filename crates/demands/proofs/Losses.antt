-- The three numbers of a bound are what is said of them. A row that counts as lost is unsatisfied with an empty remnant, so no reading that keeps the
-- decisions satisfies it. For any other row there is one that does: the decided truths alone, where the row is satisfied already or its remnant has a
-- negative literal; else with the remnant's positive literals made true.
use Rattle.std.specs.Prelude.{Ok}
use Prim.Native.Nat.{ℕ, ◌^◌, ◌≤◌, ◌<◌}
use mathlib.Core.Path.{◌≡◌, refl, sym, ap, ◌∙◌, subst}
use mathlib.Core.Bool.{Bool, true, false, not, ◌&&◌, ◌||◌, or-true}
use mathlib.Core.List.{List}
use native.Mathlib.Omega.{arith}
use lib.Bits.{bit_and, bit_or, or_zero_r, or_comm, or_lt, and_comm}
use Rattle.masks.specs.Masks.{has, none, without}
use Rattle.masks.proofs.Choice.{impossible, clash, not_so}
use Rattle.masks.proofs.Sets.{and-or, and_or_self, without-lt, within-and, within-le, apart-without, apart_of, apart, within, without-apart, zero-none}
use Rattle.literals.specs.declared.Lits.{Lits}
use Rattle.literals.specs.Lits.{is_empty}
use Rattle.literals.proofs.TwoMasks.{masks-empty}
use Rattle.rules.specs.declared.Choice.{Choice}
use Rattle.rules.specs.declared.Losses.{Losses}
use Rattle.rules.specs.declared.Part.{Part}
use Rattle.rules.specs.Table.{holds}
use Rattle.rules.specs.Desk.{variables, in_use, conceded, decided, truths, row_on, well_formed, decisions, satisfied, remnant, desk_weighs, keeps}
use Rattle.rules.specs.Bound.{weight_where, lost_beyond, losses_at, desk_why}
use Rattle.rules.specs.Groups.{losses_by_groups}
use Rattle.rules.specs.Choice.{bound_by, losses_by, bounded}
use Rattle.desk_laws.proofs.Formed.{Formed, formed}
use Rattle.step_laws.proofs.DecisionKept.{keeps-facts, facts-keep}
use Rattle.walk_laws.specs.Sound.{Extends}
use Rattle.walk_laws.proofs.Remnants.{holds-split, holds-empty}
use Rattle.walk_laws.proofs.Bounds.{lost-below}
use Rattle.walk_laws.proofs.Done.{root, keeps-leaf}
use Rattle.search_laws.proofs.Either.{either-sound, either-certain, either-total}
use Rattle.search_laws.proofs.Answers.{bounded-well}
use Rattle.demands.specs.Losses.{GivenUp, Satisfiable, Beyond, foreseen_by, Explained, LossesExplained}

module _ (d : List ℕ) (f : Formed d) where
  -- what is true is within the variables
  truths-below : truths d < 2 ^ variables d
  truths-below = omega (arith, within-le (truths d) (decided d) f.nested, f.within)

  -- ---- readings that keep the decisions

  -- the decided truths, and more on undecided variables
  kept_more : (more : ℕ) → more < 2 ^ variables d → bit_and (decided d) more ≡ 0 → keeps d (bit_or (truths d) more) ≡ true
  kept_more more low none-decided =
      facts-keep d (bit_or (truths d) more)
      (record {
        within = or_lt (variables d) (truths d) more truths-below low;
        agrees =
            and_comm (bit_or (truths d) more) (decided d)
            ∙ and-or (decided d) (truths d) more
            ∙ ap (bit_or (bit_and (decided d) (truths d))) none-decided
            ∙ or_zero_r (bit_and (decided d) (truths d))
            ∙ and_comm (decided d) (truths d)
            ∙ within-and (truths d) (decided d) f.nested;
      })

  kept-truths : keeps d (truths d) ≡ true
  kept-truths = facts-keep d (truths d) (record { within = truths-below; agrees = within-and (truths d) (decided d) f.nested })

  extends : (full : ℕ) → keeps d full ≡ true → Extends (decisions d) full
  unfolding decisions
  extends full k = (keeps-facts d full k).agrees

  module _ (i : ℕ) (inside : i < in_use d) where
    abbrev l : Lits
    l = (row_on d i).lits

    abbrev gone : Bool
    gone = not (satisfied (decisions d) l) && is_empty (remnant (decisions d) l)

    -- ---- lost

    given-up : gone ≡ true → GivenUp d i
    given-up g full k =
        holds-split (decisions d) full l (extends full k)
        ∙ go (satisfied (decisions d) l) (is_empty (remnant (decisions d) l)) g (holds-empty (remnant (decisions d) l) full)
      where
        go : (s e : Bool) → not s && e ≡ true → (e ≡ true → holds (remnant (decisions d) l) full ≡ false)
            → (s || holds (remnant (decisions d) l) full) ≡ false
        go true e g h = impossible (cc)
        go false e g h = h g

    -- ---- not lost

    by-split : (full : ℕ) → keeps d full ≡ true → (satisfied (decisions d) l || holds (remnant (decisions d) l) full) ≡ true → Satisfiable d i
    by-split full k e = record { full = full; kept = k; held = holds-split (decisions d) full l (extends full k) ∙ e }

    -- the remnant's positive literals, made true
    by-positive : none (remnant (decisions d) l).positive ≡ false → Satisfiable d i
    unfolding remnant decisions holds
    by-positive some =
        let rest = without l.positive (decided d) in
        let low = without-lt (variables d) (decided d) (f.sound i inside).positives in
        let undecided : bit_and (decided d) rest ≡ 0 = and_comm (decided d) rest ∙ apart-without l.positive (decided d) in
        let full = bit_or (truths d) rest in
        let meets : bit_and rest full ≡ rest =
        ap (bit_and rest) (or_comm (truths d) rest) ∙ and_or_self rest (truths d) in
        by-split full (kept_more rest low undecided) (rw (meets, some) (or-true (satisfied (decisions d) l)))

    -- the decided truths alone: a negative literal of the remnant is on none of them
    by-negative : none (remnant (decisions d) l).negative ≡ false → Satisfiable d i
    unfolding remnant decisions holds
    by-negative some =
        let rest = without l.negative (decided d) in
        let undecided : (v : ℕ) → has (truths d) v ≡ true → has rest v ≡ false =
        λ v h. apart (decided d) rest (and_comm (decided d) rest ∙ apart-without l.negative (decided d)) v (within (truths d) (decided d) f.nested v h) in
        let stays : without rest (truths d) ≡ rest =
        without-apart rest (truths d) (and_comm rest (truths d) ∙ apart_of (truths d) rest undecided) in
        by-split (truths d) kept-truths
        (rw (stays, some, or-true (not (none (bit_and (without l.positive (decided d)) (truths d))))) (or-true (satisfied (decisions d) l)))

    satisfiable : gone ≡ false → Satisfiable d i
    satisfiable g = by-decided (satisfied (decisions d) l) refl
      where
        by-rest : satisfied (decisions d) l ≡ false → (b : Bool) → none (remnant (decisions d) l).positive ≡ b → Satisfiable d i
        by-rest s false e = by-positive e
        by-rest s true e =
            by-negative (not_so (λ t.
            let empty = masks-empty (remnant (decisions d) l) (zero-none _ e) (zero-none _ t) in
            let gone-true : gone ≡ true = rw (s, empty) in
            clash gone-true g))

        by-decided : (s : Bool) → satisfied (decisions d) l ≡ s → Satisfiable d i
        by-decided true e = by-split (truths d) kept-truths (rw e)
        by-decided false e = by-rest e (none (remnant (decisions d) l).positive) refl

-- ---- the three numbers

losses-are : (choice : Choice) (d : List ℕ) (p : Part)
    → losses_by choice d p ≡ record { conceded = conceded d; lost = lost_beyond d p; foreseen = foreseen_by choice d p }
unfolding losses_at losses_by_groups
losses-are Choice.Units d p = refl
losses-are Choice.Groups d p = refl

module _ (d : List ℕ) (choice : Choice) (well : well_formed d ≡ true) where
  pub bound-given : bounded d choice ≡ Ok (losses_by choice d (decisions d))
  unfolding bounded desk_why
  bound-given = rw well

  -- what is lost, by either bound
  beyond-here : Beyond d (lost_beyond d (decisions d))
  unfolding lost_beyond weight_where
  beyond-here =
      record {
        gone = λ i. not (satisfied (decisions d) (row_on d i).lits) && is_empty (remnant (decisions d) (row_on d i).lits);
        rows = refl;
        each = given-up d (formed d well);
        others = satisfiable d (formed d well);
      }

  explained-here : Explained d choice (losses_by choice d (decisions d))
  explained-here =
      let are = losses-are choice d (decisions d) in
      record {
        conceded = ap (λ (l : Losses). l.conceded) are;
        lost = subst (Beyond d) (sym (ap (λ (l : Losses). l.lost) are)) beyond-here;
        foreseen = ap (λ (l : Losses). l.foreseen) are;
        adds = either-total choice d (decisions d);
        sure = λ full k. rw (either-certain choice d (decisions d)) (lost-below d (decisions d) full (extends d (formed d well) full k));
        least = λ full k.
            let x = keeps-leaf d (formed d well) full k in
            let below : bound_by choice d (decisions d) ≤ desk_weighs d x.0.truths =
            (either-sound choice d (formed d well)).at_most (root d (formed d well)) x.1 in
            omega (arith, either-total choice d (decisions d), below, ap (desk_weighs d) x.2);
      }

pub explained : LossesExplained
explained d choice l e =
    let w = bounded-well d choice l e in
    subst (Explained d choice) (sym w.1) (explained-here d choice w.0)
