-- The frauds that document 01 lists ("What each statement has to say"), and those that hard rows invite: each falls to a stated fact, on an example that
-- antt computes. The facts are the demands' own records, so that a demand which a fraud could meet would be seen here.
use Rattle.std.specs.Prelude.{Some, None, Result, Ok, Err}
use Prim.Native.Nat.{ℕ, zero, suc, ◌<◌, ◌^◌}
use mathlib.Core.Path.{◌≡◌, refl, sym, ap, ◌∙◌}
use mathlib.Core.List.{List, [], ◌∷◌, ◌++◌}
use mathlib.Core.Bool.{true, false}
use mathlib.Core.Logic.{◌⊎◌, inl, inr}
use native.Mathlib.Omega.{arith}
use lib.ListN.{length}
use lib.IntN.{negsuc}
use Rattle.masks.proofs.Choice.{impossible, clash, some-same}
use Rattle.masks.specs.Masks.{bit, has, without, none, below, single}
use Rattle.masks.specs.Sums.{sum, every}
use Rattle.masks.specs.Words.{zeroed}
use Rattle.literals.specs.Literal.{size, is_positive, is_literal, bit_of, lits_of}
use Rattle.literals.specs.Lits.{no_lits, together, is_empty, same_lits}
use Rattle.rules.specs.declared.Best.{Best}
use Rattle.rules.specs.declared.Choice.{Choice}
use Rattle.rules.specs.declared.Refusal.{Refusal}
use Rattle.rules.specs.declared.Status.{Status}
use Rattle.rules.specs.declared.Found.{Found}
use Rattle.rules.specs.declared.Losses.{Losses}
use Rattle.rules.specs.Table.{hard_row, is_hard, row_in, row_of, row_count, holds, given_up, breaks, bad_table, bad_lits, bad_mark, bad_weight, row_why, rows_why}
use Rattle.rules.specs.Table.{sum_too_large, row_words_of}
use Rattle.rules.specs.Desk.{standing, row_place, entry_place, desk_words, row_on, weight_on, reaches, in_limits, rows_sound, weight_fits, masks_nest}
use Rattle.rules.specs.Desk.{variables, well_formed, load_why, load_step, decisions, satisfied, remnant, desk_weighs, hard_hold_on, keeps}
use Rattle.rules.specs.Decide.{entered, bad_literal, decide_why, decision_entry, decide_step, decide_desk}
use Rattle.rules.specs.TakeBack.{take_back_desk, last_place, last_kind, last_variable, bad_decision, bad_last, withdrawn, undo_decision, take_back_step, take_back_why}
use Rattle.rules.specs.Bound.{weight_where, lost_beyond, lost, unit_weight, foreseen_at, foreseen, bound, losses_at, total, lost_hard, dead, desk_why}
use Rattle.rules.specs.Choice.{bounded}
use Rattle.rules.specs.Walk.{fixed, visited, kept_at, halted, walk, undecided, at_start, walk_of, searched}
use Rattle.rules.specs.Calls.{Call, decide, take_back, after_call, after_calls}
use Rattle.rules.specs.Examples.{x, not-x, row, lent, desk}
use Rattle.step_laws.specs.Standing.{standing_from, standing_calls}
use Rattle.step_laws.proofs.DecisionKept.{keeps-facts}
use Rattle.demands.specs.Searches.{Finished, NoReading}
use Rattle.demands.specs.Rewritings.{Rewritten}
use Rattle.demands.specs.Demands.{Kept}

abbrev p2 : List ℕ
p2 = row (x 1 ∷ []) 3 ++ row (not-x 1 ∷ []) 2

abbrev p4 : List ℕ
p4 =
    row (x 1 ∷ []) 1
    ++ (row (not-x 1 ∷ x 2 ∷ []) 1
    ++ (row (not-x 1 ∷ not-x 2 ∷ []) 1 ++ (row (not-x 1 ∷ x 3 ∷ []) 1 ++ row (not-x 1 ∷ not-x 3 ∷ []) 1)))

abbrev p8 : List ℕ
p8 = row (x 1 ∷ x 2 ∷ []) 1 ++ row (not-x 2 ∷ []) 1

-- "A refuser of everything falls to 'exactly when'": P2's table must be loaded.
p2-loads : load_why 1 p2 2 (lent 2) ≡ Ok tt
unfolding load_why desk_words row_place row_count rows_why row_why row_of row_in bad_table bad_lits bad_mark bad_weight is_hard sum_too_large row_words_of lits_of bit_of size
    is_positive no_lits together sum none without below single
p2-loads = refl

pub no-refuser : (r : Refusal) → load_why 1 p2 2 (lent 2) ≡ Err r → ⊥
no-refuser r e = let fine = p2-loads in impossible (cc)

-- "A search that returns one reading falls to P2 and P4": no answer with the all-true reading is that of a finished search on P4's desk.
p4-weighs : (desk_weighs (desk 3 p4 5) 7 ≡ 2) × (desk_weighs (desk 3 p4 5) 6 ≡ 1) × (keeps (desk 3 p4 5) 6 ≡ true) × (hard_hold_on (desk 3 p4 5) 6 ≡ true)
unfolding desk_weighs hard_hold_on breaks is_hard every keeps given_up holds row_on row_in row_place row_count load_step desk_words row_words_of no_lits together
    lits_of bit_of size is_positive sum bit without none below single
p4-weighs = (refl, refl, refl, refl)

pub no-one-reading : (f : Found) (w : ℕ) → f.best ≡ Some (record { weight = w; reading = 7 }) → Finished (desk 3 p4 5) f → ⊥
no-one-reading f w e g =
    let same : g.reading ≡ 7 = ap (λ (b : Best). b.reading) (some-same (sym g.answers ∙ e)) in
    let heavy : desk_weighs (desk 3 p4 5) 7 ≡ g.weight = ap (desk_weighs (desk 3 p4 5)) (sym same) ∙ g.weighed in
    omega (arith, p4-weighs.0, p4-weighs.1, g.least 6 p4-weighs.2 p4-weighs.3)

-- "of two such facts that clash, the search breaks one": no answer is that of a finished search on a desk where they are hard rows.
abbrev facts : List ℕ
facts = row_words_of (hard_row (x 1)) ++ row_words_of (hard_row (not-x 1))

facts-clash : (hard_hold_on (desk 1 facts 2) 0 ≡ false) × (hard_hold_on (desk 1 facts 2) 1 ≡ false) × (variables (desk 1 facts 2) ≡ 1)
unfolding hard_hold_on breaks is_hard every holds row_on row_in row_place row_count load_step desk_words row_words_of no_lits lits_of bit_of size is_positive bit without
    none single
facts-clash = (refl, refl, refl)

pub no-broken-fact : (f : Found) → Finished (desk 1 facts 2) f → ⊥
no-broken-fact f g = go g.reading g.held (keeps-facts (desk 1 facts 2) g.reading g.kept).within
  where
    go : (r : ℕ) → hard_hold_on (desk 1 facts 2) r ≡ true → r < 2 ^ variables (desk 1 facts 2) → ⊥
    go zero h l = clash h facts-clash.0
    go (suc zero) h l = clash h facts-clash.1
    go (suc (suc r)) h l = let two : suc (suc r) < 2 ^ 1 = rw facts-clash.2 at l in omega arith

-- a search that says impossible of everything: on P4's desk no answer is that of an impossible one
pub no-false-impossible : (f : Found) → NoReading (desk 3 p4 5) f → ⊥
no-false-impossible f g = clash p4-weighs.3 (g.none_holds 6 p4-weighs.2)

-- "Rewriting .. that does nothing": no desk is what a rewriting makes of itself.
pub no-idle-rewriting : (d : List ℕ) (kind : ℕ) (named : List ℕ) → Rewritten d kind named d → ⊥
no-idle-rewriting d kind named r = omega (arith, r.standing_after)

-- ".. or taking back that does nothing" falls to the replay: P8's desk with x1 decided false is not what the run decide, take back leaves.
abbrev run : List Call
run = decide (negsuc 0) ∷ take_back ∷ []

p8-stands : (standing (after_calls (desk 2 p8 2) (decide (negsuc 0) ∷ [])) ≡ 1) × (length (standing_calls (desk 2 p8 2) run) ≡ 0)
unfolding after_calls after_call standing_calls standing_from decide_why decide_step decide_desk take_back_desk decision_entry entered bad_literal well_formed
    reaches in_limits rows_sound weight_fits masks_nest weight_on row_on row_in row_place entry_place desk_words row_count load_step bad_lits bad_mark is_hard
    row_words_of no_lits together lits_of bit_of size is_positive is_literal has bit sum every without none below single zeroed last_place last_kind
    last_variable bad_decision bad_last withdrawn undo_decision take_back_step take_back_why
p8-stands = (refl, refl)

pub no-idle-taking-back : Kept 2 p8 2 (lent 2) run (desk 2 p8 2) (after_calls (desk 2 p8 2) (decide (negsuc 0) ∷ [])) → ⊥
no-idle-taking-back k = omega (arith, k.standing_count, p8-stands.0, p8-stands.1)

-- "A load that solves everything and a walk that pretends fall to the stop rule at budgets 6 and 10", "An invented node count falls to the walk's own".
abbrev p4-found : Status → ℕ → ℕ → ℕ → Result Found Refusal
p4-found status weight reading nodes = Ok (record { status = status; best = Some (record { weight = weight; reading = reading }); nodes = nodes })

p4-searched : (searched (desk 3 p4 5) Choice.Units 6 ≡ p4-found Status.Stopped 2 7 6) ×
    (searched (desk 3 p4 5) Choice.Units 10 ≡ p4-found Status.Stopped 1 6 10) × (searched (desk 3 p4 5) Choice.Units 11 ≡ p4-found Status.Done 1 6 11)
unfolding searched walk_of walk fixed visited kept_at halted undecided at_start desk_why dead lost_hard is_hard bad_mark bound lost lost_beyond foreseen
    foreseen_at unit_weight weight_where is_empty same_lits decisions satisfied remnant well_formed reaches in_limits rows_sound weight_fits masks_nest weight_on
    row_on row_in row_place desk_words row_count load_step bad_lits row_words_of no_lits together lits_of bit_of size is_positive has bit sum every without none
    below single
p4-searched = (refl, refl, refl)

pub no-pretended-walk : (f : Found) → (searched (desk 3 p4 5) Choice.Units 6 ≡ Ok f) ⊎ (searched (desk 3 p4 5) Choice.Units 10 ≡ Ok f)
    → f.status ≡ Status.Done → ⊥
no-pretended-walk f (inl e) done = let a = p4-searched.0 in let s : f.status ≡ Status.Stopped = cc in impossible (cc)
no-pretended-walk f (inr e) done = let a = p4-searched.1 in let s : f.status ≡ Status.Stopped = cc in impossible (cc)

pub no-invented-count : (f : Found) → searched (desk 3 p4 5) Choice.Units 11 ≡ Ok f → f.nodes ≡ 11
no-invented-count f e = let a = p4-searched.2 in cc

-- a search that says impossible before it has come to the end: two clashing facts take three nodes
facts-searched : (searched (desk 1 facts 2) Choice.Units 2 ≡ Ok (record { status = Status.Stopped; best = None; nodes = 2 })) ×
    (searched (desk 1 facts 2) Choice.Units 3 ≡ Ok (record { status = Status.Impossible; best = None; nodes = 3 }))
unfolding searched walk_of walk fixed visited kept_at halted undecided at_start desk_why dead lost_hard is_hard bad_mark bound lost lost_beyond foreseen foreseen_at
    unit_weight weight_where is_empty same_lits decisions satisfied remnant well_formed reaches in_limits rows_sound weight_fits masks_nest weight_on row_on row_in
    row_place desk_words row_count load_step bad_lits row_words_of no_lits lits_of bit_of size is_positive has bit sum every without none below single
facts-searched = (refl, refl)

pub no-early-impossible : (f : Found) → searched (desk 1 facts 2) Choice.Units 2 ≡ Ok f → f.status ≡ Status.Impossible → ⊥
no-early-impossible f e none = let a = facts-searched.0 in let s : f.status ≡ Status.Stopped = cc in impossible (cc)

-- "a bound that is always 0" falls "to its definition and P2"
p2-bound : bounded (desk 1 p2 2) Choice.Units ≡ Ok (record { conceded = 0; lost = 0; foreseen = 2 })
unfolding bounded desk_why losses_at lost_beyond foreseen foreseen_at unit_weight weight_where is_empty same_lits decisions satisfied remnant well_formed
    bad_mark is_hard reaches in_limits rows_sound weight_fits masks_nest weight_on row_on row_in row_place desk_words row_count load_step bad_lits row_words_of no_lits
    together lits_of bit_of size is_positive has bit sum every without none below single
p2-bound = refl

pub no-zero-bound : (l : Losses) → bounded (desk 1 p2 2) Choice.Units ≡ Ok l → total l ≡ 0 → ⊥
no-zero-bound l e z =
    let two : Ok (record { conceded = 0; lost = 0; foreseen = 2 }) ≡ Ok l = sym p2-bound ∙ e in
    let is : record { conceded = 0; lost = 0; foreseen = 2 } ≡ l = cc in
    omega (arith, ap (λ (x : Losses). x.foreseen) is)
