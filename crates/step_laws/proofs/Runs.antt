-- Any run of calls after an accepted load. A desk reached by calls is the load, or an accepted decision or rewriting on a desk so reached;
-- taking back its last step gives the desk before it again, and a refused call the desk itself. So each call leads from a reached desk to a reached desk,
-- and what a reached desk is known by (well formed, clean, weights and hard rows as at the start, the load followed by its standing steps) holds after
-- every run.
use Rattle.std.specs.Prelude.{Ok, Err}
use Prim.Native.Nat.{ℕ, zero, suc, ◌+◌, ◌≤◌}
use mathlib.Core.Path.{◌≡◌, refl, sym, ap, ◌∙◌, subst, subst₂}
use mathlib.Core.Bool.{Bool, true, false, not, ◌||◌}
use mathlib.Core.List.{List, [], ◌∷◌, ◌++◌}
use native.Mathlib.Numerals.{add-one}
use native.Mathlib.Omega.{arith}
use lib.Dec.{leb, ltb}
use lib.ListN.{get_or, length, replicate, length-append}
use lib.IntN.{ℤ}
use Rattle.masks.proofs.Choice.{impossible}
use Rattle.rules.specs.declared.Refusal.{Refusal}
use Rattle.rules.specs.declared.Refusal.TheVariants.{TooManyVariables, BadTable, BadCapacity, NoRoom, BadLiterals, BadWeight, SumTooLarge}
use Rattle.rules.specs.declared.Refusal.TheVariants.{BadDesk, TooManySteps, BadLiteral, BadNaming, BadFit, DeskFull, NothingStands}
use Rattle.literals.specs.Literal.{most_variables}
use Rattle.rules.specs.Refusals.{Judged, refuse, in_order, unless_refused}
use Rattle.rules.specs.Table.{row_of, row_count, weighs, bad_table, bad_lits, bad_weight, row_why, rows_why, sum_too_large}
use Rattle.rules.specs.Desk.{desk_words, most_capacity, most_steps, in_use, capacity, standing, well_formed, load_why, load_step, load_desk, desk_weighs, keeps}
use Rattle.rules.specs.Decide.{bad_literal, decide_why, decide_step, decide_desk}
use Rattle.rules.specs.Rewrite.{given, well_fitted, rewrite_why, rewrite_step, rewrite_desk}
use Rattle.rules.specs.Steps.{stored, well_named}
use Rattle.rules.specs.TakeBack.{take_back_why, take_back_step, take_back_desk}
use Rattle.rules.specs.Calls.{Call, decide, rewrite, take_back, load, call_why, after_call, after_calls}
use Rattle.step_laws.specs.Clean.{Clean}
use Rattle.step_laws.specs.Framed.{Framed}
use Rattle.step_laws.specs.HardRows.{HardStay}
use Rattle.step_laws.specs.Standing.{without_last, standing_after, standing_from, standing_calls, AllFine, NeverTen, LoadRefused, LoadsRefused}
use Rattle.step_laws.proofs.Loads.{load-fine, loaded-capacity, loaded-past}
use Rattle.step_laws.proofs.Frames.{framed-same, framed_then, decide-framed, rewrite-framed}
use Rattle.step_laws.proofs.HardRows.{hard-same, hard-then, decide-hard, rewrite-hard}
use Rattle.step_laws.proofs.Steps.{load-formed, load-clean, load-weighs, load-rest, decide-undone, decide-standing, decide-formed}
use Rattle.step_laws.proofs.Steps.{decide-clean, decide-weighs, decide-keeps, rewrite-undone, rewrite-standing, rewrite-formed, rewrite-clean}
use Rattle.step_laws.proofs.Steps.{rewrite-weighs, rewrite-keeps}

-- a desk reached by calls, with the steps that stand on it
pub data Reached (start : List ℕ) : List ℕ → List Call → Type 0 where
  laid_out : Reached start start []
  deciding : {d : List ℕ} {calls : List Call} → Reached start d calls → (l : ℤ) → decide_why d l ≡ Ok tt
      → Reached start (decide_step d l) (calls ++ (decide l ∷ []))
  rewriting : {d : List ℕ} {calls : List Call} → Reached start d calls → (kind : ℕ) (named : List ℕ) → rewrite_why d kind named ≡ Ok tt
      → Reached start (rewrite_step d kind named) (calls ++ (rewrite kind named ∷ []))

-- ---- calls in order

abbrev pub call_step : List ℕ → Call → List ℕ
call_step d (decide l) = decide_step d l
call_step d (rewrite kind named) = rewrite_step d kind named
call_step d take_back = take_back_step d
call_step d (load n table c) = load_step n table c d

-- a call's words are its step's, unless it is refused
by-step : (d : List ℕ) (call : Call) → after_call d call ≡ unless_refused (call_why d call) (call_step d call) d
unfolding after_call decide_desk rewrite_desk take_back_desk load_desk
by-step d (decide l) = refl
by-step d (rewrite kind named) = refl
by-step d take_back = refl
by-step d (load n table c) = refl

pub after-fine : (d : List ℕ) (call : Call) → call_why d call ≡ Ok tt → after_call d call ≡ call_step d call
after-fine d call e = by-step d call ∙ rw e

pub after-refused : (d : List ℕ) (call : Call) (r : Refusal) → call_why d call ≡ Err r → after_call d call ≡ d
after-refused d call r e = by-step d call ∙ rw e

pub calls-append : (d : List ℕ) (xs ys : List Call) → after_calls d (xs ++ ys) ≡ after_calls (after_calls d xs) ys
unfolding after_calls
calls-append d [] ys = refl
calls-append d (x ∷ xs) ys = calls-append (after_call d x) xs ys

pub last_off : (calls : List Call) (x : Call) → without_last (calls ++ (x ∷ [])) ≡ calls
last_off [] x = refl
last_off (y ∷ []) x = refl
last_off (y ∷ z ∷ l) x = ap (λ (k : List Call). y ∷ k) (last_off (z ∷ l) x)

-- ---- what a reached desk is known by

pub record Known (start : List ℕ) (weight : ℕ → ℕ) (d : List ℕ) (calls : List Call) : Type 0 where
  pub formed : well_formed d ≡ true
  pub clean : Clean d
  pub weights : (reading : ℕ) → keeps d reading ≡ true → desk_weighs d reading ≡ weight reading
  pub replayed : d ≡ after_calls start calls
  pub framed : Framed start d
  pub hard : HardStay start d

one_more : (start d : List ℕ) (calls : List Call) (call : Call) → d ≡ after_calls start calls → call_why d call ≡ Ok tt
    → call_step d call ≡ after_calls start (calls ++ (call ∷ []))
one_more start d calls call e fine =
    sym (after-fine d call fine) ∙ ap (λ (x : List ℕ). after_call x call) e ∙ sym (calls-append start calls (call ∷ []) ∙ (unfold after_calls in refl))

pub known : (start : List ℕ) (weight : ℕ → ℕ) → Known start weight start [] → {d : List ℕ} {calls : List Call} → Reached start d calls
    → Known start weight d calls
known start weight k laid_out = k
known start weight k (deciding {d} {calls} m l fine) =
    let before = known start weight k m in
    record {
      formed = decide-formed d l fine;
      clean = decide-clean d l fine before.clean;
      weights = λ reading h. decide-weighs d l fine reading ∙ before.weights reading (decide-keeps d l fine reading h);
      replayed = one_more start d calls (decide l) before.replayed fine;
      framed = framed_then before.framed (decide-framed d l fine);
      hard = hard-then before.hard (decide-hard d l fine);
    }
known start weight k (rewriting {d} {calls} m kind named fine) =
    let before = known start weight k m in
    record {
      formed = rewrite-formed d kind named fine;
      clean = rewrite-clean d kind named fine before.clean;
      weights = λ reading h.
          let kept : keeps d reading ≡ true = sym (rewrite-keeps d kind named fine reading) ∙ h in
          rewrite-weighs d kind named fine reading kept ∙ before.weights reading kept;
      replayed = one_more start d calls (rewrite kind named) before.replayed fine;
      framed = framed_then before.framed (rewrite-framed d kind named fine);
      hard = hard-then before.hard (rewrite-hard d kind named fine);
    }

-- ---- on a well-formed desk, a decision or a rewriting is never refused with 10

neither-ten : (b : Bool) (r : Refusal) (after : Judged) → (r ≡ BadDesk → ⊥) → (after ≡ Err BadDesk → ⊥) → refuse b r after ≡ Err BadDesk → ⊥
neither-ten true r after h k e = h (cc)
neither-ten false r after h k e = k e

fine-not-ten : ◌≡◌ {A = Judged} (Ok tt) (Err BadDesk) → ⊥
fine-not-ten e = impossible (cc)

pub never-decide : (d : List ℕ) (l : ℤ) → well_formed d ≡ true → decide_why d l ≡ Err BadDesk → ⊥
unfolding decide_why
never-decide d l w e =
    neither-ten (leb most_steps (standing d)) TooManySteps (refuse (bad_literal d l) BadLiteral (Ok tt)) (λ q. impossible (cc))
    (neither-ten (bad_literal d l) BadLiteral (Ok tt) (λ q. impossible (cc)) fine-not-ten)
    (rw w at e)

pub never-rewrite : (d : List ℕ) (kind : ℕ) (named : List ℕ) → well_formed d ≡ true → rewrite_why d kind named ≡ Err BadDesk → ⊥
unfolding rewrite_why
never-rewrite d kind named w e =
    let full : Bool = ltb (capacity d) (in_use d + length (stored (given d kind named))) in
    let last : Judged = refuse full DeskFull (Ok tt) in
    let fit : Judged = refuse (not (well_fitted d kind named)) BadFit last in
    neither-ten (leb most_steps (standing d)) TooManySteps (refuse (not (well_named d kind named)) BadNaming fit) (λ q. impossible (cc))
    (neither-ten (not (well_named d kind named)) BadNaming fit (λ q. impossible (cc))
    (neither-ten (not (well_fitted d kind named)) BadFit last (λ q. impossible (cc))
    (neither-ten full DeskFull (Ok tt) (λ q. impossible (cc)) fine-not-ten)))
    (rw w at e)

-- a load is not refused so on any words
neither-first : (first after : Judged) → (first ≡ Err BadDesk → ⊥) → (after ≡ Err BadDesk → ⊥) → in_order first after ≡ Err BadDesk → ⊥
neither-first (Ok _) after h k e = k e
neither-first (Err r) after h k e = h e

never-rows : (n : ℕ) (table : List ℕ) (k : ℕ) → rows_why n table k ≡ Err BadDesk → ⊥
unfolding rows_why row_why
never-rows n table zero e = fine-not-ten e
never-rows n table (suc k) e =
    neither-first (rows_why n table k) (row_why n k (row_of table k)) (never-rows n table k)
    (neither-ten (bad_lits n (row_of table k).lits) (BadLiterals k) (refuse (bad_weight (row_of table k)) (BadWeight k) (Ok tt)) (λ q. impossible (cc))
    (neither-ten (bad_weight (row_of table k)) (BadWeight k) (Ok tt) (λ q. impossible (cc)) fine-not-ten))
    e

pub never-load : (n : ℕ) (table : List ℕ) (c : ℕ) (d : List ℕ) → load_why n table c d ≡ Err BadDesk → ⊥
unfolding load_why
never-load n table c d e =
    neither-ten (ltb most_variables n) TooManyVariables _ (λ q. impossible (cc))
    (neither-ten (bad_table table) BadTable _ (λ q. impossible (cc))
    (neither-ten (ltb c (row_count table) || ltb most_capacity c) BadCapacity _ (λ q. impossible (cc))
    (neither-ten (ltb (length d) (desk_words c)) NoRoom _ (λ q. impossible (cc))
    (neither-first (rows_why n table (row_count table)) _ (never-rows n table (row_count table))
    (neither-ten (sum_too_large table) SumTooLarge (Ok tt) (λ q. impossible (cc)) fine-not-ten)))))
    e

-- ---- each call, from a reached desk to a reached desk

module _ (start : List ℕ) (weight : ℕ → ℕ) (base : Known start weight start []) (nothing : standing start ≡ 0) where
  -- where no step stands there is nothing to take back
  start-refuses : take_back_why start ≡ Err NothingStands
  unfolding take_back_why
  start-refuses = rw (base.formed, nothing)

  -- a step that stands can be taken back, and its desk is as before
  pub taken_back : {d : List ℕ} {calls : List Call} → Reached start d calls → take_back_why d ≡ Ok tt → Reached start (take_back_step d) (without_last calls)
  taken_back laid_out e = impossible (cc (start-refuses))
  taken_back (deciding {d} {calls} m l fine) e =
      subst₂ (Reached start) (sym (decide-undone d l fine (known start weight base m).clean).1) (sym (last_off calls (decide l))) m
  taken_back (rewriting {d} {calls} m kind named fine) e =
      subst₂ (Reached start) (sym (rewrite-undone d kind named fine (known start weight base m).clean).1) (sym (last_off calls (rewrite kind named))) m

  -- whatever a call's judgement is
  judged : {d : List ℕ} {calls : List Call} → Reached start d calls → (call : Call) → LoadRefused d call → (j : Judged) → call_why d call ≡ j
      → Reached start (unless_refused j (call_step d call) d) (standing_after j call calls)
  judged m (decide l) unless (Ok _) e = deciding m l e
  judged m (rewrite kind named) unless (Ok _) e = rewriting m kind named e
  judged m take_back unless (Ok _) e = taken_back m e
  judged m (load n table c) unless (Ok _) e = absurd (unless e)
  judged m (decide l) unless (Err r) e = m
  judged m (rewrite kind named) unless (Err r) e = m
  judged m take_back unless (Err r) e = m
  judged m (load n table c) unless (Err r) e = m

  pub called : {d : List ℕ} {calls : List Call} → Reached start d calls → (call : Call) → LoadRefused d call
      → Reached start (after_call d call) (standing_after (call_why d call) call calls)
  called {d} {calls} m call unless =
      subst (λ (e : List ℕ). Reached start e (standing_after (call_why d call) call calls)) (sym (by-step d call)) (judged m call unless (call_why d call) refl)

  -- ---- never a 10

  never_back : {d : List ℕ} {calls : List Call} → Reached start d calls → take_back_why d ≡ Err BadDesk → ⊥
  never_back laid_out e = impossible (cc (start-refuses))
  never_back (deciding {d} m l fine) e = impossible (cc (decide-undone d l fine (known start weight base m).clean).0)
  never_back (rewriting {d} m kind named fine) e = impossible (cc (rewrite-undone d kind named fine (known start weight base m).clean).0)

  pub never-ten : {d : List ℕ} {calls : List Call} → Reached start d calls → (call : Call) → call_why d call ≡ Err BadDesk → ⊥
  never-ten {d} m (decide l) e = never-decide d l (known start weight base m).formed e
  never-ten {d} m (rewrite kind named) e = never-rewrite d kind named (known start weight base m).formed e
  never-ten m take_back e = never_back m e
  never-ten {d} m (load n table c) e = never-load n table c d e

  -- ---- any run

  pub run : (calls : List Call) {d : List ℕ} {before : List Call} → Reached start d before → LoadsRefused d calls
      → Reached start (after_calls d calls) (standing_from d before calls)
  unfolding after_calls standing_from
  run [] m unless = m
  run (call ∷ calls) m unless = run calls (called m call unless.0) unless.1

  pub run-never : (calls : List Call) {d : List ℕ} {before : List Call} → Reached start d before → LoadsRefused d calls → NeverTen d calls
  run-never [] m unless = tt
  run-never (call ∷ calls) m unless = (never-ten m call, run-never calls (called m call unless.0) unless.1)

-- ---- what stands can be made again, and taken back

module _ (start : List ℕ) (weight : ℕ → ℕ) (base : Known start weight start []) where
  one-more-fine : (d : List ℕ) (calls : List Call) (call : Call) → AllFine d calls → call_why (after_calls d calls) call ≡ Ok tt
      → AllFine d (calls ++ (call ∷ []))
  unfolding after_calls
  one-more-fine d [] call a e = (e, tt)
  one-more-fine d (x ∷ calls) call a e = (a.0, one-more-fine (after_call d x) calls call a.1 e)

  pub made_again : {d : List ℕ} {calls : List Call} → Reached start d calls → AllFine start calls
  made_again laid_out = tt
  made_again (deciding {d} {calls} m l fine) = one-more-fine start calls (decide l) (made_again m) (rw (← (known start weight base m).replayed) fine)
  made_again (rewriting {d} {calls} m kind named fine) =
      one-more-fine start calls (rewrite kind named) (made_again m) (rw (← (known start weight base m).replayed) fine)

  pub made-standing : standing start ≡ 0 → {d : List ℕ} {calls : List Call} → Reached start d calls → standing d ≡ length calls
  made-standing z laid_out = z
  made-standing z (deciding {d} {calls} m l fine) = decide-standing d l fine ∙ omega (arith, made-standing z m, length-append calls (decide l ∷ []))
  made-standing z (rewriting {d} {calls} m kind named fine) =
      rewrite-standing d kind named fine ∙ omega (arith, made-standing z m, length-append calls (rewrite kind named ∷ []))

  -- a taking back for each standing step
  unwind : (d e : List ℕ) (calls : List Call) (call : Call) → take_back_why e ≡ Ok tt → take_back_step e ≡ d
      → after_calls d (replicate (length calls) take_back) ≡ start
      → after_calls e (replicate (length (calls ++ (call ∷ []))) take_back) ≡ start
  unfolding after_calls
  unwind d e calls call fine back ih =
      let n : length (calls ++ (call ∷ [])) ≡ suc (length calls) = length-append calls (call ∷ []) ∙ add-one (length calls) in
      rw n (ap (λ (x : List ℕ). after_calls x (replicate (length calls) take_back)) (after-fine e take_back fine ∙ back) ∙ ih)

  pub unwound : {d : List ℕ} {calls : List Call} → Reached start d calls → after_calls d (replicate (length calls) take_back) ≡ start
  unfolding after_calls
  unwound laid_out = refl
  unwound (deciding {d} {calls} m l fine) =
      let u = decide-undone d l fine (known start weight base m).clean in
      unwind d (decide_step d l) calls (decide l) u.0 u.1 (unwound m)
  unwound (rewriting {d} {calls} m kind named fine) =
      let u = rewrite-undone d kind named fine (known start weight base m).clean in
      unwind d (rewrite_step d kind named) calls (rewrite kind named) u.0 u.1 (unwound m)

-- ---- demand 3, for every accepted load and every run of calls

module _ (n : ℕ) (table : List ℕ) (c : ℕ) (d : List ℕ) (fine : load_why n table c d ≡ Ok tt) where
  pub base : Known (load_step n table c d) (weighs table) (load_step n table c d) []
  unfolding after_calls
  base =
      record {
        formed = load-formed n table c d fine;
        clean = load-clean n table c d fine;
        weights = λ reading h. load-weighs n table c d fine reading;
        replayed = refl;
        framed = framed-same (load_step n table c d);
        hard = hard-same (load_step n table c d);
      }

module _ (n : ℕ) (table : List ℕ) (c : ℕ) (d : List ℕ) (fine : load_why n table c d ≡ Ok tt) (calls : List Call)
    (loads : LoadsRefused (load_step n table c d) calls) where
  abbrev start : List ℕ
  start = load_step n table c d

  pub made : Reached start (after_calls start calls) (standing_calls start calls)
  unfolding standing_calls
  made = run start (weighs table) (base n table c d fine) (load-rest n table c d fine).0 calls laid_out loads

  result : Known start (weighs table) (after_calls start calls) (standing_calls start calls)
  result = known start (weighs table) (base n table c d fine) made

  -- a reading that keeps the decisions weighs on the desk what it weighs on the table
  pub run-weighs : (reading : ℕ) → keeps (after_calls start calls) reading ≡ true → desk_weighs (after_calls start calls) reading ≡ weighs table reading
  run-weighs = result.weights

  pub run-standing : standing (after_calls start calls) ≡ length (standing_calls start calls)
  run-standing = made-standing start (weighs table) (base n table c d fine) (load-rest n table c d fine).0 made

  -- taking back every standing step restores the load, word for word
  pub run-unwinds : after_calls (after_calls start calls) (replicate (standing (after_calls start calls)) take_back) ≡ start
  run-unwinds = rw run-standing (unwound start (weighs table) (base n table c d fine) made)

  -- no call was refused with 10
  pub run-never-ten : NeverTen start calls
  run-never-ten = run-never start (weighs table) (base n table c d fine) (load-rest n table c d fine).0 calls laid_out loads

  pub run-formed : well_formed (after_calls start calls) ≡ true
  run-formed = result.formed

  pub run-clean : Clean (after_calls start calls)
  run-clean = result.clean

  -- variables, capacity and rows loaded are the load's, and words past the desk were never touched
  pub run_framed : Framed start (after_calls start calls)
  run_framed = result.framed

  -- hard rows are the load's, row by row
  pub run-hard : HardStay start (after_calls start calls)
  run-hard = result.hard

  pub run_past : (p : ℕ) → desk_words c ≤ p → get_or (after_calls start calls) p 0 ≡ get_or d p 0
  run_past p h =
      let ok = load-fine n table c d fine in
      run_framed.past p (rw (loaded-capacity n table c d ok) h) ∙ loaded-past n table c d ok p h
