-- The demands hold. Each is put together here from the laws of the crates below: steps and runs (step_laws), bound and walk (walk_laws, search_laws), text
-- (text_laws).
use Rattle.std.specs.Prelude.{Ok, Err}
use Prim.Native.Nat.{ℕ, ◌≤◌}
use mathlib.Core.Path.{◌≡◌, refl, sym, ap, ◌∙◌, subst}
use mathlib.Core.List.{List, ◌++◌}
use mathlib.Core.Bool.{true}
use native.Mathlib.Omega.{arith}
use lib.ListN.{length, take, drop}
use lib.IntN.{ℤ}
use Rattle.masks.proofs.Choice.{impossible}
use Rattle.rules.specs.declared.Choice.{Choice}
use Rattle.rules.specs.Refusals.{Judged, unless_refused}
use Rattle.rules.proofs.Judging.{is_fine}
use Rattle.rules.specs.Table.{most_rows, table_why}
use Rattle.rules.specs.Desk.{desk_words, well_formed, load_why, load_step, load_desk}
use Rattle.rules.specs.Decide.{decide_why, decide_step, decide_desk}
use Rattle.rules.specs.Rewrite.{rewrite_why, rewrite_step, rewrite_desk}
use Rattle.rules.specs.TakeBack.{take_back_why, take_back_step, take_back_desk}
use Rattle.rules.specs.Bound.{total, desk_why}
use Rattle.rules.specs.Walk.{found_by, walk_in, searched}
use Rattle.rules.specs.Text.{text_why, text_out, table_text}
use Rattle.rules.specs.Reader.{head_at, head_why, read_why, read_step, text_read, read_table}
use Rattle.rules.specs.Program.{answer}
use Rattle.rules.specs.Wcnf.{wcnf_text}
use Rattle.rules.specs.WcnfReader.{wcnf_read_why, wcnf_words, wcnf_table}
use Rattle.rules.specs.WcnfProgram.{wcnf_answer}
use Rattle.rules.specs.Calls.{Call, after_calls}
use Rattle.step_laws.specs.Standing.{standing_calls, AllFine, LoadsRefused}
use Rattle.step_laws.proofs.Runs.{run-weighs, run-standing, run-never-ten, run-formed, run-hard}
use Rattle.step_laws.proofs.Replays.{run-again, run-accepted-again, run-untouched, run-masks}
use Rattle.text_laws.proofs.LentBytes.{text-fine, text-written}
use Rattle.text_laws.proofs.RoundTrip.{round_trip}
use Rattle.text_laws.proofs.Converse.{converse}
use Rattle.telling.specs.Told.{told, told_near, by_text_read}
use Rattle.telling.proofs.Places.{number_small}
use Rattle.demands.specs.Competition.{reader_why}
use Rattle.demands.proofs.Losses.{bound-given, explained}
use Rattle.demands.specs.Demands.{Unchanged, Demand1, Demand2, Kept, Demand3}
use Rattle.demands.proofs.Refusing.{exactly}
use Rattle.demands.proofs.Lines.{says-judged, read_back, by_lines_lem}
use Rattle.demands.proofs.Competing.{says-judged as file-judged, competition}
use Rattle.demands.proofs.Rewriting.{rewriting, judges}
use Rattle.demands.proofs.HardRows.{hard-kept}
use Rattle.demands.proofs.Searching.{search-finished, search-impossible, search-ended, node-cut, readings-in-order, search-stopped}
use Rattle.demands.proofs.Searching.{search-stop-rule}

-- ---- demand 1

-- a refused call leaves what it found
left : (j : Judged) (step found : List ℕ) → Unchanged j found (unless_refused j step found)
left (Ok _) step found r e = impossible (cc)
left (Err q) step found r e = refl

load-left : (n : ℕ) (table : List ℕ) (c : ℕ) (d : List ℕ) → Unchanged (load_why n table c d) d (load_desk n table c d)
unfolding load_desk
load-left n table c d = left (load_why n table c d) (load_step n table c d) d

decide-left : (d : List ℕ) (literal : ℤ) → Unchanged (decide_why d literal) d (decide_desk d literal)
unfolding decide_desk
decide-left d literal = left (decide_why d literal) (decide_step d literal) d

rewrite-left : (d : List ℕ) (kind : ℕ) (named : List ℕ) → Unchanged (rewrite_why d kind named) d (rewrite_desk d kind named)
unfolding rewrite_desk
rewrite-left d kind named = left (rewrite_why d kind named) (rewrite_step d kind named) d

take-back-left : (d : List ℕ) → Unchanged (take_back_why d) d (take_back_desk d)
unfolding take_back_desk
take-back-left d = left (take_back_why d) (take_back_step d) d

read_left : (text table : List ℕ) → Unchanged (by_text_read (text_read most_rows text (length table))) table (read_table most_rows text table)
unfolding read_table read_why
read_left text table r e =
    left (head_why most_rows text (length table) (head_at text)) (read_step text table) table r (sym (says-judged text most_rows (length table)) ∙ e)

text-left : (before : Judged) (text out : List ℕ) → Unchanged (text_why before text out) out (text_out before text out)
unfolding text_out
text-left before text out = left (text_why before text out) (text ++ drop (length text) out) out

read-file-left : (text table : List ℕ) → Unchanged (reader_why most_rows text (length table)) table (wcnf_table most_rows text table)
unfolding wcnf_table
read-file-left text table r e =
    let words = wcnf_words text in
    left (wcnf_read_why most_rows text (length table)) (words ++ drop (length words) table) table r (sym (file-judged most_rows text (length table)) ∙ e)

near-fine : (j : Judged) → told_near j ≡ 0 → j ≡ Ok tt
near-fine (Ok _) e = refl
near-fine (Err r) e = absurd (omega (arith, number_small r, e))

zero-fine : (j : Judged) → told j ≡ 0 → j ≡ Ok tt
zero-fine (Ok _) e = refl
zero-fine (Err r) e = absurd (omega (arith, number_small r, e))

pub demand-1 : Demand1
demand-1 =
    record {
      exactly = exactly;
      accepted = λ j. (zero-fine j, λ e. ap told e);
      number = λ r. omega (arith, number_small r);
      place = λ r. omega (arith, number_small r);
      near = λ r small. omega (arith, small);
      accepted-near = λ j. (near-fine j, λ e. ap told_near e);
      load = load-left;
      decide = decide-left;
      rewrite = rewrite-left;
      take_back = take-back-left;
      read = read_left;
      write = λ n budget table out. text-left (table_why n table) (table_text n budget table) out;
      answer = λ input output. text-left (Ok tt) (answer input) output;
      read_wcnf = read-file-left;
      write_wcnf = λ n table out. text-left (table_why n table) (wcnf_text n table) out;
      answer_wcnf = λ input output. text-left (Ok tt) (wcnf_answer input) output;
    }

-- ---- demand 2

pub demand-2 : Demand2
demand-2 =
    record {
      finished = search-finished;
      no_reading = search-impossible;
      ended = search-ended;
      cuts = node-cut;
      stopped = search-stopped;
      in_order = readings-in-order;
      stop_rule = search-stop-rule;
      rewritten = rewriting;
      judging = judges;
      writes = λ n budget table out fine room.
          let text = table_text n budget table in
          text-written (table_why n table) text out (text-fine (table_why n table) text out fine room);
      reads_back = λ n budget table lent fine b room.
          let r = round_trip n budget table (length lent) (ap is_fine fine) b room in
          (r.answer, read_back most_rows n budget table lent r);
      no_other = λ text lent n budget m table answer words. converse most_rows text (length lent) n budget m answer ∙ ap (table_text n budget) words;
      by_lines = by_lines_lem;
      competition = competition;
    }

-- ---- demand 3

load-laid : (n : ℕ) (table : List ℕ) (c : ℕ) (d : List ℕ) → load_why n table c d ≡ Ok tt → load_desk n table c d ≡ load_step n table c d
unfolding load_desk
load-laid n table c d fine = rw fine

search-given : (d : List ℕ) (choice : Choice) (budget : ℕ) → well_formed d ≡ true
    → searched d choice budget ≡ Ok (found_by (walk_in d choice budget))
unfolding searched desk_why
search-given d choice budget w = rw w

run-kept : (n : ℕ) (table : List ℕ) (c : ℕ) (d : List ℕ) → load_why n table c d ≡ Ok tt → (calls : List Call) → LoadsRefused (load_step n table c d) calls
    → Kept n table c d calls (load_step n table c d) (after_calls (load_step n table c d) calls)
run-kept n table c d fine calls loads =
    let after : List ℕ = after_calls (load_step n table c d) calls in
    let steps : List Call = standing_calls (load_step n table c d) calls in
    let well : well_formed after ≡ true = run-formed n table c d fine calls loads in
    let weights = run-weighs n table c d fine calls loads in
    let masks = run-masks n table c d fine calls loads in
    record {
      weights = weights;
      hard_rows = hard-kept n table c d fine after (run-hard n table c d fine calls loads);
      replayed = λ fresh ok.
          run-again n table c d fresh fine ok calls loads
          ∙ ap (λ (x : List ℕ). take (desk_words c) (after_calls x steps)) (sym (load-laid n table c fresh ok));
      replays_fine = λ fresh ok.
          subst (λ (x : List ℕ). AllFine x steps) (sym (load-laid n table c fresh ok)) (run-accepted-again n table c d fresh fine ok calls loads);
      standing_count = run-standing n table c d fine calls loads;
      decided_stand = masks.0;
      true_stand = masks.1;
      untouched = run-untouched n table c d fine calls loads;
      bounds = λ choice full l answer k. subst (λ (x : ℕ). total l ≤ x) (weights full k) ((explained after choice l answer).least full k);
      never_ten = run-never-ten n table c d fine calls loads;
      bound_given = λ choice. bound-given after choice well;
      search_given = λ choice budget. search-given after choice budget well;
    }

pub demand-3 : Demand3
demand-3 n table c d fine calls loads =
    let laid = load-laid n table c d fine in
    rw laid (run-kept n table c d fine calls (subst (λ (x : List ℕ). LoadsRefused x calls) laid loads))
