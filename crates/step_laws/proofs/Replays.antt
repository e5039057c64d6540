-- A replay from any load of the same table with the same row capacity: each standing step is accepted there, and the desk's own words come out the same.
-- Words past the desk are as they were lent. And the masks of the head are those of the standing decisions.
use Rattle.std.specs.Prelude.{Ok}
use Prim.Native.Nat.{ℕ, ◌+◌, ◌-◌, ◌*◌, ◌≤◌, ◌<◌}
use mathlib.Core.Path.{◌≡◌, refl, sym, ap, ◌∙◌}
use mathlib.Core.Bool.{Bool, true, false, cond}
use mathlib.Core.List.{List, [], ◌∷◌, ◌++◌, append_assoc}
use native.Mathlib.Omega.{arith}
use lib.Bits.{bit_or, or_zero_l, or_zero_r}
use lib.IntN.{ℤ}
use lib.ListN.{length, get_or, take, drop, replicate, length-append, length-drop, length-replicate, get_or-append}
use lib.Seq.{get_or-drop, ext_get_or}
use Rattle.masks.proofs.Sets.{or_assoc}
use Rattle.literals.specs.Literal.{is_positive, bit_of}
use Rattle.rules.specs.Table.{row_words, row_count, weighs}
use Rattle.rules.specs.Desk.{most_steps, entry_words, capacity, decided, truths, row_place, desk_words, load_why, load_step}
use Rattle.rules.specs.Decide.{decide_step}
use Rattle.rules.specs.Rewrite.{rewrite_step}
use Rattle.rules.specs.Calls.{Call, decide, rewrite, take_back, load, after_calls}
use Rattle.step_laws.specs.Standing.{standing_calls, AllFine, LoadsRefused, bits_of, decided_by, true_by}
use Rattle.desk_laws.proofs.Verdicts.{rewrite-fine}
use Rattle.step_laws.proofs.Loads.{load-fine, length-loaded, loaded-capacity, loaded-rest}
use Rattle.step_laws.proofs.Steps.{decide-masks, rewrite-masks}
use Rattle.step_laws.proofs.Alike.{Alike, same-words, decide-alike, decide-again, rewrite-alike, rewrite-again}
use Rattle.step_laws.proofs.Runs.{Reached, laid_out, deciding, rewriting, Known, known, base, made, made_again, run_framed, run_past}

-- ---- two loads

module _ (n : ℕ) (table : List ℕ) (c : ℕ) (d : List ℕ) (fine : load_why n table c d ≡ Ok tt) where
  abbrev zeros : List ℕ
  zeros = replicate (row_words * c - length table + most_steps * entry_words) 0

  abbrev front : List ℕ
  front = n ∷ row_count table ∷ c ∷ 0 ∷ 0 ∷ 0 ∷ 0 ∷ row_count table ∷ (table ++ zeros)

  load-front : load_step n table c d ≡ front ++ drop (desk_words c) d
  unfolding load_step
  load-front =
      ap (λ (x : List ℕ). n ∷ row_count table ∷ c ∷ 0 ∷ 0 ∷ 0 ∷ 0 ∷ row_count table ∷ x) (sym (append_assoc table zeros (drop (desk_words c) d)))

  front_length : length front ≡ desk_words c
  unfolding desk_words row_place
  front_length =
      let ok = load-fine n table c d fine in
      let zs = length-replicate {A = ℕ} (row_words * c - length table + most_steps * entry_words) 0 in
      omega (arith, length-append table zeros, zs, ok.fine.whole, ok.space)

  load_at : (p : ℕ) → p < desk_words c → get_or (load_step n table c d) p 0 ≡ get_or front p 0
  load_at p h =
      ap (λ (x : List ℕ). get_or x p 0) load-front ∙ get_or-append front (drop (desk_words c) d) 0 p (omega (arith, front_length))

  load-long : desk_words c ≤ length (load_step n table c d)
  load-long = let ok = load-fine n table c d fine in rw (length-loaded n table c d ok) ok.long

loads-alike : (n : ℕ) (table : List ℕ) (c : ℕ) (d fresh : List ℕ) → load_why n table c d ≡ Ok tt → load_why n table c fresh ≡ Ok tt
    → Alike c (load_step n table c d) (load_step n table c fresh)
loads-alike n table c d fresh fine ok =
    record {
      long = load-long n table c d fine;
      reach = load-long n table c fresh ok;
      same = λ p h. load_at n table c fresh ok p h ∙ sym (load_at n table c d fine p h);
    }

-- ---- what is reached from the one is reached from the other

record Again (c : ℕ) (start : List ℕ) (x : List ℕ) (calls : List Call) : Type 0 where
  desk : List ℕ
  reached : Reached start desk calls
  alike : Alike c x desk

module _ (n : ℕ) (table : List ℕ) (c : ℕ) (lent fresh : List ℕ) (fine : load_why n table c lent ≡ Ok tt) (ok : load_why n table c fresh ≡ Ok tt) where
  abbrev here : List ℕ
  here = load_step n table c lent

  abbrev there : List ℕ
  there = load_step n table c fresh

  known-here : {x : List ℕ} {calls : List Call} → Reached here x calls → Known here (weighs table) x calls
  known-here m = known here (weighs table) (base n table c lent fine) m

  known-there : {x : List ℕ} {calls : List Call} → Reached there x calls → Known there (weighs table) x calls
  known-there m = known there (weighs table) (base n table c fresh ok) m

  again : {x : List ℕ} {calls : List Call} → Reached here x calls → Again c there x calls
  again laid_out = record { desk = there; reached = laid_out; alike = loads-alike n table c lent fresh fine ok }
  again (deciding {d} m l f) =
      let r = again m in
      let y = r.desk in
      let why = decide-again c d y l r.alike (known-here m).formed (known-there r.reached).formed ∙ f in
      record { desk = decide_step y l; reached = deciding r.reached l why; alike = decide-alike c d y l r.alike }
  again (rewriting {d} m kind named f) =
      let r = again m in
      let y = r.desk in
      let of : capacity d ≡ c = (known-here m).framed.same-capacity ∙ loaded-capacity n table c lent (load-fine n table c lent fine) in
      let plan = rewrite-fine d kind named f in
      let why = rewrite-again c d y kind named r.alike of plan (known-here m).formed (known-there r.reached).formed ∙ f in
      record {
        desk = rewrite_step y kind named;
        reached = rewriting r.reached kind named why;
        alike = rewrite-alike c d y kind named r.alike of plan;
      }

  module _ (calls : List Call) (loads : LoadsRefused here calls) where
    other : Again c there (after_calls here calls) (standing_calls here calls)
    other = again (made n table c lent fine calls loads)

    -- the desk's words are those of the fresh load followed by the standing steps
    pub run-again : take (desk_words c) (after_calls here calls) ≡ take (desk_words c) (after_calls there (standing_calls here calls))
    run-again =
        sym (same-words c (after_calls here calls) other.desk other.alike)
        ∙ ap (take (desk_words c)) (known-there other.reached).replayed

    -- and each of these is accepted there
    pub run-accepted-again : AllFine there (standing_calls here calls)
    run-accepted-again = made_again there (weighs table) (base n table c fresh ok) other.reached

-- words past the desk are as they were lent
pub run-untouched : (n : ℕ) (table : List ℕ) (c : ℕ) (d : List ℕ) (fine : load_why n table c d ≡ Ok tt) (calls : List Call)
    → LoadsRefused (load_step n table c d) calls → drop (desk_words c) (after_calls (load_step n table c d) calls) ≡ drop (desk_words c) d
run-untouched n table c d fine calls loads =
    let after : List ℕ = after_calls (load_step n table c d) calls in
    let long : length after ≡ length d = (run_framed n table c d fine calls loads).long ∙ length-loaded n table c d (load-fine n table c d fine) in
    ext_get_or 0 (drop (desk_words c) after) (drop (desk_words c) d)
    (length-drop (desk_words c) after ∙ ap (λ (k : ℕ). k - desk_words c) long ∙ sym (length-drop (desk_words c) d))
    (λ i h.
    get_or-drop (desk_words c) after i 0
    ∙ run_past n table c d fine calls loads (desk_words c + i) (omega arith)
    ∙ sym (get_or-drop (desk_words c) d i 0))

-- ---- the masks

bits-append : (bit : ℤ → ℕ) (xs ys : List Call) → bits_of bit (xs ++ ys) ≡ bit_or (bits_of bit xs) (bits_of bit ys)
unfolding bits_of
bits-append bit [] ys = sym (or_zero_l (bits_of bit ys))
bits-append bit (decide l ∷ xs) ys =
    ap (bit_or (bit l)) (bits-append bit xs ys) ∙ sym (or_assoc (bit l) (bits_of bit xs) (bits_of bit ys))
bits-append bit (rewrite kind named ∷ xs) ys = bits-append bit xs ys
bits-append bit (take_back ∷ xs) ys = bits-append bit xs ys
bits-append bit (load n table c ∷ xs) ys = bits-append bit xs ys

-- one decision more, one rewriting more
bits-decide : (bit : ℤ → ℕ) (xs : List Call) (l : ℤ) → bits_of bit (xs ++ (decide l ∷ [])) ≡ bit_or (bits_of bit xs) (bit l)
unfolding bits_of
bits-decide bit xs l = bits-append bit xs (decide l ∷ []) ∙ ap (bit_or (bits_of bit xs)) (or_zero_r (bit l))

bits-rewrite : (bit : ℤ → ℕ) (xs : List Call) (kind : ℕ) (named : List ℕ) → bits_of bit (xs ++ (rewrite kind named ∷ [])) ≡ bits_of bit xs
unfolding bits_of
bits-rewrite bit xs kind named = bits-append bit xs (rewrite kind named ∷ []) ∙ or_zero_r (bits_of bit xs)

true-bit : (b : Bool) (m x : ℕ) → cond b (bit_or m x) m ≡ bit_or m (cond b x 0)
true-bit true m x = refl
true-bit false m x = sym (or_zero_r m)

-- a reached desk's masks are those of its standing decisions
module _ (start : List ℕ) (none : (decided start ≡ 0) × (truths start ≡ 0)) where
  pub made-decided : {d : List ℕ} {calls : List Call} → Reached start d calls → decided d ≡ decided_by calls
  unfolding bits_of
  made-decided laid_out = none.0
  made-decided (deciding {d} {calls} m l fine) =
      (decide-masks d l fine).0 ∙ ap (λ (x : ℕ). bit_or x (bit_of l)) (made-decided m) ∙ sym (bits-decide bit_of calls l)
  made-decided (rewriting {d} {calls} m kind named fine) =
      (rewrite-masks d kind named fine).0 ∙ made-decided m ∙ sym (bits-rewrite bit_of calls kind named)

  pub made-true : {d : List ℕ} {calls : List Call} → Reached start d calls → truths d ≡ true_by calls
  unfolding bits_of
  made-true laid_out = none.1
  made-true (deciding {d} {calls} m l fine) =
      let bit : ℤ → ℕ = λ x. cond (is_positive x) (bit_of x) 0 in
      (decide-masks d l fine).1 ∙ true-bit (is_positive l) (truths d) (bit_of l)
      ∙ ap (λ (x : ℕ). bit_or x (bit l)) (made-true m) ∙ sym (bits-decide bit calls l)
  made-true (rewriting {d} {calls} m kind named fine) =
      (rewrite-masks d kind named fine).1 ∙ made-true m ∙ sym (bits-rewrite (λ x. cond (is_positive x) (bit_of x) 0) calls kind named)

module _ (n : ℕ) (table : List ℕ) (c : ℕ) (d : List ℕ) (fine : load_why n table c d ≡ Ok tt) (calls : List Call)
    (loads : LoadsRefused (load_step n table c d) calls) where
  pub run-masks : (decided (after_calls (load_step n table c d) calls) ≡ decided_by (standing_calls (load_step n table c d) calls))
      × (truths (after_calls (load_step n table c d) calls) ≡ true_by (standing_calls (load_step n table c d) calls))
  run-masks =
      let rest = loaded-rest n table c d (load-fine n table c d fine) in
      let reached = made n table c d fine calls loads in
      (made-decided (load_step n table c d) (rest.2, rest.3) reached, made-true (load_step n table c d) (rest.2, rest.3) reached)
