-- An accepted load: the desk is well formed and clean, no step stands, nothing is conceded or decided, and every reading weighs what it does on the table.
-- The words come in four runs: the head, the table, zeros to the desk's end, and what lay past it; each place is read in its run.
use Rattle.std.specs.Prelude.{Ok}
use Prim.Native.Nat.{ℕ, ◌+◌, ◌-◌, ◌*◌, ◌≤◌, ◌<◌}
use mathlib.Core.Path.{◌≡◌, refl, ap, ap₂, ◌∙◌}
use mathlib.Core.Bool.{Bool, ◌||◌}
use mathlib.Core.List.{List, [], ◌∷◌, ◌++◌}
use native.Mathlib.Nat.{le_refl, zero-add}
use native.Mathlib.Omega.{arith}
use borrow.Author.Tests.{ltb-false}
use lib.Dec.{ltb}
use lib.ListN.{length, get_or, drop, replicate, length-append, length-drop, length-replicate, get_or-replicate, get_or-append}
use lib.Pow.{pow_pos}
use lib.Seq.{get_or-append-add, get_or-drop}
use Rattle.masks.proofs.Choice.{or-none}
use Rattle.masks.proofs.Bits.{below-lt}
use Rattle.masks.specs.Sums.{sum}
use Rattle.masks.proofs.Sets.{zero-without}
use Rattle.masks.proofs.Sums.{sum-ext}
use Rattle.literals.specs.Literal.{most_variables}
use Rattle.rules.specs.declared.Row.{Row}
use Rattle.rules.specs.declared.Refusal.TheVariants.{TooManyVariables, BadTable, BadCapacity, NoRoom, SumTooLarge}
use Rattle.rules.specs.Refusals.{Judged, refuse, in_order}
use Rattle.rules.specs.Table.{row_words, row_of, row_count, given_up, weighs, bad_table, rows_why, sum_too_large, table_why}
use Rattle.rules.specs.Desk.{head_words, most_capacity, most_steps, entry_words, variables, in_use, capacity, standing, conceded, decided, truths, loaded}
use Rattle.rules.specs.Desk.{row_place, entry_place, desk_words, row_on, weight_on, desk_weighs, load_why, load_step}
use Rattle.step_laws.specs.Clean.{Clean}
use Rattle.desk_laws.proofs.Rows.{row-of-words}
use Rattle.desk_laws.proofs.Formed.{Sound, Formed}
use Rattle.rules.proofs.Judging.{refuse-fine}
use Rattle.rules.proofs.Admissible.{RowFine, TableFine, table-fine}

pub record Loaded (n : ℕ) (table : List ℕ) (c : ℕ) (d : List ℕ) : Type 0 where
  pub fine : TableFine n table
  pub space : row_count table ≤ c
  pub roomy : c ≤ most_capacity
  pub long : desk_words c ≤ length d

row-sound : (n : ℕ) (row : Row) → RowFine n row → Sound n row.lits
row-sound n row f =
    record {
      once = f.apart;
      positives = below-lt row.lits.positive n f.positive;
      negatives = below-lt row.lits.negative n f.negative;
    }

pub load-fine : (n : ℕ) (table : List ℕ) (c : ℕ) (d : List ℕ) → load_why n table c d ≡ Ok tt → Loaded n table c d
unfolding load_why table_why
load-fine n table c d e =
    let last : Judged = in_order (rows_why n table (row_count table)) (refuse (sum_too_large table) SumTooLarge (Ok tt)) in
    let room : Judged = refuse (ltb (length d) (desk_words c)) NoRoom last in
    let cap : Bool = ltb c (row_count table) || ltb most_capacity c in
    let a = refuse-fine (ltb most_variables n) TooManyVariables (refuse (bad_table table) BadTable (refuse cap BadCapacity room)) e in
    let b = refuse-fine (bad_table table) BadTable (refuse cap BadCapacity room) a.1 in
    let g = refuse-fine cap BadCapacity room b.1 in
    let h = refuse-fine (ltb (length d) (desk_words c)) NoRoom last g.1 in
    let caps = or-none (ltb c (row_count table)) (ltb most_capacity c) g.0 in
    record {
      fine = table-fine n table (rw (a.0, b.0) h.1);
      space = ltb-false c (row_count table) caps.0;
      roomy = ltb-false most_capacity c caps.1;
      long = ltb-false (length d) (desk_words c) h.0;
    }

module _ (n : ℕ) (table : List ℕ) (c : ℕ) (d : List ℕ) (ok : Loaded n table c d) where
  abbrev after : List ℕ
  after = load_step n table c d

  abbrev zeros : List ℕ
  zeros = replicate (row_words * c - length table + most_steps * entry_words) 0

  abbrev head : List ℕ
  head = n ∷ row_count table ∷ c ∷ 0 ∷ 0 ∷ 0 ∷ 0 ∷ row_count table ∷ []

  -- past the head
  past_head : (k : ℕ) → get_or after (head_words + k) 0 ≡ get_or (table ++ (zeros ++ drop (desk_words c) d)) k 0
  unfolding load_step
  past_head k = get_or-append-add head (table ++ (zeros ++ drop (desk_words c) d)) k 0

  in_table : (k : ℕ) → k < length table → get_or after (head_words + k) 0 ≡ get_or table k 0
  in_table k h = past_head k ∙ get_or-append table (zeros ++ drop (desk_words c) d) 0 k h

  in-zeros : (p : ℕ) → head_words + length table ≤ p → p < desk_words c → get_or after p 0 ≡ 0
  unfolding desk_words row_place
  in-zeros p a b =
      let k : ℕ = p - (head_words + length table) in
      let e : p ≡ head_words + (length table + k) = omega arith in
      let l : k < row_words * c - length table + most_steps * entry_words = omega (arith, ok.fine.whole, ok.space) in
      let z : k < length zeros = rw (length-replicate {A = ℕ} (row_words * c - length table + most_steps * entry_words) 0) l in
      ap (λ (q : ℕ). get_or after q 0) e ∙ past_head (length table + k)
      ∙ get_or-append-add table (zeros ++ drop (desk_words c) d) k 0 ∙ get_or-append zeros (drop (desk_words c) d) 0 k z
      ∙ get_or-replicate (row_words * c - length table + most_steps * entry_words) k 0 0 l

  -- what lay past the desk lies there still
  pub loaded-past : (p : ℕ) → desk_words c ≤ p → get_or after p 0 ≡ get_or d p 0
  unfolding desk_words row_place
  loaded-past p h =
      let m : ℕ = row_words * c - length table + most_steps * entry_words in
      let k : ℕ = p - desk_words c in
      let e : p ≡ head_words + (length table + (length zeros + k)) = omega (arith, length-replicate {A = ℕ} m 0, ok.fine.whole, ok.space) in
      let q : desk_words c + k ≡ p = omega arith in
      ap (λ (x : ℕ). get_or after x 0) e ∙ past_head (length table + (length zeros + k))
      ∙ get_or-append-add table (zeros ++ drop (desk_words c) d) (length zeros + k) 0 ∙ get_or-append-add zeros (drop (desk_words c) d) k 0
      ∙ get_or-drop (desk_words c) d k 0 ∙ ap (λ (x : ℕ). get_or d x 0) q

  pub length-loaded : length after ≡ length d
  unfolding load_step desk_words row_place
  length-loaded =
      let rest : List ℕ = drop (desk_words c) d in
      let m : ℕ = row_words * c - length table + most_steps * entry_words in
      let e : length (table ++ (zeros ++ rest)) ≡ length table + (m + (length d - desk_words c)) =
      length-append table (zeros ++ rest)
      ∙ ap (λ (x : ℕ). length table + x) (length-append zeros rest ∙ ap₂ (λ (x y : ℕ). x + y) (length-replicate {A = ℕ} m 0) (length-drop (desk_words c) d)) in
      omega (arith, ok.fine.whole, ok.space, ok.long)

  pub loaded-row : (i : ℕ) → i < row_count table → row_on after i ≡ row_of table i
  unfolding row_on row_of row_place
  loaded-row i h =
      row-of-words table after (row_words * i) (row_place i)
      (λ k l.
      let at : row_place i + k ≡ head_words + (row_words * i + k) = omega arith in
      rw at (in_table (row_words * i + k) (omega (arith, ok.fine.whole))))

  pub loaded-use : in_use after ≡ row_count table
  unfolding load_step
  loaded-use = refl

  pub loaded-capacity : capacity after ≡ c
  unfolding load_step
  loaded-capacity = refl

  pub loaded-variables : variables after ≡ n
  unfolding load_step
  loaded-variables = refl

  -- nothing stands, nothing is conceded or decided
  pub loaded-rest : (standing after ≡ 0) × (conceded after ≡ 0) × (decided after ≡ 0) × (truths after ≡ 0)
  unfolding load_step
  loaded-rest = (refl, refl, refl, refl)

  pub loaded-loaded : loaded after ≡ row_count table
  unfolding load_step
  loaded-loaded = refl

  pub loaded-formed : Formed after
  unfolding weight_on
  loaded-formed =
      let weights : sum (row_count table) (λ i. (row_on after i).weight) ≡ sum (row_count table) (λ i. (row_of table i).weight) =
      sum-ext (row_count table) (λ i h. ap (λ (r : Row). r.weight) (loaded-row i h)) in
      record {
        roomy = rw loaded-capacity ok.roomy;
        reaching = rw (loaded-capacity, length-loaded) ok.long;
        named = rw loaded-variables ok.fine.variables;
        loads = rw loaded-loaded ok.fine.few;
        kept = rw (loaded-loaded, loaded-use) (le_refl (row_count table));
        fitting = rw (loaded-use, loaded-capacity) ok.space;
        steps = rw loaded-rest.0 (omega arith);
        sound = λ i h.
            let l : i < row_count table = rw loaded-use at h in
            rw (loaded-variables, loaded-row i l) (row-sound n (row_of table i) (ok.fine.rows i l));
        marked = λ i h.
            let l : i < row_count table = rw loaded-use at h in
            rw (loaded-row i l) (ok.fine.rows i l).marked;
        light = rw (loaded-rest.1, loaded-use, weights) (omega (arith, ok.fine.light));
        nested = rw (loaded-rest.2, loaded-rest.3) (zero-without 0);
        within = rw (loaded-rest.2, loaded-variables) (pow_pos n);
      }

  pub loaded-clean : Clean after
  unfolding entry_place desk_words row_place
  loaded-clean =
      record {
        rows = λ p a b.
            let here : row_place (row_count table) ≤ p = rw loaded-use at a in
            let there : p < row_place c = rw loaded-capacity at b in
            in-zeros p (omega (arith, ok.fine.whole)) (omega arith);
        entries = λ p a b.
            let here : row_place c + entry_words * 0 ≤ p = rw (loaded-capacity, loaded-rest.0) at a in
            let there : p < desk_words c = rw loaded-capacity at b in
            in-zeros p (omega (arith, ok.fine.whole, ok.space)) there;
      }

  pub loaded-weighs : (reading : ℕ) → desk_weighs after reading ≡ weighs table reading
  unfolding desk_weighs weighs
  loaded-weighs reading =
      rw (loaded-rest.1, loaded-use)
      (zero-add (sum (row_count table) (λ i. given_up (row_on after i) reading))
      ∙ sum-ext (row_count table) (λ i h. ap (λ (r : Row). given_up r reading) (loaded-row i h)))
