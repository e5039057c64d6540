-- Load and search, of a desk's head and rows: what is refused, and what is read of them as it would be of the whole desk.
use Rattle.std.specs.Prelude.{Ok, Err}
use Prim.Native.Nat.{ℕ, ◌+◌, ◌*◌, ◌≤◌}
use mathlib.Core.Path.{◌≡◌, ap, ◌∙◌}
use mathlib.Core.Bool.{true}
use mathlib.Core.List.{List}
use native.Mathlib.Omega.{arith}
use lib.ListN.{length, take, drop, replicate}
use Rattle.rules.specs.declared.Choice.{Choice}
use Rattle.rules.specs.declared.Refusal.{Refusal}
use Rattle.rules.specs.Refusals.{Judged}
use Rattle.rules.specs.declared.Found.{Found}
use Rattle.rules.specs.declared.Losses.{Losses}
use Rattle.rules.specs.declared.Part.{Part}
use Rattle.rules.specs.Table.{row_words}
use Rattle.rules.specs.Desk.{head_words, in_use, row_place, desk_words, well_formed, load_step, decisions}
use Rattle.rules.specs.Bound.{losses_at}
use Rattle.rules.specs.Walk.{walk_in, found_by}
use Rattle.rules.specs.Program.{program_desk, table_outcome}
use Rattle.rules.proofs.Judging.{words-fine}
use Rattle.desk_laws.proofs.Formed.{formed}
use Rattle.desk_laws.proofs.Alike.{front-alike}
use Rattle.step_laws.proofs.Steps.{load-formed}
use Rattle.text_laws.proofs.Matched.{matched}
use Rattle.walk_laws.proofs.Alike.{losses-alike, walk-alike}
use Rattle.desk.specs.Front.{front_why, front_step, front_desk}
use Rattle.desk.proofs.Fronts.{front-count}
use Rattle.desk_laws.specs.Readable.{Readable}
use Rattle.desk_laws.proofs.Readable.{readable, readable-front}

module _ (n b m : ℕ) (words : List ℕ) (long : length words ≡ head_words + row_words * m) where
  pub not-loaded : (j : Judged) (r : Refusal) → j ≡ front_why n m words → j ≡ Err r
      → Err r ≡ table_outcome n b m (drop head_words words)
  unfolding front_why
  not-loaded j r why e = let f : front_why n m words ≡ Err r = matched why e in rw f

  module _ (j : Judged) (after : List ℕ) (why : j ≡ front_why n m words) (fine : j ≡ Ok tt) (made : after ≡ front_desk n m words) where
    -- where the rows of the program's desk end
    ends : row_place (in_use (program_desk n m (drop head_words words))) ≤ row_place m
    unfolding program_desk load_step row_place
    ends = omega (arith, front-count n m words long)

    formed-whole : well_formed (program_desk n m (drop head_words words)) ≡ true
    unfolding program_desk front_why
    formed-whole = load-formed n (drop head_words words) m (replicate (desk_words m) 0) (matched why fine)

    front : after ≡ take (row_place m) (program_desk n m (drop head_words words))
    unfolding program_desk front_desk front_step
    front = made ∙ words-fine (front_why n m words) (front_step n m words) words (matched why fine)

    within : row_place m ≤ length (program_desk n m (drop head_words words))
    unfolding program_desk load_step desk_words
    within = omega (arith, (formed _ formed-whole).reaching)

    pub front-readable : Readable after
    front-readable = rw front (readable-front (readable _ formed-whole) (row_place m) ends within)

    pub loaded : (p : Part) (root : Losses) (found : Found) → p ≡ decisions after → root ≡ losses_at after p → found ≡ found_by (walk_in after Choice.Units b)
        → Ok (record { variables = n; root = root; found = found }) ≡ table_outcome n b m (drop head_words words)
    unfolding front_why
    loaded p root found is e g =
        let d = program_desk n m (drop head_words words) in
        let f : front_why n m words ≡ (Ok tt) = matched why fine in
        let alike = front-alike d (row_place m) ends in
        let rooted : root ≡ losses_at d (decisions d) =
        e ∙ ap (losses_at after) is ∙ ap (λ (x : List ℕ). losses_at x (decisions x)) front ∙ losses-alike alike in
        let same : found ≡ found_by (walk_in d Choice.Units b) =
        g ∙ ap (λ (x : List ℕ). found_by (walk_in x Choice.Units b)) front ∙ ap found_by (walk-alike alike b) in
        rw (rooted, same, f)
