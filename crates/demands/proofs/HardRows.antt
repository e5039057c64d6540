-- The hard rows of a run. Those of the desk are those of the load (step_laws), and the load's are the table's; a row is broken by its mark and its literals.
use Rattle.std.specs.Prelude.{Ok}
use Prim.Native.Nat.{ℕ, ◌≤◌, ◌<◌}
use mathlib.Core.Path.{◌≡◌, sym, ap, ◌∙◌}
use mathlib.Core.Logic.{⊎_elim}
use mathlib.Core.Bool.{false, not}
use mathlib.Core.List.{List}
use native.Mathlib.Nat.{le_trans}
use Rattle.masks.proofs.Choice.{lt-or-le, clash, same_test}
use Rattle.masks.proofs.Sums.{every-at, every_true}
use Rattle.rules.specs.declared.Row.{Row}
use Rattle.rules.specs.Table.{row_of, row_count, is_hard, breaks, hard_hold}
use Rattle.rules.specs.Desk.{in_use, row_on, load_why, load_step, hard_hold_on}
use Rattle.step_laws.specs.HardRows.{HardStay}
use Rattle.step_laws.proofs.Loads.{load-fine, loaded-row, loaded-use}
use Rattle.demands.specs.HardRows.{HardKept}

same-hard : (r s : Row) → s.mark ≡ r.mark → is_hard s ≡ is_hard r
unfolding is_hard
same-hard r s e = rw e

same-broken : (r s : Row) (full : ℕ) → s.mark ≡ r.mark → s.lits ≡ r.lits → breaks s full ≡ breaks r full
unfolding breaks is_hard
same-broken r s full e l = rw (e, l)

-- a soft row is not broken
soft-whole : (r : Row) (full : ℕ) → is_hard r ≡ false → breaks r full ≡ false
unfolding breaks
soft-whole r full e = rw e

module _ (n : ℕ) (table : List ℕ) (c : ℕ) (d : List ℕ) (fine : load_why n table c d ≡ Ok tt) (after : List ℕ)
    (stay : HardStay (load_step n table c d) after) where
  use-start : in_use (load_step n table c d) ≡ row_count table
  use-start = loaded-use n table c d (load-fine n table c d fine)

  row-start : (i : ℕ) → i < row_count table → row_on (load_step n table c d) i ≡ row_of table i
  row-start = loaded-row n table c d (load-fine n table c d fine)

  used : (i : ℕ) → i < row_count table → i < in_use (load_step n table c d)
  used i l = rw use-start l

  more : row_count table ≤ in_use after
  more = rw use-start at stay.more

  mark : (i : ℕ) → i < row_count table → (row_on after i).mark ≡ (row_of table i).mark
  mark i l = stay.marks i (used i l) ∙ ap (λ (r : Row). r.mark) (row-start i l)

  lits : (i : ℕ) → i < row_count table → (row_on after i).lits ≡ (row_of table i).lits
  lits i l = stay.lits i (used i l) ∙ ap (λ (r : Row). r.lits) (row-start i l)

  beyond : (i : ℕ) → row_count table ≤ i → i < in_use after → is_hard (row_on after i) ≡ false
  beyond i l m = stay.soft i (rw use-start l) m

  broken : (full i : ℕ) → i < row_count table → breaks (row_on after i) full ≡ breaks (row_of table i) full
  broken full i l = same-broken (row_of table i) (row_on after i) full (mark i l) (lits i l)

  hold : (full : ℕ) → hard_hold_on after full ≡ hard_hold table full
  unfolding hard_hold_on hard_hold
  hold full =
      same_test
      (λ all. every_true (row_count table)
      (λ i l. sym (ap not (broken full i l)) ∙ every-at (in_use after) (λ i. not (breaks (row_on after i) full)) all i (le_trans l more)))
      (λ all. every_true (in_use after)
      (λ i l.
      ⊎_elim
      (λ k. ap not (broken full i k) ∙ every-at (row_count table) (λ i. not (breaks (row_of table i) full)) all i k)
      (λ k. ap not (soft-whole (row_on after i) full (beyond i k l)))
      (lt-or-le i (row_count table))))

  pub hard-kept : HardKept table after
  hard-kept =
      record {
        in_use_still = more;
        rows = λ i l h. stay.whole i (used i l) (ap is_hard (row-start i l) ∙ h) ∙ row-start i l;
        no_other = λ i l h.
            ⊎_elim
            (λ k. (k, sym (same-hard (row_of table i) (row_on after i) (mark i k)) ∙ h))
            (λ k. absurd (clash h (beyond i k l)))
            (lt-or-le i (row_count table));
        broken = broken;
        hold = hold;
      }
