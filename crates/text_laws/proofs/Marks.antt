-- A line of a mark: a line of its key and a number that is 0 or 1. What is written is read as it, and what is read is written so.
use Rattle.std.specs.Prelude.{Option, Some, None}
use Prim.Native.Nat.{ℕ, ◌+◌, ◌<◌, ◌≤◌}
use mathlib.Core.Path.{◌≡◌, refl, sym, ◌∙◌}
use mathlib.Core.Logic.{⊎_elim}
use mathlib.Core.Bool.{true}
use mathlib.Core.List.{List}
use native.Mathlib.Omega.{arith}
use lib.ListN.{length}
use Rattle.masks.proofs.Choice.{impossible, lt-or-le, some-pair}
use Rattle.rules.specs.Table.{hard_mark}
use Rattle.rules.specs.Reader.{stands, number_line, mark_line}
use Rattle.text_laws.specs.Keys.{hard_key}
use Rattle.text_laws.specs.Pieces.{line_text}
use Rattle.text_laws.proofs.Branches.{mark-no-line, mark-over, mark-is}
use Rattle.text_laws.proofs.Lines.{line_reads}

pub mark-reads : (s : List ℕ) (at m : ℕ) → m ≤ hard_mark → stands s at (line_text hard_key m) ≡ true
    → mark_line s at ≡ Some (m, at + length (line_text hard_key m))
mark-reads s at m l e =
    mark-is s at m (at + length (line_text hard_key m)) (line_reads s at hard_key m (omega arith) e) l

pub record MarkFound (s : List ℕ) (at m next : ℕ) : Type 0 where
  pub line : number_line s at hard_key ≡ Some (m, next)
  pub small : m ≤ hard_mark

pub mark-found : (s : List ℕ) (at m next : ℕ) → mark_line s at ≡ Some (m, next) → MarkFound s at m next
mark-found s at m next e = go (number_line s at hard_key) refl
  where
    go : (r : Option (ℕ × ℕ)) → number_line s at hard_key ≡ r → MarkFound s at m next
    go None p =
        let b = mark-no-line s at p in
        impossible (cc)
    go (Some (n, past)) p =
        ⊎_elim
        (λ (h : hard_mark < n).
        let b = mark-over s at n past p h in
        impossible (cc))
        (λ (h : n ≤ hard_mark).
        let same = some-pair (sym (mark-is s at n past p h) ∙ e) in
        record { line = rw (← same.0, ← same.1) p; small = rw (← same.0) h })
        (lt-or-le hard_mark n)
