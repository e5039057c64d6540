-- The line of a reading as the bytes that are stored for it, by case, and how long it can be.
use Rattle.std.specs.Prelude.{Option, Some, None}
use Prim.Native.Nat.{ℕ, ◌≤◌}
use mathlib.Core.Path.{◌≡◌, refl}
use mathlib.Core.Bool.{Bool, true, false}
use native.Mathlib.Omega.{arith}
use lib.ListN.{length}
use Rattle.literals.specs.declared.Lits.{Lits}
use Rattle.literals.specs.Literal.{most_variables}
use Rattle.masks.proofs.Choice.{impossible}
use Rattle.rules.specs.declared.Status.{Status}
use Rattle.rules.specs.declared.Best.{Best}
use Rattle.rules.specs.declared.Walked.{Walked}
use Rattle.rules.specs.Walk.{status_of, best_of, found_by}
use Rattle.rules.specs.Text.{bytes, line}
use Rattle.rules.specs.Program.{literals_of, reading_text}
use Rattle.text_laws.specs.Pieces.{list_line}
use Rattle.text_laws.proofs.Pieces.{list_length}
use Rattle.readings.specs.Line.{reading_key, no_reading_line, most_reading_line}

pub reading-none : (n : ℕ) (b : Option Best) → b ≡ None → line "reading=" (reading_text n b) ≡ no_reading_line
unfolding line bytes
reading-none n b e = rw e

pub reading-some : (n : ℕ) (b : Option Best) (w r : ℕ) (l : Lits) → b ≡ Some (record { weight = w; reading = r }) → l ≡ literals_of n r
    → line "reading=" (reading_text n b) ≡ list_line reading_key n l
unfolding line bytes
reading-some n b w r l e f = rw (e, f)

pub reading-length : (n : ℕ) (b : Option Best) → n ≤ most_variables → length (line "reading=" (reading_text n b)) ≤ most_reading_line
unfolding line bytes
reading-length n None h = omega arith
reading-length n (Some best) h =
    omega (arith, list_length reading_key n (literals_of n best.reading))

-- what a walk found says so: impossible is said where none was kept
pub found_none : (s : Walked) → (found_by s).status ≡ Status.Impossible → (found_by s).best ≡ None
found_none s e = go s.stopped s.kept e
  where
    go : (stopped kept : Bool) → status_of stopped kept ≡ Status.Impossible → best_of kept s.best s.reading ≡ None
    go true kept q = impossible (cc)
    go false true q = impossible (cc)
    go false false q = refl
