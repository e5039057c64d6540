-- The lines of an answer as the bytes that are stored for them, by case, and how long the first two of a search can be.
use Rattle.std.specs.Prelude.{Option, Some, None}
use Prim.Native.Nat.{ℕ, ◌+◌, ◌≤◌}
use mathlib.Core.Path.{◌≡◌, refl}
use mathlib.Core.List.{◌++◌}
use native.Mathlib.Omega.{arith}
use lib.ListN.{length, length-append}
use Rattle.rules.specs.declared.Numbered.{Numbered}
use Rattle.rules.specs.declared.Refusal.{Refusal}
use Rattle.rules.specs.declared.Status.{Status}
use Rattle.rules.specs.declared.Best.{Best}
use Rattle.rules.specs.declared.Found.{Found}
use Rattle.rules.specs.declared.Losses.{Losses}
use Rattle.rules.specs.Refusals.{numbered}
use Rattle.rules.specs.Text.{bytes, line}
use Rattle.rules.specs.Program.{refusal_text, status_text, weight_text, reading_text, losses_text, found_text}
use Rattle.text_laws.specs.Keys.{weight_key}
use Rattle.text_laws.specs.Pieces.{line_text}
use Rattle.text_laws.proofs.Pieces.{line-length}
use Rattle.answer_lines.specs.Keys.{refused_line, done_line, stopped_line, impossible_line, no_weight_line, number_key, place_key, nodes_key}
use Rattle.answer_lines.specs.Keys.{conceded_key, lost_key, foreseen_key}
use Rattle.answer_lines.specs.Lengths.{most_status_line, most_weight_line, most_losses_lines}

-- ---- the lines by case

pub refusal_is : (why : Refusal) (told : Numbered) → told ≡ numbered why
    → refusal_text why ≡ refused_line ++ (line_text number_key told.0 ++ line_text place_key told.1)
unfolding refusal_text line bytes line_text
refusal_is why told e = rw e

pub status-done : (s : Status) → s ≡ Status.Done → line "status=" (status_text s) ≡ done_line
unfolding line bytes
status-done s e = rw e

pub status-stopped : (s : Status) → s ≡ Status.Stopped → line "status=" (status_text s) ≡ stopped_line
unfolding line bytes
status-stopped s e = rw e

pub status-impossible : (s : Status) → s ≡ Status.Impossible → line "status=" (status_text s) ≡ impossible_line
unfolding line bytes
status-impossible s e = rw e

pub weight-none : (b : Option Best) → b ≡ None → line "weight=" (weight_text b) ≡ no_weight_line
unfolding line bytes
weight-none b e = rw e

pub weight-some : (b : Option Best) (w r : ℕ) → b ≡ Some (record { weight = w; reading = r }) → line "weight=" (weight_text b) ≡ line_text weight_key w
unfolding line bytes line_text
weight-some b w r e = rw e

pub losses-is : (l : Losses)
    → losses_text l ≡ line_text conceded_key l.conceded ++ (line_text lost_key l.lost ++ line_text foreseen_key l.foreseen)
unfolding losses_text line bytes line_text
losses-is l = refl

pub found-is : (n : ℕ) (root : Losses) (f : Found)
    → found_text n root f
    ≡ line "status=" (status_text f.status)
    ++ (line "weight=" (weight_text f.best)
    ++ (line_text nodes_key f.nodes
    ++ (line "reading=" (reading_text n f.best)
    ++ losses_text root)))
unfolding found_text line bytes line_text
found-is n root f = refl

-- ---- how long they are

pub status-length : (s : Status) → length (line "status=" (status_text s)) ≤ most_status_line
unfolding line bytes
status-length Status.Done = omega arith
status-length Status.Stopped = omega arith
status-length Status.Impossible = omega arith

pub weight-length : (b : Option Best) → length (line "weight=" (weight_text b)) ≤ most_weight_line
unfolding line bytes line_text
weight-length None = omega arith
weight-length (Some best) = line-length weight_key best.weight

-- together: impossible is the longest, but has no weight
pub two-length : (s : Status) (b : Option Best) → (s ≡ Status.Impossible → b ≡ None)
    → length (line "status=" (status_text s)) + length (line "weight=" (weight_text b)) ≤ length stopped_line + most_weight_line
two-length Status.Done b h = rw (status-done Status.Done refl) (omega (arith, weight-length b))
two-length Status.Stopped b h = rw (status-stopped Status.Stopped refl) (omega (arith, weight-length b))
two-length Status.Impossible b h = rw (status-impossible Status.Impossible refl, weight-none b (h refl)) (omega arith)

pub losses-length : (l : Losses) → length (losses_text l) ≤ most_losses_lines
losses-length l =
    let a = line_text conceded_key l.conceded in
    let b = line_text lost_key l.lost in
    let c = line_text foreseen_key l.foreseen in
    rw (losses-is l, length-append a (b ++ c), length-append b c)
    (omega (arith, line-length conceded_key l.conceded, line-length lost_key l.lost, line-length foreseen_key l.foreseen))
