-- The lines of an answer as the bytes that are stored for them, by case, and how long each can be.
use Rattle.std.specs.Prelude.{Option, Some, None}
use Prim.Native.Nat.{ℕ, ◌≤◌}
use mathlib.Core.Path.{◌≡◌, refl, ap, ◌∙◌}
use mathlib.Core.List.{List, [], ◌∷◌, ◌++◌, append_assoc}
use native.Mathlib.Omega.{arith}
use lib.ListN.{length, length-append}
use Rattle.literals.specs.declared.Lits.{Lits}
use Rattle.literals.specs.Literal.{most_variables}
use Rattle.rules.specs.declared.Numbered.{Numbered}
use Rattle.rules.specs.declared.Refusal.{Refusal}
use Rattle.rules.specs.declared.Status.{Status}
use Rattle.rules.specs.declared.Best.{Best}
use Rattle.rules.specs.declared.Found.{Found}
use Rattle.rules.specs.Refusals.{numbered, number_of, place_of}
use Rattle.rules.specs.Text.{bytes, line, number_text, line_feed}
use Rattle.rules.specs.Wcnf.{spaced_lits}
use Rattle.rules.specs.Program.{literals_of}
use Rattle.rules.specs.WcnfProgram.{statement_text, wcnf_refusal_text, best_weight_text, values_text, wcnf_found_text}
use Rattle.text_laws.specs.Pieces.{line_text}
use Rattle.text_laws.proofs.Pieces.{line-length}
use Rattle.spaced_written.proofs.Pieces.{spaced-length}
use Rattle.wcnf_lines.specs.Keys.{refused_key, place_key, unknown_line, found_line, impossible_line, nodes_key, weight_key, values_key}
use Rattle.wcnf_lines.specs.Lengths.{most_weight_line, most_statement_line, most_values_line}

-- ---- the lines by case

pub refusal_is : (why : Refusal) (told : Numbered) → told ≡ numbered why
    → wcnf_refusal_text why ≡ refused_key ++ (number_text told.0 ++ (line_text place_key told.1 ++ unknown_line))
unfolding wcnf_refusal_text line bytes line_text
refusal_is why told e =
    rw e
    (let n = number_text (number_of why) in
    let p = number_text (place_of why) in
    let end : List ℕ = line_feed ∷ [] in
    ap (λ (x : List ℕ). refused_key ++ x)
    (ap (λ (x : List ℕ). x ++ unknown_line) (append_assoc n (place_key ++ p) end ∙ ap (λ (x : List ℕ). n ++ x) (append_assoc place_key p end))
    ∙ append_assoc n (place_key ++ (p ++ end)) unknown_line))

pub weight-some : (b : Option Best) (w r : ℕ) → b ≡ Some (record { weight = w; reading = r }) → best_weight_text b ≡ line_text weight_key w
unfolding line bytes line_text
weight-some b w r e = rw e

pub statement-done : (s : Status) → s ≡ Status.Done → statement_text s ≡ found_line
unfolding line bytes
statement-done s e = rw e

pub statement-stopped : (s : Status) → s ≡ Status.Stopped → statement_text s ≡ unknown_line
unfolding line bytes
statement-stopped s e = rw e

pub statement-impossible : (s : Status) → s ≡ Status.Impossible → statement_text s ≡ impossible_line
unfolding line bytes
statement-impossible s e = rw e

pub values-some : (n : ℕ) (b : Option Best) (w r : ℕ) (l : Lits) → b ≡ Some (record { weight = w; reading = r }) → l ≡ literals_of n r
    → values_text n b ≡ values_key ++ (spaced_lits 0 n l ++ (line_feed ∷ []))
unfolding line bytes
values-some n b w r l e f = rw (e, f)

pub found-is : (n : ℕ) (f : Found)
    → wcnf_found_text n f ≡ line_text nodes_key f.nodes ++ (best_weight_text f.best ++ (statement_text f.status ++ values_text n f.best))
unfolding wcnf_found_text line bytes line_text
found-is n f = refl

-- ---- how long they are

pub weight-length : (b : Option Best) → length (best_weight_text b) ≤ most_weight_line
unfolding line bytes line_text
weight-length None = omega arith
weight-length (Some best) = line-length weight_key best.weight

pub statement-length : (s : Status) → length (statement_text s) ≤ most_statement_line
unfolding line bytes
statement-length Status.Done = omega arith
statement-length Status.Stopped = omega arith
statement-length Status.Impossible = omega arith

pub values_length : (n : ℕ) (b : Option Best) → n ≤ most_variables → length (values_text n b) ≤ most_values_line
unfolding line bytes
values_length n None h = omega arith
values_length n (Some best) h =
    let lits = spaced_lits 0 n (literals_of n best.reading) in
    rw (length-append lits (line_feed ∷ [])) (omega (arith, spaced-length n (literals_of n best.reading)))
