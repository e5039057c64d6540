-- No answer is longer than its lines can be.
use Rattle.std.specs.Prelude.{None, Result, Ok, Err}
use Prim.Native.Nat.{ℕ, ◌≤◌}
use mathlib.Core.Path.{◌≡◌, refl}
use mathlib.Core.List.{◌++◌}
use native.Mathlib.Omega.{arith}
use lib.ListN.{length, length-append}
use Rattle.literals.specs.Literal.{most_variables}
use Rattle.rules.specs.declared.Refusal.{Refusal}
use Rattle.rules.specs.declared.Status.{Status}
use Rattle.rules.specs.declared.Found.{Found}
use Rattle.rules.specs.declared.Losses.{Losses}
use Rattle.rules.specs.declared.Outcome.{Outcome}
use Rattle.rules.specs.Refusals.{numbered, number_of, place_of}
use Rattle.rules.specs.Text.{line}
use Rattle.rules.specs.Program.{refusal_text, status_text, weight_text, reading_text, losses_text, found_text, outcome_text}
use Rattle.text_laws.specs.Pieces.{line_text}
use Rattle.text_laws.proofs.Pieces.{line-length}
use Rattle.readings.specs.Line.{Counted}
use Rattle.readings.proofs.Cases.{reading-length}
use Rattle.answer_lines.specs.Keys.{number_key, place_key, nodes_key}
use Rattle.answer_lines.specs.Lengths.{most_answer}
use Rattle.answer_lines.proofs.Written.{refusal_is, found-is, two-length, losses-length}

pub refusal-length : (r : Refusal) → length (refusal_text r) ≤ most_answer
refusal-length r =
    let n = line_text number_key (number_of r) in
    let p = line_text place_key (place_of r) in
    rw (refusal_is r (numbered r) refl, length-append n p)
    (omega (arith, line-length number_key (number_of r), line-length place_key (place_of r)))

pub found-length : (n : ℕ) (root : Losses) (f : Found) → n ≤ most_variables → (f.status ≡ Status.Impossible → f.best ≡ None)
    → length (found_text n root f) ≤ most_answer
found-length n root f h bare =
    let s = line "status=" (status_text f.status) in
    let w = line "weight=" (weight_text f.best) in
    let k = line_text nodes_key f.nodes in
    let r = line "reading=" (reading_text n f.best) in
    let two = two-length f.status f.best bare in
    let nodes = line-length nodes_key f.nodes in
    let reading = reading-length n f.best h in
    let l = losses_text root in
    let losses = losses-length root in
    rw (found-is n root f, length-append s (w ++ (k ++ (r ++ l))), length-append w (k ++ (r ++ l)), length-append k (r ++ l), length-append r l) (omega arith)

pub outcome-length : (o : Result Outcome Refusal) → Counted o → length (outcome_text o) ≤ most_answer
outcome-length (Ok o) h = found-length o.variables o.root o.found h.0 h.1
outcome-length (Err r) h = refusal-length r
