-- No answer is longer than its lines can be.
use Rattle.std.specs.Prelude.{Result, Ok, Err}
use Prim.Native.Nat.{ℕ, ◌≤◌}
use mathlib.Core.Path.{refl}
use mathlib.Core.List.{◌++◌}
use native.Mathlib.Omega.{arith}
use lib.ListN.{length, length-append}
use Rattle.literals.specs.Literal.{most_variables}
use Rattle.rules.specs.declared.Refusal.{Refusal}
use Rattle.rules.specs.declared.Found.{Found}
use Rattle.rules.specs.declared.Outcome.{Outcome}
use Rattle.rules.specs.Refusals.{numbered, number_of, place_of}
use Rattle.rules.specs.Text.{number_text}
use Rattle.rules.specs.WcnfProgram.{statement_text, wcnf_refusal_text, best_weight_text, values_text, wcnf_found_text, wcnf_outcome_text}
use Rattle.text_laws.specs.Pieces.{line_text}
use Rattle.text_laws.proofs.Pieces.{number-length, line-length}
use Rattle.readings.specs.Line.{Counted}
use Rattle.wcnf_lines.specs.Keys.{place_key, unknown_line, nodes_key}
use Rattle.wcnf_lines.specs.Lengths.{most_answer}
use Rattle.wcnf_lines.proofs.Written.{refusal_is, found-is, weight-length, statement-length, values_length}

pub refusal-length : (r : Refusal) → length (wcnf_refusal_text r) ≤ most_answer
refusal-length r =
    let n = number_text (number_of r) in
    let p = line_text place_key (place_of r) in
    rw (refusal_is r (numbered r) refl, length-append n (p ++ unknown_line), length-append p unknown_line)
    (omega (arith, number-length (number_of r), line-length place_key (place_of r)))

pub found-length : (n : ℕ) (f : Found) → n ≤ most_variables → length (wcnf_found_text n f) ≤ most_answer
found-length n f h =
    let k = line_text nodes_key f.nodes in
    let w = best_weight_text f.best in
    let s = statement_text f.status in
    let v = values_text n f.best in
    let nodes = line-length nodes_key f.nodes in
    let weight = weight-length f.best in
    let statement = statement-length f.status in
    let values = values_length n f.best h in
    rw (found-is n f, length-append k (w ++ (s ++ v)), length-append w (s ++ v), length-append s v) (omega arith)

pub outcome-length : (o : Result Outcome Refusal) → Counted o → length (wcnf_outcome_text o) ≤ most_answer
outcome-length (Ok o) h = found-length o.variables o.found h.0
outcome-length (Err r) h = refusal-length r
