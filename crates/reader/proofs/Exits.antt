-- Where a `?` leaves for want of a line: with the number of the line. And what a call gave, of which the line that breaks the form was made a
-- refusal of the text.
use Rattle.std.specs.Prelude.{ℕ, Option, None, Result, Ok, Err}
use Rattle.std.specs.Option.{ok_or}
use Rattle.std.specs.Result.{IsErrAnd, MatchResult}
use mathlib.Core.Path.{◌≡◌, refl, sym, ap, ◌∙◌}
use Rattle.masks.proofs.Choice.{impossible, ok-same, handed-on}
use Rattle.rules.specs.declared.Refusal.{Refusal}
use Rattle.rules.specs.declared.Refusal.TheVariants.{BadText}

pub no_line : {T S E : Type 0} {o : Option T} {why e : E} (r : Result S E) → IsErrAnd r (λ y. y ≡ e) → ◌≡◌ {A = Result T E} (Err e) (ok_or o why) → o ≡ None
    → r ≡ Err why
no_line {why = why} {e = e} r h value none = handed-on r e h ∙ cc

pub text-fine : {T : Type 0} {x : T} (r : Result T ℕ)
    → MatchResult r (λ y. ◌≡◌ {A = Result T Refusal} (Ok x) (Ok y)) (λ e. IsErrAnd {T = T} {E = Refusal} (Ok x) (λ d. d ≡ BadText e)) → r ≡ Ok x
text-fine (Ok y) h = sym (ap Ok (ok-same h))
text-fine (Err e) h = absurd h

pub text-broken : {T : Type 0} {d : Refusal} (r : Result T ℕ)
    → MatchResult r (λ y. ◌≡◌ {A = Result T Refusal} (Err d) (Ok y)) (λ e. IsErrAnd {T = T} {E = Refusal} (Err d) (λ x. x ≡ BadText e))
    → (e : ℕ) × (r ≡ Err e) × (d ≡ BadText e)
text-broken (Ok y) h = impossible (cc)
text-broken (Err e) h = (e, refl, h)
