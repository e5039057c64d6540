-- What the table by kind says of the count of rows named.
use Prim.Native.Nat.{ℕ, ◌≤◌}
use mathlib.Core.Path.{◌≡◌}
use mathlib.Core.Bool.{true}
use native.Mathlib.Omega.{arith}
use Rattle.rules.specs.Steps.{fewest, most, fewer_added, count_fits, most_named}
use Rattle.step_laws.proofs.ByKind.{by_kind, counted}
use Rattle.remnants.specs.Rows.{WellNamed}

pub two-named : (kind n : ℕ) → WellNamed kind n → 2 ≤ n
unfolding fewest
two-named kind n w =
    by_kind (λ k. fewest k ≤ n → 2 ≤ n) (λ h. h) (λ h. h) (λ h. h) (λ h. omega arith) kind w.some w.known w.fewest_named

-- a fork's rows
pub four-named : (n : ℕ) → WellNamed 4 n → 4 ≤ n
unfolding fewest
four-named n w = w.fewest_named

pub fewer-named : (kind n : ℕ) → WellNamed kind n → fewer_added kind ≤ n
unfolding fewest fewer_added
fewer-named kind n w =
    by_kind (λ k. fewest k ≤ n → fewer_added k ≤ n) (λ h. omega arith) (λ h. omega arith) (λ h. h) (λ h. omega arith) kind w.some w.known w.fewest_named

pub few-named : (kind n : ℕ) → WellNamed kind n → n ≤ most_named
unfolding most
few-named kind n w =
    by_kind (λ k. n ≤ most k → n ≤ most_named) (λ h. omega arith) (λ h. omega arith) (λ h. omega arith) (λ h. h) kind w.some w.known w.most_named

pub well-named : (kind n : ℕ) → 1 ≤ kind → kind ≤ 4 → count_fits kind n ≡ true → WellNamed kind n
well-named kind n l h e =
    let c = counted kind n e in
    record { some = l; known = h; fewest_named = c.0; most_named = c.1 }
