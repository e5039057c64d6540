-- The entry of a rewriting, from one that names no row yet: the named rows take the first places, and 0 stays in those not needed.
use Prim.Native.Nat.{ℕ, zero, suc, ◌+◌, ◌-◌, ◌≤◌}
use mathlib.Core.Path.{◌≡◌, sym, ap, ◌∙◌}
use mathlib.Core.List.{List, [], ◌∷◌, ◌++◌}
use native.Mathlib.Omega.{arith}
use lib.ListN.{length, drop, replicate}
use lib.Seq.{sets, sets-eq, drop-drop, drop-append-le, drop-nil}
use Rattle.rules.specs.Rewrite.{rewriting_entry}
use Rattle.rules.specs.Steps.{most_named}

drop-replicate : (m n : ℕ) → drop n (replicate {A = ℕ} m 0) ≡ replicate (m - n) 0
drop-replicate zero n =
    let e : 0 ≡ 0 - n = omega arith in
    drop-nil n ∙ ap (λ (k : ℕ). replicate {A = ℕ} k 0) e
drop-replicate (suc m) zero =
    let e : suc m ≡ suc m - 0 = omega arith in
    ap (λ (k : ℕ). replicate {A = ℕ} k 0) e
drop-replicate (suc m) (suc n) =
    let e : m - n ≡ suc m - suc n = omega arith in
    drop-replicate m n ∙ ap (λ (k : ℕ). replicate {A = ℕ} k 0) e

-- an entry that names no row yet
abbrev pub blank : ℕ → ℕ → ℕ → ℕ → List ℕ
blank kind w n first = kind ∷ w ∷ n ∷ (replicate {A = ℕ} 12 0 ++ (first ∷ []))

pub entry_whole : (kind w first : ℕ) (named : List ℕ) → length named ≤ most_named
    → sets (blank kind w (length named) first) 3 named ≡ rewriting_entry kind w named first
unfolding rewriting_entry
entry_whole kind w first named h =
    let n = length named in
    let rest : drop (3 + n) (blank kind w n first) ≡ replicate (most_named - n) 0 ++ (first ∷ []) =
    sym (drop-drop n 3 (blank kind w n first))
    ∙ drop-append-le n (replicate {A = ℕ} 12 0) (first ∷ []) h
    ∙ ap (λ (l : List ℕ). l ++ (first ∷ [])) (drop-replicate 12 n) in
    sets-eq named (blank kind w n first) 3 (omega arith) ∙ ap (λ (l : List ℕ). kind ∷ w ∷ n ∷ (named ++ l)) rest
