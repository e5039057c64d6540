-- What a rewriting that fits lays, kind by kind: the rows that it gives, without the empty ones, and the room that they take.
use Prim.Native.Nat.{ℕ, ◌+◌, ◌-◌, ◌*◌, ◌≤◌}
use mathlib.Core.Path.{◌≡◌, sym, ap, ◌∙◌}
use mathlib.Core.List.{List}
use native.Mathlib.Omega.{arith}
use lib.ListN.{length}
use Rattle.literals.specs.declared.Lits.{Lits}
use Rattle.rules.specs.Table.{row_words}
use Rattle.rules.specs.Desk.{head_words}
use Rattle.rules.specs.Rewrite.{gives, given, laid, compensating}
use Rattle.rules.specs.Steps.{remnant_of, stored, fewest, fewer_added, concedes}
use Rattle.remnants.specs.Rows.{fork_end}
use Rattle.laying.specs.Room.{Fitting, fork_rows}
use Rattle.laying.proofs.Laying.{stored-all, stored-behind}

module _ (d named : List ℕ) (first : ℕ) where
  abbrev f : ℕ → Lits
  f = remnant_of d named

  abbrev n : ℕ
  n = length named

  pub room-merge : Fitting d 1 named first → head_words + row_words * (first + 1) ≤ length d
  unfolding fewer_added fewest
  room-merge p = omega (arith, p.room, p.count.fewest_named)

  pub room-shift : Fitting d 2 named first → head_words + row_words * (first + 2) ≤ length d
  unfolding fewer_added fewest
  room-shift p = omega (arith, p.room, p.count.fewest_named)

  pub room-chain : Fitting d 3 named first → head_words + row_words * (first + (n - 2)) ≤ length d
  unfolding fewer_added
  room-chain p = p.room

  pub room-fork : Fitting d 4 named first → head_words + row_words * (first + (n - 2)) ≤ length d
  unfolding fewer_added
  room-fork p = p.room

  pub laid-shift : (w : ℕ) {e : List ℕ} → Fitting d 2 named first → e ≡ laid d first w (given d 2 named) → e ≡ laid d first w (stored (given d 2 named))
  unfolding concedes
  laid-shift w p here = here ∙ ap (laid d first w) (sym (stored-all (given d 2 named) (p.full (λ q. omega arith))))

  pub laid-chain : (w : ℕ) {e : List ℕ} → Fitting d 3 named first → e ≡ laid d first w (compensating f (n - 2)) → e ≡ laid d first w (stored (given d 3 named))
  unfolding concedes given gives
  laid-chain w p here = here ∙ ap (laid d first w) (sym (stored-behind (compensating f (n - 2)) (p.full (λ q. omega arith))))

  pub laid-fork : (w : ℕ) {e : List ℕ} → Fitting d 4 named first → e ≡ laid d first w (fork_rows d named) → e ≡ laid d first w (stored (given d 4 named))
  unfolding concedes given gives fork_rows fork_end
  laid-fork w p here = here ∙ ap (laid d first w) (sym (stored-behind (fork_rows d named) (p.full (λ q. omega arith))))
