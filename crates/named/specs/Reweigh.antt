-- What `inner::reweigh` asks and what it leaves: the named rows are distinct and on the desk, and their weights lose or regain w.
use Rattle.std.specs.Prelude.{ℕ, ◌+◌, ◌-◌, ◌*◌, ◌^◌, ◌≤◌, ◌<◌, ◌≡◌, List, Bool, cond, length, get_or}
use Rattle.rules.specs.Table.{row_words}
use Rattle.rules.specs.Desk.{head_words, row_on}
use Rattle.rules.specs.Steps.{reweighed}

pub record Reweighable (d named : List ℕ) (w : ℕ) (regain : Bool) : Type 0 where
  pub inside : (i : ℕ) → i < length named → head_words + row_words * (get_or named i 0 + 1) ≤ length d
  pub apart : (i j : ℕ) → i < j → j < length named → get_or named i 0 ≡ get_or named j 0 → ⊥
  pub fits : (i : ℕ) → i < length named → cond regain ((row_on d (get_or named i 0)).weight + w) (row_on d (get_or named i 0)).weight < 2 ^ 64
  pub holds : (i : ℕ) → i < length named → cond regain 0 w ≤ (row_on d (get_or named i 0)).weight

abbrev pub new_weight : ℕ → Bool → ℕ → ℕ
new_weight w regain x = cond regain (x + w) (x - w)

abbrev pub named_reweighed : List ℕ → List ℕ → ℕ → Bool → List ℕ
named_reweighed d named w regain = reweighed (new_weight w regain) (λ i. get_or named i 0) d (length named)
