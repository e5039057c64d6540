-- What no call on a desk changes: how many words are lent, variables, capacity and rows loaded, and "words past it are never touched".
use Rattle.std.specs.Prelude.{ℕ, ◌≤◌, ◌≡◌, List, length, get_or}
use Rattle.rules.specs.Desk.{variables, capacity, loaded, desk_words}

pub record Framed (d e : List ℕ) : Type 0 where
  pub long : length e ≡ length d
  pub same-variables : variables e ≡ variables d
  pub same-capacity : capacity e ≡ capacity d
  pub same-loaded : loaded e ≡ loaded d
  pub past : (p : ℕ) → desk_words (capacity d) ≤ p → get_or e p 0 ≡ get_or d p 0
