-- Document 01, "Load writes the whole desk; words not in use hold 0": a desk that calls have made is clean.
-- (a) to (e) say nothing of these words. Taking back zeroes what it frees, so that only on a clean desk it restores every word.
use Rattle.std.specs.Prelude.{ℕ, ◌≤◌, ◌<◌, ◌≡◌, List, get_or}
use Rattle.rules.specs.Desk.{in_use, capacity, standing, row_place, entry_place, desk_words}

pub record Clean (d : List ℕ) : Type 0 where
  -- the words of rows past those in use
  pub rows : (p : ℕ) → row_place (in_use d) ≤ p → p < row_place (capacity d) → get_or d p 0 ≡ 0
  -- the words of entries past those standing
  pub entries : (p : ℕ) → entry_place d (standing d) ≤ p → p < desk_words (capacity d) → get_or d p 0 ≡ 0
