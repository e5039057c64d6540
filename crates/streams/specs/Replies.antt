-- What is written out: the first bytes, as many as the answer has, and they are the answer.
use Rattle.std.specs.Prelude.{ℕ, ◌≤◌, ◌≡◌, List, length, take}

pub record Replies (answer : List ℕ) (n : ℕ) (output : List ℕ) : Type 0 where
  pub within : n ≤ length output
  pub answers : take n output ≡ answer
