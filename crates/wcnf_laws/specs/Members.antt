-- What a text of the form says, clause by clause, and texts that say the same but for the order and the repeats of their literals.
use Rattle.std.specs.Prelude.{ℕ, ◌<◌, ℤ, pos, neg_ℤ}
use mathlib.Core.List.{List, [], ◌∷◌, Memᴰ}
use Rattle.literals.specs.Literal.{size}

-- each member of one list is one of the other
pub record SameMembers (ls ms : List ℤ) : Type 0 where
  pub there : (l : ℤ) → Memᴰ l ls → Memᴰ l ms
  pub back : (l : ℤ) → Memᴰ l ms → Memᴰ l ls

-- 5: "A variable both ways or above the header's count"
pub record Above (variables : ℕ) (ls : List ℤ) : Type 0 where
  pub member : ℤ
  pub there : Memᴰ member ls
  pub above : variables < size member

pub record BothWays (ls : List ℤ) : Type 0 where
  pub variable : ℕ
  pub some : 0 < variable
  pub plain : Memᴰ (pos variable) ls
  pub negated : Memᴰ (neg_ℤ (pos variable)) ls

-- clause by clause the same weight and the same members
pub data SameClauses : List (ℕ × List ℤ) → List (ℕ × List ℤ) → Type 0 where
  none : SameClauses [] []
  next : (w : ℕ) (ls ms : List ℤ) {cs ds : List (ℕ × List ℤ)} → SameMembers ls ms → SameClauses cs ds → SameClauses ((w, ls) ∷ cs) ((w, ms) ∷ ds)
