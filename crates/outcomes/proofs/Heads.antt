-- Words behind those for a head, and the first of them.
use Prim.Native.Nat.{ℕ, ◌+◌, ◌≤◌}
use mathlib.Core.Path.{◌≡◌, ap, ◌∙◌}
use mathlib.Core.List.{List, [], ◌++◌, append-nil}
use lib.ListN.{length, take, drop, replicate}
use lib.Seq.{take-add, drop_at, length-take-le}
use Rattle.rules.specs.Desk.{head_words}

pub behind-head : (k : ℕ) (words : List ℕ) → head_words ≤ length words → drop head_words (take (head_words + k) words) ≡ take k (drop head_words words)
behind-head k words h =
    ap (drop head_words) (take-add head_words k words)
    ∙ drop_at (take head_words words) (take k (drop head_words words)) head_words (length-take-le head_words words h)

-- where the words for the head are still 0 and those behind them were lent out
pub first_read : (k : ℕ) (words : List ℕ) → take k (drop head_words (replicate {A = ℕ} head_words 0 ++ (words ++ []))) ≡ take k words
first_read k words = ap (take k) (append-nil words)
