-- A mask is a number read as a set: bit v of it says whether v is in the set. Masks have 64 bits.
use Rattle.std.specs.Prelude.{ℕ, ◌/◌, ◌%◌, ◌^◌, Bool, cond, eqb, ltb}
use Rattle.std.specs.Int.Bits.{bit_and, bit_xor}
use Rattle.masks.specs.Sums.{sum}

-- 1 where v is in the mask, else 0
unfoldable pub bit : ℕ → ℕ → ℕ
bit m v = m / 2 ^ v % 2

-- whether v is in the mask
unfoldable pub has : ℕ → ℕ → Bool
unfolding bit
has m v = eqb (bit m v) 1

-- how many are in the mask
unfoldable pub count : ℕ → ℕ
unfolding bit sum
count m = sum 64 (bit m)

-- what is in a and not in b
unfoldable pub without : ℕ → ℕ → ℕ
without a b = bit_xor a (bit_and a b)

-- nothing is in the mask
unfoldable pub none : ℕ → Bool
none m = eqb m 0

-- all that is in the mask is below n
unfoldable pub below : ℕ → ℕ → Bool
below m n = ltb m (2 ^ n)

-- v alone, where masks reach that far; else nothing
unfoldable pub single : ℕ → ℕ
single v = cond (ltb v 64) (2 ^ v) 0
