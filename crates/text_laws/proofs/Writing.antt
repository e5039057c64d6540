-- A key stored byte by byte: what is left of it, stored behind what is, comes to the whole key stored. Where nothing is left, nothing
-- more is stored.
use Prim.Native.Nat.{ℕ, suc, ◌+◌, ◌<◌, ◌≤◌}
use mathlib.Core.Path.{◌≡◌}
use mathlib.Core.List.{List}
use native.Mathlib.Numerals.{add-one}
use native.Mathlib.Omega.{arith}
use lib.ListN.{length, get_or, drop, set, drop_of_length-le}
use lib.Seq.{sets, drop-cons}

-- one byte of a key more, and none left
pub key-turn : (out : List ℕ) (at : ℕ) (key : List ℕ) (i : ℕ) → i < length key
    → sets (set out (at + i) (get_or key i 0)) (at + (i + 1)) (drop (i + 1) key) ≡ sets out (at + i) (drop i key)
key-turn out at key i l =
    let far : at + (i + 1) ≡ suc (at + i) = omega arith in
    rw (drop-cons key i 0 l, far, add-one i)

pub key-end : (out : List ℕ) (at : ℕ) (key : List ℕ) (i : ℕ) → length key ≤ i → sets out (at + i) (drop i key) ≡ out
key-end out at key i l = rw (drop_of_length-le key l)
