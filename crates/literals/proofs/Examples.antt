-- The definitions at the limits that document 01 names, by computing.
-- Literals run from -64 to 64 without 0; bit v - 1 stands for variable v. `negsuc n` is -(n + 1).
use Rattle.std.specs.Prelude.{Some, None}
use Prim.Native.Nat.{◌^◌}
use mathlib.Core.Path.{◌≡◌, refl}
use lib.IntN.{pos, negsuc}
use Rattle.masks.specs.Masks.{single}
use Rattle.literals.specs.Literal.{size, is_positive, is_literal, opposite, bit_of, lits_of, offered}

-- which numbers are literals
largest : offered (pos 64) ≡ Some (record { value = pos 64 })
unfolding size is_literal offered
largest = refl

smallest : offered (negsuc 63) ≡ Some (record { value = negsuc 63 })
unfolding size is_literal offered
smallest = refl

too_large : offered (pos 65) ≡ None
unfolding size is_literal offered
too_large = refl

too_small : offered (negsuc 64) ≡ None
unfolding size is_literal offered
too_small = refl

zero-refused : offered (pos 0) ≡ None
unfolding size is_literal offered
zero-refused = refl

least-of-type : offered (negsuc 9223372036854775807) ≡ None
unfolding size is_literal offered
least-of-type = refl

-- opposites
turned : opposite (pos 64) ≡ negsuc 63
unfolding size is_literal opposite
turned = refl

turned-back : opposite (negsuc 63) ≡ pos 64
unfolding size is_literal opposite
turned-back = refl

stays : opposite (pos 65) ≡ pos 65
unfolding size is_literal opposite
stays = refl

-- masks and bits
first : lits_of (pos 1) ≡ record { positive = 1; negative = 0 }
unfolding size is_positive bit_of lits_of single
first = refl

not_third : lits_of (negsuc 2) ≡ record { positive = 0; negative = 4 }
unfolding size is_positive bit_of lits_of single
not_third = refl

last : bit_of (negsuc 63) ≡ 2 ^ 63
unfolding size bit_of single
last = refl

past : bit_of (pos 65) ≡ 0
unfolding size bit_of single
past = refl
