use Prim.Native.Nat.{ℕ, suc, ◌+◌, ◌-◌, ◌*◌, ◌≤◌, ◌<◌, ◌^◌}
use mathlib.Core.Path.{◌≡◌, sym, ap, ◌∙◌}
use mathlib.Core.List.{List}
use lib.ListN.{get_or}
use native.Mathlib.Omega.{arith}
use Rattle.rules.specs.Reader.{digit_run, value_of}
use Rattle.rules.specs.Text.{digit_zero, most_digits}
use Rattle.text_laws.proofs.Numbers.{digit_low, digit-high, run-digits, value_none, value-more, value-small}
use Rattle.pieces_read.proofs.numbers.value_of.Goals as goal

record Turn (b value new : ℕ) : Type 0 where
  low : digit_zero ≤ b
  high : b < digit_zero + 10
  small : value < 10 ^ most_digits
  made : value * 10 + (b - digit_zero) ≡ new

-- what a turn has, of the digit that it finds behind those passed
turn : (s : List ℕ) (at i b value : ℕ) → i < most_digits → i < digit_run s at (suc most_digits) → b ≡ get_or s (at + i) 0 → value ≡ value_of s at i
    → Turn b value (value_of s at (i + 1))
turn s at i b value few run is made =
    let all : (k : ℕ) → k < i + 1 → _ = λ k l. run-digits s at (suc most_digits) k (omega arith) in
    let digit = all i (omega arith) in
    record {
      low = rw is (digit_low (get_or s (at + i) 0) digit);
      high = rw is (digit-high (get_or s (at + i) 0) digit);
      small = rw made (value-small s at i (λ k l. all k (omega arith)) (omega arith));
      made = rw (is, made) (sym (value-more s at i));
    }

pub loop-i-init : goal.loop-i-init
loop-i-init c = sym (value_none _ _)

pub overflow_sub-digit : goal.overflow_sub-digit
overflow_sub-digit c =
    let t = turn c.args.s.now c.args.at c.loop-i.i _ _ (omega arith) (omega arith) (c.wide-digit.ensures ∙ c.byte_past-b.ensures) c.loop-i.invariant in
    omega (arith, t.low)

pub overflow_mul-value : goal.overflow_mul-value
overflow_mul-value c =
    let t = turn c.args.s.now c.args.at c.loop-i.i _ _ (omega arith) (omega arith) (c.wide-digit.ensures ∙ c.byte_past-b.ensures) c.loop-i.invariant in
    omega (arith, t.small)

pub overflow_add-value : goal.overflow_add-value
overflow_add-value c =
    let t = turn c.args.s.now c.args.at c.loop-i.i _ _ (omega arith) (omega arith) (c.wide-digit.ensures ∙ c.byte_past-b.ensures) c.loop-i.invariant in
    omega (arith, t.small, t.high)

pub loop-i-preserved : goal.loop-i-preserved
loop-i-preserved c =
    (turn c.args.s.now c.args.at c.loop-i.i _ _ (omega arith) (omega arith) (c.wide-digit.ensures ∙ c.byte_past-b.ensures) c.loop-i.invariant).made

pub returns : goal.returns
returns c =
    let all : c.loop-i.i ≡ c.args.n = omega arith in
    c.loop-i.invariant ∙ ap (value_of c.args.s.now c.args.at) all
