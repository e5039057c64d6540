-- A text put into lent bytes: refused before, refused for want of room, or written, and then it stands at their front.
use Rattle.std.specs.Prelude.{Ok, Err}
use Prim.Native.Nat.{ℕ, ◌+◌, ◌<◌, ◌≤◌}
use mathlib.Core.Path.{◌≡◌, refl, sym, ap, ◌∙◌}
use mathlib.Core.List.{List, ◌++◌}
use native.Mathlib.Nat.{zero-add}
use native.Mathlib.Omega.{arith}
use borrow.Author.Tests.{lt-ltb, le-ltb}
use lib.ListN.{length, take, drop}
use lib.Seq.{sets, sets-eq, take_at}
use Rattle.rules.specs.declared.Refusal.{Refusal}
use Rattle.rules.specs.declared.Refusal.TheVariants.{NoRoom}
use Rattle.rules.specs.Refusals.{Judged}
use Rattle.rules.specs.Text.{text_why, text_written, text_out}

module _ (before : Judged) (text out : List ℕ) where
  pub text-refused : (r : Refusal) → before ≡ Err r → (Err r ≡ text_written before text out) × (out ≡ text_out before text out)
  unfolding text_written text_out text_why
  text-refused r e = (rw e, rw e)

  pub text-no-room : before ≡ Ok tt → length out < length text → (Err NoRoom ≡ text_written before text out) × (out ≡ text_out before text out)
  unfolding text_written text_out text_why
  text-no-room e l = let t = lt-ltb (length out) (length text) l in (rw (e, t), rw (e, t))

  pub text-fine : before ≡ Ok tt → length text ≤ length out → text_why before text out ≡ Ok tt
  unfolding text_why
  text-fine e l = rw (e, le-ltb (length out) (length text) l)

  pub text-written : text_why before text out ≡ Ok tt
      → (text_written before text out ≡ Ok (length text)) × (text_out before text out ≡ text ++ drop (length text) out)
  unfolding text_written text_out
  text-written e = (rw e, rw e)

  -- as code stores it
  pub text-stored : before ≡ Ok tt → length text ≤ length out
      → (Ok (length text) ≡ text_written before text out) × (sets out 0 text ≡ text_out before text out)
  text-stored e l =
      let done = text-written (text-fine e l) in
      let fits : 0 + length text ≤ length out = omega arith in
      (sym done.0, (sets-eq text out 0 fits ∙ rw (zero-add (length text))) ∙ sym done.1)

  pub text-at-front : text_why before text out ≡ Ok tt → take (length text) (text_out before text out) ≡ text
  text-at-front e = ap (take (length text)) (text-written e).1 ∙ take_at text (drop (length text) out) (length text) refl
