-- A desk that was asked for with `ok_or`: where it is given its words are well formed, and where it is not they are refused.
use Rattle.std.specs.Prelude.{Option, Result, Ok, Err, MatchOption, ok_or}
use mathlib.Core.Path.{◌≡◌, subst}
use mathlib.Core.Bool.{true, false}
use mathlib.Core.List.{List}
use Prim.Native.Nat.{ℕ}
use Rattle.masks.proofs.Choice.{some-of-ok, none-of-err}
use Rattle.rules.specs.declared.Refusal.{Refusal}
use Rattle.rules.specs.Desk.{well_formed}
use Rattle.judged.specs.declared.inner.JudgedDesk.{JudgedDesk}

module _ (d : List ℕ) (o : Option JudgedDesk) (why : Refusal) (r : Result JudgedDesk Refusal)
    (judging : MatchOption o (well_formed d ≡ false) (λ j. (well_formed d ≡ true) × (j.words.now ≡ d))) (asked : r ≡ ok_or o why) where
  -- what is judged of an option, at the option that it is
  abbrev judges : Option JudgedDesk → Type 0
  judges x = MatchOption x (well_formed d ≡ false) (λ j. (well_formed d ≡ true) × (j.words.now ≡ d))

  pub judged-so : (j : JudgedDesk) → r ≡ Ok j → (well_formed d ≡ true) × (j.words.now ≡ d)
  judged-so j was = subst judges (some-of-ok o why r j asked was) judging

  pub judged-not : (e : Refusal) → r ≡ Err e → (well_formed d ≡ false) × (e ≡ why)
  judged-not e was = let none = none-of-err o why r e asked was in (subst judges none.0 judging, none.1)
