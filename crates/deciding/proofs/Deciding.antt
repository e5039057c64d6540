-- Small facts that deciding rests on: a bool stored as a word, the order in its two parts, and what a decision that is not refused has shown.
use Rattle.std.specs.Prelude.{Some, None, Ok, Err}
use Prim.Native.Nat.{ℕ}
use mathlib.Core.Path.{◌≡◌, refl, sym, ap, ◌∙◌}
use mathlib.Core.List.{List}
use mathlib.Core.Bool.{Bool, true, false, cond, not}
use lib.Dec.{leb}
use lib.IntN.{ℤ}
use mir.Val.{bool_byte}
use Rattle.literals.specs.declared.Literal.{Literal}
use Rattle.literals.specs.Literal.{offered}
use Rattle.literals.proofs.Offers.{offered-fine, offered-refused}
use Rattle.rules.specs.declared.Refusal.{Refusal}
use Rattle.rules.specs.declared.Refusal.TheVariants.{BadDesk, TooManySteps, BadLiteral}
use Rattle.rules.specs.Refusals.{Judged, refuse, in_order}
use Rattle.rules.specs.Desk.{standing, most_steps, row_place, desk_words, well_formed}
use Rattle.rules.specs.Decide.{bad_literal, decide_why, decide_step, decide_desk}
use Rattle.rules.proofs.Judging.{words-fine, words-refused}
use Rattle.desk_laws.proofs.Verdicts.{decide-fine}
use Rattle.words.specs.Room.{EntryLeft}
use Rattle.deciding.specs.Order.{step_why, out_of_reach}

pub bool_word : (b : Bool) → bool_byte b ≡ cond b 1 0
bool_word true = refl
bool_word false = refl

-- room for one more entry
pub decide-room : (d : List ℕ) (l : ℤ) → decide_why d l ≡ Ok tt → EntryLeft d
unfolding desk_words row_place
decide-room d l e =
    let r = decide-fine d l e in
    record { fits = r.desk.roomy; reach = r.desk.reaching; left = r.room }

-- ---- 10 and 11, then 12

in_parts : (d : List ℕ) (z : ℤ) → decide_why d z ≡ in_order (step_why d) (refuse (bad_literal d z) BadLiteral (Ok tt))
unfolding decide_why step_why
in_parts d z = go (not (well_formed d)) (leb most_steps (standing d)) (refuse (bad_literal d z) BadLiteral (Ok tt))
  where
    go : (a b : Bool) (x : Judged) → refuse a BadDesk (refuse b TooManySteps x) ≡ in_order (refuse a BadDesk (refuse b TooManySteps (Ok tt))) x
    go true b x = refl
    go false true x = refl
    go false false x = refl

refused-so : (d : List ℕ) (z : ℤ) (r : Refusal) → decide_why d z ≡ Err r → (Err r ≡ decide_why d z) × (d ≡ decide_desk d z)
unfolding decide_desk
refused-so d z r e = (sym e, sym (words-refused (decide_why d z) (decide_step d z) d r e))

module _ (d : List ℕ) (z : ℤ) (j : Judged) (why : j ≡ step_why d) where
  pub decide-early : (r : Refusal) → j ≡ Err r → (j ≡ decide_why d z) × (d ≡ decide_desk d z)
  decide-early r e =
      let f : step_why d ≡ Err r = sym why ∙ e in
      let so = refused-so d z r (in_parts d z ∙ rw f) in
      (e ∙ so.0, so.1)

  module _ (fine : j ≡ Ok tt) where
    late : decide_why d z ≡ refuse (bad_literal d z) BadLiteral (Ok tt)
    late = let f : step_why d ≡ (Ok tt) = sym why ∙ fine in in_parts d z ∙ rw f

    pub decide-no-literal : offered z ≡ None → (Err BadLiteral ≡ decide_why d z) × (d ≡ decide_desk d z)
    unfolding bad_literal
    decide-no-literal e = refused-so d z BadLiteral (late ∙ rw (offered-refused z e))

    module _ (l : Literal) (made : offered z ≡ Some l) (out : Bool) (reach : out ≡ out_of_reach d l.value) where
      -- of a literal, 12 is what is out of reach
      judged : decide_why d z ≡ refuse out BadLiteral (Ok tt)
      unfolding bad_literal out_of_reach
      judged =
          let is = offered-fine z l made in
          let same : out ≡ out_of_reach d z = reach ∙ ap (λ (x : Literal). out_of_reach d x.value) is.1 in
          late ∙ rw (is.0, same)

      pub decide-out : out ≡ true → (Err BadLiteral ≡ decide_why d z) × (d ≡ decide_desk d z)
      decide-out e = refused-so d z BadLiteral (judged ∙ rw e)

      pub decide-in : out ≡ false → decide_why d z ≡ Ok tt
      decide-in e = judged ∙ rw e

      pub decide-done : (after : List ℕ) → out ≡ false → after ≡ decide_step d l.value → ((Ok tt) ≡ decide_why d z) × (after ≡ decide_desk d z)
      unfolding decide_desk
      decide-done after e step =
          let f = decide-in e in (
            sym f,
            step ∙ ap (λ (x : Literal). decide_step d x.value) (offered-fine z l made).1 ∙ sym (words-fine (decide_why d z) (decide_step d z) d f),
          )
