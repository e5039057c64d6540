-- Any order: a call that is judged by it is refused exactly when its first refusal is due.
use Rattle.std.specs.Prelude.{Ok, Err}
use mathlib.Core.Path.{◌≡◌, refl, sym, ap, subst, ◌∙◌}
use mathlib.Core.List.{List, [], ◌∷◌}
use mathlib.Core.Bool.{Bool, true, false}
use Rattle.masks.proofs.Choice.{impossible}
use Rattle.rules.specs.declared.Numbered.{Numbered}
use Rattle.rules.specs.declared.Refusal.{Refusal}
use Rattle.rules.specs.Refusals.{Judged, numbered, refuse, in_order, Rule, ◌when◌, as_in, first_due}
use Rattle.demands.specs.Orders.{Due, here, later, within, beyond, ExactlyWhen}

-- an order by itself, and what comes behind it
in_order_lem : (judged : Judged) (rest : List Rule) → first_due (as_in judged ∷ rest) ≡ in_order judged (first_due rest)
in_order_lem (Ok _) [] = refl
in_order_lem (Err r) [] = refl
in_order_lem judged (rule ∷ rest) = refl

due-here : (q r : Refusal) (due : Bool) (rest : List Rule) → due ≡ true → ◌≡◌ {A = Judged} (Err q) (Err r)
    → Due (q when due ∷ rest) (numbered r)
due-here q r due rest h e = let same : q ≡ r = cc in subst (λ (p : Refusal). Due (q when due ∷ rest) (numbered p)) same (here h)

at_test : (q r : Refusal) (due : Bool) (rest : List Rule) → (first_due rest ≡ Err r → Due rest (numbered r)) → refuse due q (first_due rest) ≡ Err r
    → Due (q when due ∷ rest) (numbered r)
at_test q r true rest ih e = due-here q r true rest refl e
at_test q r false rest ih e = later refl (ih e)

at_part : (r : Refusal) (j : Judged) (rest : List Rule) → (first_due rest ≡ Err r → Due rest (numbered r)) → in_order j (first_due rest) ≡ Err r
    → Due (as_in j ∷ rest) (numbered r)
at_part r (Ok _) rest ih e = beyond refl (ih e)
at_part r (Err q) rest ih e = within r e

first-due : (order : List Rule) (r : Refusal) → first_due order ≡ Err r → Due order (numbered r)
first-due [] r e = impossible (cc)
first-due (q when due ∷ rest) r e = at_test q r due rest (first-due rest r) e
first-due (as_in j ∷ rest) r e = at_part r j rest (first-due rest r) (sym (in_order_lem j rest) ∙ e)

abbrev Refusing : List Rule → Numbered → Type 0
Refusing order told = (r : Refusal) × (first_due order ≡ Err r) × (numbered r ≡ told)

due-first : {order : List Rule} {told : Numbered} → Due order told → Refusing order told
due-first (here {r} {due} {rest} h) = (r, ap (λ (b : Bool). refuse b r (first_due rest)) h, refl)
due-first (later {r} {due} {rest} h d) =
    let f = due-first d in
    (f.0, ap (λ (b : Bool). refuse b r (first_due rest)) h ∙ f.1, f.2)
due-first (within {judged = j} {rest} r h) = (r, in_order_lem j rest ∙ ap (λ (k : Judged). in_order k (first_due rest)) h, refl)
due-first (beyond {judged = j} {rest} h d) =
    let f = due-first d in
    (f.0, in_order_lem j rest ∙ ap (λ (k : Judged). in_order k (first_due rest)) h ∙ f.1, f.2)

none-due : (order : List Rule) (j : Judged) → first_due order ≡ j → ((told : Numbered) → Due order told → ⊥) → first_due order ≡ Ok tt
none-due order (Ok _) e none = e
none-due order (Err r) e none = absurd (none (numbered r) (first-due order r e))

pub exactly : (order : List Rule) → ExactlyWhen order
exactly order =
    record {
      refuses = first-due order;
      refused-when = λ told d. due-first d;
      accepts = λ e told d. let f = due-first d in let g = f.1 in impossible (cc);
      accepted-when = none-due order (first_due order) refl;
    }
