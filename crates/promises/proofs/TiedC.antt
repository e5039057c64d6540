-- Each contract of an entry point for C is its clauses, which are plain facts: the definitions named.
use Prim.Native.Nat.{ℕ}
use mathlib.Core.Path.{refl, ap, ap₂}
use mathlib.Core.List.{List}
use base.Logic.{SProp}
use contract.Monad.{Fun}
use types.Logic.{Logic}
use seplogic.Ra.Ura.{Ura}
use prog.Memory.{Memory}
use prog.Routine.{Routine}
use Rattle.c_desks.proofs.olikumpasho_load.Met.{met as load-met}
use Rattle.c_desks.proofs.olikumpasho_well_formed.Met.{met as well-formed-met}
use Rattle.c_desks.proofs.olikumpasho_weight_of.Met.{met as weight-met}
use Rattle.c_steps.proofs.olikumpasho_decide.Met.{met as decide-met}
use Rattle.c_steps.proofs.olikumpasho_rewrite.Met.{met as rewrite-met}
use Rattle.c_steps.proofs.olikumpasho_take_back.Met.{met as take-back-met}
use Rattle.c_searches.proofs.Tied.{bound-tied}
use Rattle.c_searches.proofs.olikumpasho_search.Met.{met as search-met}
use Rattle.c_texts.proofs.olikumpasho_read.Met.{met as read-met}
use Rattle.c_texts.proofs.olikumpasho_write.Met.{met as write-met}
use Rattle.c_texts.proofs.olikumpasho_answer.Met.{met as answer-met}
use Rattle.c_wcnf.proofs.olikumpasho_read_wcnf.Met.{met as read-wcnf-met}
use Rattle.c_wcnf.proofs.olikumpasho_write_wcnf.Met.{met as write-wcnf-met}
use Rattle.ties.proofs.Ties.{one-fact, two_facts, three-facts, tied}
use Rattle.promises.specs.TiedC.{TiedInC}

module _ {M : Type 1} {𝓤 : Ura M} (𝓛 : Logic 𝓤) (memory : Memory → SProp 𝓤) (run : Routine → Fun 𝓤) where
  pub tied-in-c : TiedInC 𝓛 memory run
  tied-in-c =
      record {
        load = tied 𝓤 𝓛 load-met (λ κs a. (tt, refl)) refl (λ κs a g x ws. two_facts 𝓤 _ _ _ (λ p q. (p, ap (λ (l : List ℕ). (tt, (tt, (tt, (l, tt))))) q)));
        well_formed = tied 𝓤 𝓛 well-formed-met (λ κs a. (tt, refl)) refl (λ κs a g x ws. one-fact 𝓤 _ _ (λ p. (p, refl)));
        weight =
            tied 𝓤 𝓛 weight-met (λ κs a. (tt, refl)) refl
            (λ κs a g x ws. two_facts 𝓤 _ _ _ (λ p q. (p, ap (λ (l : List ℕ). (tt, (tt, (tt, (l, tt))))) q)));
        decide = tied 𝓤 𝓛 decide-met (λ κs a. (tt, refl)) refl (λ κs a g x ws. two_facts 𝓤 _ _ _ (λ p q. (p, ap (λ (l : List ℕ). (l, (tt, tt))) q)));
        rewrite = tied 𝓤 𝓛 rewrite-met (λ κs a. (tt, refl)) refl (λ κs a g x ws. two_facts 𝓤 _ _ _ (λ p q. (p, ap (λ (l : List ℕ). (l, (tt, (tt, tt)))) q)));
        take_back = tied 𝓤 𝓛 take-back-met (λ κs a. (tt, refl)) refl (λ κs a g x ws. two_facts 𝓤 _ _ _ (λ p q. (p, ap (λ (l : List ℕ). (l, tt)) q)));
        bound = bound-tied 𝓛 memory run;
        search =
            tied 𝓤 𝓛 search-met (λ κs a. (tt, refl)) refl
            (λ κs a g x ws. two_facts 𝓤 _ _ _ (λ p q. (p, ap (λ (l : List ℕ). (tt, (tt, (tt, (l, tt))))) q)));
        read =
            tied 𝓤 𝓛 read-met (λ κs a. (tt, refl)) refl
            (λ κs a g x ws. three-facts 𝓤 _ _ _ _ (λ p q r. (p, ap₂ (λ (l : List ℕ) (m : List ℕ). (tt, (l, (m, tt)))) q r)));
        write =
            tied 𝓤 𝓛 write-met (λ κs a. (tt, refl)) refl
            (λ κs a g x ws. three-facts 𝓤 _ _ _ _ (λ p q r. (p, ap₂ (λ (l : List ℕ) (m : ℕ). (tt, (tt, (tt, (l, (m, tt)))))) q r)));
        answer =
            tied 𝓤 𝓛 answer-met (λ κs a. (tt, refl)) refl
            (λ κs a g x ws. three-facts 𝓤 _ _ _ _ (λ p q r. (p, ap₂ (λ (l : List ℕ) (m : ℕ). (tt, (l, (m, tt)))) q r)));
        read_wcnf =
            tied 𝓤 𝓛 read-wcnf-met (λ κs a. (tt, refl)) refl
            (λ κs a g x ws. three-facts 𝓤 _ _ _ _ (λ p q r. (p, ap₂ (λ (l : List ℕ) (m : List ℕ). (tt, (l, (m, tt)))) q r)));
        write_wcnf =
            tied 𝓤 𝓛 write-wcnf-met (λ κs a. (tt, refl)) refl
            (λ κs a g x ws. three-facts 𝓤 _ _ _ _ (λ p q r. (p, ap₂ (λ (l : List ℕ) (m : ℕ). (tt, (tt, (l, (m, tt))))) q r)));
      }
