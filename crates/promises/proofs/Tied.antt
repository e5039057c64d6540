-- Each contract is its clauses, which are plain facts: the definitions named.
use Prim.Native.Nat.{ℕ}
use mathlib.Core.Path.{refl, ap}
use mathlib.Core.List.{List}
use base.Logic.{SProp}
use contract.Monad.{Fun}
use types.Logic.{Logic}
use seplogic.Ra.Ura.{Ura}
use prog.Memory.{Memory}
use prog.Routine.{Routine}
use Rattle.desk.proofs.load.Met.{met as load-met}
use Rattle.formed.proofs.well_formed.Met.{met as well-formed-met}
use Rattle.tables.proofs.weight_of.Met.{met as weight-met}
use Rattle.deciding.proofs.decide.Met.{met as decide-met}
use Rattle.rewrites.proofs.rewrite.Met.{met as rewrite-met}
use Rattle.taking_back.proofs.take_back.Met.{met as take-back-met}
use Rattle.walk.proofs.search.Met.{met as search-met}
use Rattle.reader.proofs.read.Met.{met as read-met}
use Rattle.writer.proofs.write.Met.{met as write-met}
use Rattle.answer.proofs.answer.Met.{met as answer-met}
use Rattle.wcnf_reader.proofs.read_wcnf.Met.{met as read-wcnf-met}
use Rattle.wcnf_writer.proofs.write_wcnf.Met.{met as write-wcnf-met}
use Rattle.wcnf_answer.proofs.answer_wcnf.Met.{met as answer-wcnf-met}
use Rattle.bound.proofs.Tied.{bound-tied}
use Rattle.ties.proofs.Ties.{one-fact, two_facts, tied}
use Rattle.promises.specs.Tied.{TiedInCode}

module _ {M : Type 1} {𝓤 : Ura M} (𝓛 : Logic 𝓤) (memory : Memory → SProp 𝓤) (run : Routine → Fun 𝓤) where
  pub tied-in-code : TiedInCode 𝓛 memory run
  tied-in-code =
      record {
        load = tied 𝓤 𝓛 load-met (λ κs a. (tt, refl)) refl (λ κs a g x ws. two_facts 𝓤 _ _ _ (λ p q. (p, ap (λ (l : List ℕ). (tt, (tt, (tt, (l, tt))))) q)));
        well_formed = tied 𝓤 𝓛 well-formed-met (λ κs a. (tt, refl)) refl (λ κs a g x ws. one-fact 𝓤 _ _ (λ p. (p, refl)));
        weight = tied 𝓤 𝓛 weight-met (λ κs a. (tt, refl)) refl (λ κs a g x ws. one-fact 𝓤 _ _ (λ p. (p, refl)));
        decide = tied 𝓤 𝓛 decide-met (λ κs a. (tt, refl)) refl (λ κs a g x ws. two_facts 𝓤 _ _ _ (λ p q. (p, ap (λ (l : List ℕ). (l, (tt, tt))) q)));
        rewrite = tied 𝓤 𝓛 rewrite-met (λ κs a. (tt, refl)) refl (λ κs a g x ws. two_facts 𝓤 _ _ _ (λ p q. (p, ap (λ (l : List ℕ). (l, (tt, (tt, tt)))) q)));
        take_back = tied 𝓤 𝓛 take-back-met (λ κs a. (tt, refl)) refl (λ κs a g x ws. two_facts 𝓤 _ _ _ (λ p q. (p, ap (λ (l : List ℕ). (l, tt)) q)));
        bound = bound-tied 𝓛 memory run;
        search = tied 𝓤 𝓛 search-met (λ κs a. (tt, refl)) refl (λ κs a g x ws. one-fact 𝓤 _ _ (λ p. (p, refl)));
        read = tied 𝓤 𝓛 read-met (λ κs a. (tt, refl)) refl (λ κs a g x ws. two_facts 𝓤 _ _ _ (λ p q. (p, ap (λ (l : List ℕ). (tt, (l, tt))) q)));
        write =
            tied 𝓤 𝓛 write-met (λ κs a. (tt, refl)) refl
            (λ κs a g x ws. two_facts 𝓤 _ _ _ (λ p q. (p, ap (λ (l : List ℕ). (tt, (tt, (tt, (l, tt))))) q)));
        answer = tied 𝓤 𝓛 answer-met (λ κs a. (tt, refl)) refl (λ κs a g x ws. two_facts 𝓤 _ _ _ (λ p q. (p, ap (λ (l : List ℕ). (tt, (l, tt))) q)));
        read_wcnf = tied 𝓤 𝓛 read-wcnf-met (λ κs a. (tt, refl)) refl (λ κs a g x ws. two_facts 𝓤 _ _ _ (λ p q. (p, ap (λ (l : List ℕ). (tt, (l, tt))) q)));
        write_wcnf =
            tied 𝓤 𝓛 write-wcnf-met (λ κs a. (tt, refl)) refl
            (λ κs a g x ws. two_facts 𝓤 _ _ _ (λ p q. (p, ap (λ (l : List ℕ). (tt, (tt, (l, tt)))) q)));
        answer_wcnf =
            tied 𝓤 𝓛 answer-wcnf-met (λ κs a. (tt, refl)) refl (λ κs a g x ws. two_facts 𝓤 _ _ _ (λ p q. (p, ap (λ (l : List ℕ). (tt, (l, tt))) q)));
      }
