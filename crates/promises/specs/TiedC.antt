-- What the contract of each entry point for C says, by name: its answer, and all that was lent `&mut` afterwards.
use base.Logic.{SProp}
use contract.Monad.{Fun}
use types.Logic.{Logic}
use seplogic.Ra.Ura.{Ura}
use prog.Memory.{Memory}
use prog.Routine.{Routine}
use Rattle.std.specs.Prelude.{length}
use Rattle.c_desks.specs.contracts.olikumpasho_load as load
use Rattle.c_desks.proofs.olikumpasho_load.Statement as load_proved
use Rattle.c_desks.specs.contracts.olikumpasho_well_formed as well_formed
use Rattle.c_desks.proofs.olikumpasho_well_formed.Statement as well_formed_proved
use Rattle.c_desks.specs.contracts.olikumpasho_weight_of as weight
use Rattle.c_desks.proofs.olikumpasho_weight_of.Statement as weight_proved
use Rattle.c_steps.specs.contracts.olikumpasho_decide as decide
use Rattle.c_steps.proofs.olikumpasho_decide.Statement as decide_proved
use Rattle.c_steps.specs.contracts.olikumpasho_rewrite as rewrite
use Rattle.c_steps.proofs.olikumpasho_rewrite.Statement as rewrite_proved
use Rattle.c_steps.specs.contracts.olikumpasho_take_back as take_back
use Rattle.c_steps.proofs.olikumpasho_take_back.Statement as take_back_proved
use Rattle.c_searches.specs.contracts.olikumpasho_bound as bound
use Rattle.c_searches.proofs.olikumpasho_bound.Statement as bound_proved
use Rattle.c_searches.specs.contracts.olikumpasho_search as search
use Rattle.c_searches.proofs.olikumpasho_search.Statement as search_proved
use Rattle.c_texts.specs.contracts.olikumpasho_read as read
use Rattle.c_texts.proofs.olikumpasho_read.Statement as read_proved
use Rattle.c_texts.specs.contracts.olikumpasho_write as write
use Rattle.c_texts.proofs.olikumpasho_write.Statement as write_proved
use Rattle.c_texts.specs.contracts.olikumpasho_answer as answer
use Rattle.c_texts.proofs.olikumpasho_answer.Statement as answer_proved
use Rattle.c_wcnf.specs.contracts.olikumpasho_read_wcnf as read_wcnf
use Rattle.c_wcnf.proofs.olikumpasho_read_wcnf.Statement as read_wcnf_proved
use Rattle.c_wcnf.specs.contracts.olikumpasho_write_wcnf as write_wcnf
use Rattle.c_wcnf.proofs.olikumpasho_write_wcnf.Statement as write_wcnf_proved
use Rattle.telling.specs.Told.{told_near, by_wcnf_read, figures_out}
use Rattle.telling.specs.Told.{told, by_weighed, weight_out, by_bounded, bound_out, by_searched, found_out, by_text_read, head_out, by_written, length_out}
use Rattle.rules.specs.Table.{most_rows, weighed}
use Rattle.rules.specs.Desk.{load_why, load_desk, well_formed as is_well_formed}
use Rattle.rules.specs.Decide.{decide_why, decide_desk}
use Rattle.rules.specs.Rewrite.{rewrite_why, rewrite_desk}
use Rattle.rules.specs.TakeBack.{take_back_why, take_back_desk}
use Rattle.rules.specs.Choice.{choice_of, bounded}
use Rattle.rules.specs.Walk.{searched}
use Rattle.rules.specs.Text.{written, write_out}
use Rattle.rules.specs.Reader.{text_read, read_table}
use Rattle.rules.specs.Program.{answered, answer_out}
use Rattle.rules.specs.Wcnf.{wcnf_written, wcnf_out}
use Rattle.rules.specs.WcnfReader.{wcnf_read, wcnf_table}
use Rattle.ties.specs.Ties.{Tied}

pub record TiedInC {M : Type 1} {𝓤 : Ura M} (𝓛 : Logic 𝓤) (memory : Memory → SProp 𝓤) (run : Routine → Fun 𝓤) : Type 2 where
  pub load : Tied 𝓛 load.ended (load_proved.statement M) (load.spec 𝓛 memory run) (load.clauses 𝓛 memory run)
      (λ κs a. told (load_why a.0 a.1.0.now a.1.1.0 a.1.1.1.0.now))
      (λ κs a. (tt, (tt, (tt, (load_desk a.0 a.1.0.now a.1.1.0 a.1.1.1.0.now, tt)))))
  pub well_formed : Tied 𝓛 well_formed.ended (well_formed_proved.statement M) (well_formed.spec 𝓛 memory run) (well_formed.clauses 𝓛 memory run)
      (λ κs a. is_well_formed a.0.now) (λ κs a. (tt, tt))
  pub weight : Tied 𝓛 weight.ended (weight_proved.statement M) (weight.spec 𝓛 memory run) (weight.clauses 𝓛 memory run)
      (λ κs a. told (by_weighed (weighed a.0 a.1.0.now a.1.1.0)))
      (λ κs a. (tt, (tt, (tt, (weight_out (weighed a.0 a.1.0.now a.1.1.0) a.1.1.1.0.now, tt)))))
  pub decide : Tied 𝓛 decide.ended (decide_proved.statement M) (decide.spec 𝓛 memory run) (decide.clauses 𝓛 memory run)
      (λ κs a. told (decide_why a.0.now a.1.0)) (λ κs a. (decide_desk a.0.now a.1.0, (tt, tt)))
  pub rewrite : Tied 𝓛 rewrite.ended (rewrite_proved.statement M) (rewrite.spec 𝓛 memory run) (rewrite.clauses 𝓛 memory run)
      (λ κs a. told (rewrite_why a.0.now a.1.0 a.1.1.0.now)) (λ κs a. (rewrite_desk a.0.now a.1.0 a.1.1.0.now, (tt, (tt, tt))))
  pub take_back : Tied 𝓛 take_back.ended (take_back_proved.statement M) (take_back.spec 𝓛 memory run) (take_back.clauses 𝓛 memory run)
      (λ κs a. told (take_back_why a.0.now)) (λ κs a. (take_back_desk a.0.now, tt))
  pub bound : Tied 𝓛 bound.ended (bound_proved.statement M) (bound.spec 𝓛 memory run) (bound.clauses 𝓛 memory run)
      (λ κs a. told (by_bounded (bounded a.0.now (choice_of a.1.0))))
      (λ κs a. (tt, (tt, (bound_out (bounded a.0.now (choice_of a.1.0)) a.1.1.0.now, tt))))
  pub search : Tied 𝓛 search.ended (search_proved.statement M) (search.spec 𝓛 memory run) (search.clauses 𝓛 memory run)
      (λ κs a. told (by_searched (searched a.0.now (choice_of a.1.0) a.1.1.0)))
      (λ κs a. (tt, (tt, (tt, (found_out (searched a.0.now (choice_of a.1.0) a.1.1.0) a.1.1.1.0.now, tt)))))
  pub read : Tied 𝓛 read.ended (read_proved.statement M) (read.spec 𝓛 memory run) (read.clauses 𝓛 memory run)
      (λ κs a. told (by_text_read (text_read most_rows a.0.now (length a.1.0.now))))
      (λ κs a. let r = text_read most_rows a.0.now (length a.1.0.now) in
      (tt, (read_table most_rows a.0.now a.1.0.now, (head_out r a.1.1.0.now, tt))))
  pub write : Tied 𝓛 write.ended (write_proved.statement M) (write.spec 𝓛 memory run) (write.clauses 𝓛 memory run)
      (λ κs a. told (by_written (written a.0 a.1.0 a.1.1.0.now a.1.1.1.0.now)))
      (λ κs a. let w = written a.0 a.1.0 a.1.1.0.now a.1.1.1.0.now in
      (tt, (tt, (tt, (write_out a.0 a.1.0 a.1.1.0.now a.1.1.1.0.now, (length_out w a.1.1.1.1.0.now, tt))))))
  pub answer : Tied 𝓛 answer.ended (answer_proved.statement M) (answer.spec 𝓛 memory run) (answer.clauses 𝓛 memory run)
      (λ κs a. told (by_written (answered a.0.now a.1.0.now)))
      (λ κs a. (tt, (answer_out a.0.now a.1.0.now, (length_out (answered a.0.now a.1.0.now) a.1.1.0.now, tt))))
  pub read_wcnf : Tied 𝓛 read_wcnf.ended (read_wcnf_proved.statement M) (read_wcnf.spec 𝓛 memory run) (read_wcnf.clauses 𝓛 memory run)
      (λ κs a. told_near (by_wcnf_read (wcnf_read most_rows a.0.now (length a.1.0.now))))
      (λ κs a. let r = wcnf_read most_rows a.0.now (length a.1.0.now) in
      (tt, (wcnf_table most_rows a.0.now a.1.0.now, (figures_out r a.1.1.0.now, tt))))
  pub write_wcnf : Tied 𝓛 write_wcnf.ended (write_wcnf_proved.statement M) (write_wcnf.spec 𝓛 memory run) (write_wcnf.clauses 𝓛 memory run)
      (λ κs a. told (by_written (wcnf_written a.0 a.1.0.now a.1.1.0.now)))
      (λ κs a. let w = wcnf_written a.0 a.1.0.now a.1.1.0.now in
      (tt, (tt, (wcnf_out a.0 a.1.0.now a.1.1.0.now, (length_out w a.1.1.1.0.now, tt)))))
