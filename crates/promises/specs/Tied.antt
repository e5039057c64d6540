-- What the contract of each entry point says, by name: its answer, and what was lent `&mut` afterwards. a holds the call's arguments in their order.
use base.Logic.{SProp}
use contract.Monad.{Fun}
use types.Logic.{Logic}
use seplogic.Ra.Ura.{Ura}
use prog.Memory.{Memory}
use prog.Routine.{Routine}
use Rattle.std.specs.Prelude.{length}
use Rattle.desk.specs.contracts.load as load
use Rattle.desk.proofs.load.Statement as load_proved
use Rattle.formed.specs.contracts.well_formed as well_formed
use Rattle.formed.proofs.well_formed.Statement as well_formed_proved
use Rattle.tables.specs.contracts.weight_of as weight
use Rattle.tables.proofs.weight_of.Statement as weight_proved
use Rattle.deciding.specs.contracts.decide as decide
use Rattle.deciding.proofs.decide.Statement as decide_proved
use Rattle.rewrites.specs.contracts.rewrite as rewrite
use Rattle.rewrites.proofs.rewrite.Statement as rewrite_proved
use Rattle.taking_back.specs.contracts.take_back as take_back
use Rattle.taking_back.proofs.take_back.Statement as take_back_proved
use Rattle.bound.specs.contracts.bound as bound
use Rattle.bound.proofs.bound.Statement as bound_proved
use Rattle.walk.specs.contracts.search as search
use Rattle.walk.proofs.search.Statement as search_proved
use Rattle.reader.specs.contracts.read as read
use Rattle.reader.proofs.read.Statement as read_proved
use Rattle.writer.specs.contracts.write as write
use Rattle.writer.proofs.write.Statement as write_proved
use Rattle.answer.specs.contracts.answer as answer
use Rattle.answer.proofs.answer.Statement as answer_proved
use Rattle.wcnf_reader.specs.contracts.read_wcnf as read_wcnf
use Rattle.wcnf_reader.proofs.read_wcnf.Statement as read_wcnf_proved
use Rattle.wcnf_writer.specs.contracts.write_wcnf as write_wcnf
use Rattle.wcnf_writer.proofs.write_wcnf.Statement as write_wcnf_proved
use Rattle.wcnf_answer.specs.contracts.answer_wcnf as answer_wcnf
use Rattle.wcnf_answer.proofs.answer_wcnf.Statement as answer_wcnf_proved
use Rattle.rules.specs.Table.{most_rows, weighed}
use Rattle.rules.specs.Desk.{load_why, load_desk, well_formed as is_well_formed}
use Rattle.rules.specs.Decide.{decide_why, decide_desk}
use Rattle.rules.specs.Rewrite.{rewrite_why, rewrite_desk}
use Rattle.rules.specs.TakeBack.{take_back_why, take_back_desk}
use Rattle.rules.specs.Choice.{bounded}
use Rattle.rules.specs.Walk.{searched}
use Rattle.rules.specs.Text.{written, write_out}
use Rattle.rules.specs.Reader.{text_read, read_table}
use Rattle.rules.specs.Program.{answered, answer_out}
use Rattle.rules.specs.Wcnf.{wcnf_written, wcnf_out}
use Rattle.rules.specs.WcnfReader.{wcnf_read, wcnf_table}
use Rattle.rules.specs.WcnfProgram.{wcnf_answered, wcnf_answer_out}
use Rattle.ties.specs.Ties.{Tied}

pub record TiedInCode {M : Type 1} {𝓤 : Ura M} (𝓛 : Logic 𝓤) (memory : Memory → SProp 𝓤) (run : Routine → Fun 𝓤) : Type 2 where
  pub load : Tied 𝓛 load.ended (load_proved.statement M) (load.spec 𝓛 memory run) (load.clauses 𝓛 memory run)
      (λ κs a. load_why a.0 a.1.0.now a.1.1.0 a.1.1.1.0.now)
      (λ κs a. (tt, (tt, (tt, (load_desk a.0 a.1.0.now a.1.1.0 a.1.1.1.0.now, tt)))))
  pub well_formed : Tied 𝓛 well_formed.ended (well_formed_proved.statement M) (well_formed.spec 𝓛 memory run) (well_formed.clauses 𝓛 memory run)
      (λ κs a. is_well_formed a.0.now) (λ κs a. (tt, tt))
  pub weight : Tied 𝓛 weight.ended (weight_proved.statement M) (weight.spec 𝓛 memory run) (weight.clauses 𝓛 memory run)
      (λ κs a. weighed a.0 a.1.0.now a.1.1.0) (λ κs a. (tt, (tt, (tt, tt))))
  pub decide : Tied 𝓛 decide.ended (decide_proved.statement M) (decide.spec 𝓛 memory run) (decide.clauses 𝓛 memory run)
      (λ κs a. decide_why a.0.now a.1.0) (λ κs a. (decide_desk a.0.now a.1.0, (tt, tt)))
  pub rewrite : Tied 𝓛 rewrite.ended (rewrite_proved.statement M) (rewrite.spec 𝓛 memory run) (rewrite.clauses 𝓛 memory run)
      (λ κs a. rewrite_why a.0.now a.1.0 a.1.1.0.now) (λ κs a. (rewrite_desk a.0.now a.1.0 a.1.1.0.now, (tt, (tt, tt))))
  pub take_back : Tied 𝓛 take_back.ended (take_back_proved.statement M) (take_back.spec 𝓛 memory run) (take_back.clauses 𝓛 memory run)
      (λ κs a. take_back_why a.0.now) (λ κs a. (take_back_desk a.0.now, tt))
  pub bound : Tied 𝓛 bound.ended (bound_proved.statement M) (bound.spec 𝓛 memory run) (bound.clauses 𝓛 memory run)
      (λ κs a. bounded a.0.now a.1.0) (λ κs a. (tt, (tt, tt)))
  pub search : Tied 𝓛 search.ended (search_proved.statement M) (search.spec 𝓛 memory run) (search.clauses 𝓛 memory run)
      (λ κs a. searched a.0.now a.1.0 a.1.1.0) (λ κs a. (tt, (tt, (tt, tt))))
  pub read : Tied 𝓛 read.ended (read_proved.statement M) (read.spec 𝓛 memory run) (read.clauses 𝓛 memory run)
      (λ κs a. text_read most_rows a.0.now (length a.1.0.now)) (λ κs a. (tt, (read_table most_rows a.0.now a.1.0.now, tt)))
  pub write : Tied 𝓛 write.ended (write_proved.statement M) (write.spec 𝓛 memory run) (write.clauses 𝓛 memory run)
      (λ κs a. written a.0 a.1.0 a.1.1.0.now a.1.1.1.0.now)
      (λ κs a. (tt, (tt, (tt, (write_out a.0 a.1.0 a.1.1.0.now a.1.1.1.0.now, tt)))))
  pub answer : Tied 𝓛 answer.ended (answer_proved.statement M) (answer.spec 𝓛 memory run) (answer.clauses 𝓛 memory run)
      (λ κs a. answered a.0.now a.1.0.now) (λ κs a. (tt, (answer_out a.0.now a.1.0.now, tt)))
  pub read_wcnf : Tied 𝓛 read_wcnf.ended (read_wcnf_proved.statement M) (read_wcnf.spec 𝓛 memory run) (read_wcnf.clauses 𝓛 memory run)
      (λ κs a. wcnf_read most_rows a.0.now (length a.1.0.now)) (λ κs a. (tt, (wcnf_table most_rows a.0.now a.1.0.now, tt)))
  pub write_wcnf : Tied 𝓛 write_wcnf.ended (write_wcnf_proved.statement M) (write_wcnf.spec 𝓛 memory run) (write_wcnf.clauses 𝓛 memory run)
      (λ κs a. wcnf_written a.0 a.1.0.now a.1.1.0.now) (λ κs a. (tt, (tt, (wcnf_out a.0 a.1.0.now a.1.1.0.now, tt))))
  pub answer_wcnf : Tied 𝓛 answer_wcnf.ended (answer_wcnf_proved.statement M) (answer_wcnf.spec 𝓛 memory run) (answer_wcnf.clauses 𝓛 memory run)
      (λ κs a. wcnf_answered a.0.now a.1.0.now) (λ κs a. (tt, (wcnf_answer_out a.0.now a.1.0.now, tt)))
