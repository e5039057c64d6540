-- What a text comes to whose header is read, where so many rows are taken at most: the answer, and the lent words.
use Rattle.std.specs.Prelude.{ℕ, List, length, Result, Ok}
use Rattle.std.proofs.lemmas.List.Edits.{sets}
use Rattle.rules.specs.declared.WcnfRead.{WcnfRead}
use Rattle.rules.specs.Refusals.{unless_refused}
use Rattle.rules.specs.WcnfReader.{header_why, clauses_words, wcnf_read_as, header_says}
use Rattle.rules.specs.declared.Refusal.{Refusal}

unfoldable pub read_behind : ℕ → List ℕ → ℕ → ℕ → ℕ → ℕ → ℕ → ℕ → Result WcnfRead Refusal
read_behind most s room variables clauses top next line =
    let head = Ok (header_says variables clauses top next line) in
    wcnf_read_as (header_why most s room head) head

unfoldable pub stored_behind : ℕ → List ℕ → List ℕ → ℕ → ℕ → ℕ → ℕ → ℕ → List ℕ
stored_behind most s table variables clauses top next line =
    unless_refused (header_why most s (length table) (Ok (header_says variables clauses top next line))) (sets table 0 (clauses_words clauses top s next)) table
