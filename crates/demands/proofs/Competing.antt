-- What is promised of competition files, of the laws of their text.
use Rattle.std.specs.Prelude.{Result, Ok, Err}
use Prim.Native.Nat.{ℕ}
use mathlib.Core.Path.{◌≡◌, refl, sym, subst, ◌∙◌}
use mathlib.Core.List.{List, ◌++◌}
use lib.ListN.{length, drop}
use Rattle.rules.specs.Refusals.{Judged}
use Rattle.rules.specs.declared.WcnfHead.{WcnfHead}
use Rattle.rules.specs.Table.{table_why}
use Rattle.rules.specs.Wcnf.{wcnf_text}
use Rattle.rules.specs.WcnfReader.{header_of, header_why, wcnf_read_why, wcnf_words, wcnf_read_as, wcnf_read, wcnf_table, file_says}
use Rattle.rules.proofs.Judging.{words-fine}
use Rattle.text_laws.proofs.LentBytes.{text-fine, text-written}
use Rattle.wcnf_laws.specs.Form.{Form, Held, form_text}
use Rattle.wcnf_laws.specs.Given.{Given, Exactly}
use Rattle.wcnf_laws.specs.Rows.{Laid}
use Rattle.wcnf_laws.proofs.Exact.{exactly}
use Rattle.wcnf_laws.proofs.Says.{figured, same_read}
use Rattle.wcnf_laws.proofs.RowsSaid.{table-says}
use Rattle.wcnf_laws.proofs.Trip.{read_back}
use Rattle.telling.specs.Told.{by_wcnf_read}
use Rattle.demands.specs.Competition.{reader_why, Competition}

-- the reader answers as it judges
pub says-judged : (most : ℕ) (s : List ℕ) (room : ℕ) → reader_why most s room ≡ wcnf_read_why most s room
unfolding wcnf_read wcnf_read_why
says-judged most s room = by-header (header_of s)
  where
    accepted : (j : Judged) (head : WcnfHead) → by_wcnf_read (wcnf_read_as j (Ok head)) ≡ j
    accepted (Ok _) head = refl
    accepted (Err r) head = refl

    by-header : (h : Result WcnfHead ℕ) → by_wcnf_read (wcnf_read_as (header_why most s room h) h) ≡ header_why most s room h
    by-header (Ok head) = accepted (header_why most s room (Ok head)) head
    by-header (Err line) = refl

module _ (most : ℕ) (f : Form) (lent : List ℕ) (held : Held f) (fine : wcnf_read_why most (form_text f) (length lent) ≡ Ok tt) where
  file-answers : wcnf_read most (form_text f) (length lent) ≡ Ok (file_says f.header.variables f.header.clauses)
  unfolding wcnf_read
  file-answers = rw (fine, (figured (form_text f) f held refl).header)

  file-laid : Laid f lent (wcnf_table most (form_text f) lent)
  unfolding wcnf_table
  file-laid =
      let words = wcnf_words (form_text f) in
      record {
        words = words;
        says = table-says f held;
        laid = words-fine (wcnf_read_why most (form_text f) (length lent)) (words ++ drop (length words) lent) lent fine;
      }

says-exactly : Exactly reader_why
says-exactly =
    record {
      given = λ s most room. subst (Given s most room) (sym (says-judged most s room)) (exactly.given s most room);
      nothing_else = λ s most room j g. says-judged most s room ∙ exactly.nothing_else s most room j g;
      first_line = λ s most room k e. exactly.first_line s most room k (sym (says-judged most s room) ∙ e);
      ends_early = exactly.ends_early;
      nothing_follows = exactly.nothing_follows;
    }

pub competition : Competition
competition =
    record {
      writes = λ n table out fine room.
          let text = wcnf_text n table in
          text-written (table_why n table) text out (text-fine (table_why n table) text out fine room);
      reads_back = λ n table lent fine room.
          let back = read_back n table fine in
          (back.answer (length lent) room, back.lent lent room);
      exactly = says-exactly;
      makes = λ most f lent held fine.
          let why = sym (says-judged most (form_text f) (length lent)) ∙ fine in
          (file-answers most f lent held why, file-laid most f lent held why);
      same = λ most f g lent p q only here there.
          (same_read f g p q only).table most lent (sym (says-judged most (form_text f) (length lent)) ∙ here)
          (sym (says-judged most (form_text g) (length lent)) ∙ there);
    }
