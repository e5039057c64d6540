-- What a caller in C is told: a number, and what else there is to say in words lent for it, which are written where the call was accepted
-- and are else as found.
use Rattle.std.specs.Prelude.{ℕ, ◌+◌, ◌-◌, ◌*◌, ◌^◌, min, List, [], ◌∷◌, Bool, cond, Option, Some, None, Result, Ok, Err}
use Rattle.rules.specs.declared.Status.{Status}
use Rattle.rules.specs.declared.Best.{Best}
use Rattle.rules.specs.declared.Found.{Found}
use Rattle.rules.specs.declared.TextRead.{TextRead}
use Rattle.rules.specs.declared.WcnfRead.{WcnfRead}
use Rattle.rules.specs.Refusals.{Judged, number_of, place_of}
use Rattle.rules.specs.declared.Weight.{Weight}
use Rattle.rules.specs.declared.Losses.{Losses}
use Rattle.rules.specs.declared.Refusal.{Refusal}

-- 0 where the call was accepted; else the refusal's number in the low byte, and its place above
abbrev pub told : Judged → ℕ
told (Ok _) = 0
told (Err r) = number_of r + 256 * place_of r

-- the last place for which there is room above the low byte
abbrev pub most_place : ℕ
most_place = 2 ^ 56 - 1

-- a competition file has any number of lines: a place past the last for which there is room is told as that
abbrev pub told_near : Judged → ℕ
told_near (Ok _) = 0
told_near (Err r) = number_of r + 256 * min (place_of r) most_place

abbrev pub by_weighed : Result Weight Refusal → Judged
by_weighed (Ok weighed) = Ok tt
by_weighed (Err r) = Err r

-- whether every hard row holds, as a word
abbrev pub hold_word : Bool → ℕ
hold_word hold = cond hold 1 0

abbrev pub weight_out : Result Weight Refusal → List ℕ → List ℕ
weight_out (Ok weighed) found = weighed.weight ∷ hold_word weighed.hold ∷ []
weight_out (Err r) found = found

abbrev pub by_bounded : Result Losses Refusal → Judged
by_bounded (Ok l) = Ok tt
by_bounded (Err r) = Err r

abbrev pub bound_out : Result Losses Refusal → List ℕ → List ℕ
bound_out (Ok l) found = l.conceded ∷ l.lost ∷ l.foreseen ∷ []
bound_out (Err r) found = found

abbrev pub status_word : Status → ℕ
status_word Status.Done = 0
status_word Status.Stopped = 1
status_word Status.Impossible = 2

-- how many readings are kept, then weight and reading
abbrev pub best_words : Option Best → List ℕ → List ℕ
best_words None more = 0 ∷ 0 ∷ 0 ∷ more
best_words (Some best) more = 1 ∷ best.weight ∷ best.reading ∷ more

abbrev pub found_words : Found → List ℕ
found_words f = status_word f.status ∷ best_words f.best (f.nodes ∷ [])

abbrev pub by_searched : Result Found Refusal → Judged
by_searched (Ok f) = Ok tt
by_searched (Err r) = Err r

abbrev pub found_out : Result Found Refusal → List ℕ → List ℕ
found_out (Ok f) found = found_words f
found_out (Err r) found = found

abbrev pub by_text_read : Result TextRead Refusal → Judged
by_text_read (Ok said) = Ok tt
by_text_read (Err r) = Err r

abbrev pub head_out : Result TextRead Refusal → List ℕ → List ℕ
head_out (Ok said) found = said.variables ∷ said.budget ∷ said.rows ∷ []
head_out (Err r) found = found

abbrev pub by_wcnf_read : Result WcnfRead Refusal → Judged
by_wcnf_read (Ok said) = Ok tt
by_wcnf_read (Err r) = Err r

abbrev pub figures_out : Result WcnfRead Refusal → List ℕ → List ℕ
figures_out (Ok said) found = said.variables ∷ said.rows ∷ []
figures_out (Err r) found = found

abbrev pub by_written : Result ℕ Refusal → Judged
by_written (Ok n) = Ok tt
by_written (Err r) = Err r

abbrev pub length_out : Result ℕ Refusal → ℕ → ℕ
length_out (Ok n) found = n
length_out (Err r) found = found
