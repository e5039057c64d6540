-- A clause as one value: what the definitions say of its signed numbers, gathered while they are read one by one.
use Rattle.std.specs.Prelude.{ℕ, suc, ◌+◌, Bool, true, false, cond, ◌||◌, List, eqb, length, get_or, ℤ, pos, negsuc, neg_ℤ, Option, Some, None}
use Rattle.literals.specs.declared.Lits.{Lits}
use Rattle.literals.specs.Lits.{together}
use Rattle.rules.specs.Text.{line_feed}
use Rattle.rules.specs.WcnfReader.{space_run, MembersRead, members, broken_line, on_signed, on_clause, lits_of_members, some_above, bad_members}
use Rattle.wcnf_pieces.specs.declared.SignedRead.{SignedRead}
use Rattle.wcnf_pieces.specs.declared.Gathered.{Gathered}
use Rattle.wcnf_pieces.specs.declared.ClauseRead.{ClauseRead}

-- the number of a size and a sign
abbrev pub of_sign : Bool → ℕ → ℤ
of_sign negative n = cond negative (neg_ℤ (pos n)) (pos n)

-- a number by its size and sign
abbrev pub signed_read : ℤ → ℕ → Option SignedRead
signed_read (pos n) next = Some (record { size = n; negative = false; next = next })
signed_read (negsuc n) next = Some (record { size = suc n; negative = true; next = next })

-- a signed number
unfoldable pub signed_at : List ℕ → ℕ → Option SignedRead
signed_at s at = on_signed s at None signed_read

-- with a gap in front
unfoldable pub member_at : List ℕ → ℕ → Option SignedRead
member_at s at =
    let gap = space_run s at (length s) in
    cond (eqb gap 0) None (signed_at s (at + gap))

-- what was gathered, where the line ends behind its closing 0
unfoldable pub closed_at : List ℕ → ℕ → Lits → Bool → Option Gathered
closed_at s at lits above = cond (eqb (get_or s at 0) line_feed) (Some (record { lits = lits; above = above; next = at + 1 })) None

-- what is read, behind literals that were read already and whether one of them was above the count
abbrev pub gathered : ℕ → Lits → Bool → MembersRead → Option Gathered
gathered variables lits above (members ls next) =
    Some (record { lits = together lits (lits_of_members ls); above = above || some_above variables ls; next = next })
gathered variables lits above broken_line = None

-- a clause: its weight, its literals, and whether these are bad
unfoldable pub clause_at : ℕ → List ℕ → ℕ → Option ClauseRead
clause_at variables s at =
    on_clause s at None (λ w ls next. Some (record { weight = w; lits = lits_of_members ls; bad = bad_members variables ls; next = next }))
