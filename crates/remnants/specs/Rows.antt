-- What the functions of `inner` ask of named rows, and what they find of their remnants.
use Rattle.std.specs.Prelude.{ℕ, ◌+◌, ◌-◌, ◌*◌, ◌≤◌, ◌<◌, List, Bool, cond, ◌&&◌, length, get_or, eqb}
use Rattle.masks.specs.Masks.{count}
use Rattle.literals.specs.declared.Lits.{Lits}
use Rattle.literals.specs.Lits.{negated_lits, together, same_lits, is_empty}
use Rattle.rules.specs.Table.{row_words}
use Rattle.rules.specs.Desk.{head_words}
use Rattle.rules.specs.Rewrite.{clash, apart_from, links, lit, forked}
use Rattle.rules.specs.Steps.{remnant_of, fewest, most, fewer_added}
use Rattle.remnants.specs.declared.Link.{Link}
use Rattle.remnants.specs.declared.Ends.{Ends}

-- the named rows lie within the lent words
pub record OnDesk (d named : List ℕ) : Type 0 where
  pub head : head_words ≤ length d
  pub inside : (i : ℕ) → i < length named → head_words + row_words * (get_or named i 0 + 1) ≤ length d

-- two remnants that are alike but for one variable, of opposite signs
unfoldable pub merges_two : Lits → Lits → Bool
merges_two l m =
    let v = clash l m in
    eqb (count v) 1 && same_lits (apart_from v l) (apart_from v m)

-- what a merge leaves of its two rows
abbrev pub rest_of : (ℕ → Lits) → Lits
rest_of f = apart_from (clash (f 0) (f 1)) (f 0)

-- how far a chain over k rows fits, and where it leads
unfoldable pub link_of : (ℕ → Lits) → ℕ → Link
link_of f k = record { fits = links f k; lit = lit f k }

-- what a fork gives last
unfoldable pub fork_end : ℕ → (ℕ → Lits) → Ends
fork_end k f =
    let a = lit f k in
    let bc = together (forked f k 1) (forked f k 2) in
    record { one = together a (negated_lits bc); other = together (negated_lits a) bc }

-- a known kind with the right count of rows
pub record WellNamed (kind n : ℕ) : Type 0 where
  pub some : 1 ≤ kind
  pub known : kind ≤ 4
  pub fewest_named : fewest kind ≤ n
  pub most_named : n ≤ most kind

-- rows that a rewriting which fits adds, by the table of kinds
unfoldable pub added_rows : List ℕ → ℕ → List ℕ → ℕ
added_rows d kind named =
    let f = remnant_of d named in
    cond (eqb kind 1 && is_empty (rest_of f)) 0 (length named - fewer_added kind)
