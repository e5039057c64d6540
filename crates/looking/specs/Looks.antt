-- A hunt as code keeps it: the trail's masks and rows stand in words.
use Rattle.std.specs.Prelude.{ℕ, ◌+◌, ◌*◌, ◌≤◌, ◌<◌, List, ◌≡◌, Bool, cond, not, eqb, length, get_or}
use Rattle.masks.specs.Masks.{count}
use Rattle.literals.specs.declared.Lits.{Lits}
use Rattle.literals.specs.Literal.{most_variables}
use Rattle.literals.specs.Lits.{is_empty, is_one}
use Rattle.rules.specs.declared.Part.{Part}
use Rattle.rules.specs.Table.{row_words}
use Rattle.rules.specs.Desk.{head_words, row_on, satisfied, remnant}
use Rattle.rules.specs.Groups.{Hunt, conflict_at, forced_at}
use Rattle.group_laws.specs.Trails.{trail_of}
use Rattle.looking.specs.declared.Trail.{Trail}

-- the literals of a desk's rows
abbrev pub lits_on : List ℕ → ℕ → Lits
lits_on d i = (row_on d i).lits

-- whether a conflict is found
abbrev pub is_found : Trail → Bool
is_found t = not (eqb t.found 0)

-- the hunt whose trail has these masks and these rows
abbrev pub hunt_of : Trail → List ℕ → List ℕ → Hunt
hunt_of t masks rows =
    record {
      q = t.q;
      trail = trail_of (λ k. get_or masks k 0) (λ k. get_or rows k 0) t.entries;
      found = is_found t;
      conflict = t.conflict;
    }

-- with a conflict
unfoldable pub conflicting : ℕ → Trail → Trail
conflicting i t = record { q = t.q; entries = t.entries; found = 1; conflict = i }

-- "If its remnant under q is empty, the row is the conflict. If its remnant under q is one literal, that literal is made true": a row that has a
-- working weight and passes the test
unfoldable pub looked_at : ℕ → Lits → Hunt → Hunt
looked_at i row h =
    let l = remnant h.q row in
    let unit = cond (is_one l) (forced_at i l h) h in
    cond (not (satisfied h.q row)) (cond (is_empty l) (conflict_at i h) unit) h

-- "the rows whose remnant at the node is one literal"
abbrev pub left_one : Part → Lits → Bool
left_one p l = is_one (remnant p l)

-- row i and its working weight lie within the words, and there is no conflict yet
pub record Due (d words : List ℕ) (i : ℕ) (t : Trail) : Type 0 where
  pub row : head_words + row_words * (i + 1) ≤ length d
  pub weight : i < length words
  pub running : t.found ≡ 0

-- room for a trail: an entry for each variable that there can be
pub record Lent (ms rs : List ℕ) : Type 0 where
  pub masks : length ms ≡ most_variables
  pub rows : length rs ≡ most_variables

-- Each entry has decided a variable of its own, so that there is room for one more wherever a variable is undecided.
pub record Roomy (t : Trail) (ms rs : List ℕ) : Type 0 where
  pub short : t.entries ≤ count t.q.decided
  pub lent : Lent ms rs
  pub single : (k : ℕ) → k < t.entries → count (get_or ms k 0) ≡ 1

-- a literal alone, by its variable's mask and its sign, as a partial reading in which it is true
abbrev pub sided : ℕ → Bool → Part
sided m positive = record { decided = m; truths = cond positive m 0 }
