-- A text cut into its lines. Bytes without LF, with one behind them, are the first line, and what follows is behind it; and where the first line is
-- ended, the text is just so. At a place of a text, a line that stands there is the first line of what is dropped to that place.
use Prim.Native.Nat.{ℕ, zero, suc, ◌+◌, ◌<◌, ◌≤◌, ◌%◌, ◌/◌}
use mathlib.Core.Path.{◌≡◌, refl, sym, ap, ap₂, ◌∙◌, subst}
use mathlib.Core.Bool.{Bool, true, false, cond}
use mathlib.Core.List.{List, [], ◌∷◌, ◌++◌, append_assoc}
use native.Mathlib.Omega.{arith}
use borrow.Author.Tests.{eqb-true, ne_eqb}
use lib.Dec.{eqb, ltb}
use lib.ListN.{length, get_or, drop, length-append, get_or-append}
use lib.Seq.{drop-cons, get_or-drop}
use Rattle.masks.specs.Masks.{has}
use Rattle.masks.proofs.Choice.{impossible}
use Rattle.literals.specs.declared.Lits.{Lits}
use Rattle.rules.specs.Text.{line_feed, space, minus, digit_zero, most_digits, digits, number_text, behind, lits_text}
use Rattle.rules.specs.Reader.{stands}
use Rattle.text_laws.specs.Lines.{Line, ended, unended, missing, in_front_of, first_line, past_line, first_lines, line_at, NoFeed}
use Rattle.text_laws.proofs.Stands.{stands_of, second-stands, front-byte, behind-byte, inside}

-- ---- bytes without LF

pub no-feed-append : (a b : List ℕ) → NoFeed a → NoFeed b → NoFeed (a ++ b)
no-feed-append [] b p q = q
no-feed-append (x ∷ a) b p q = (p.0, no-feed-append a b p.1 q)

digit-no-feed : (d : ℕ) → NoFeed ((digit_zero + d) ∷ [])
digit-no-feed d = (ne_eqb (digit_zero + d) line_feed (λ e. omega arith), tt)

digits-no-feed : (k n : ℕ) → NoFeed (digits k n)
unfolding digits
digits-no-feed zero n = tt
digits-no-feed (suc k) n = go (ltb n 10) (digits-no-feed k (n / 10))
  where
    go : (b : Bool) → NoFeed (digits k (n / 10)) → NoFeed (cond b ((digit_zero + n) ∷ []) (digits k (n / 10) ++ ((digit_zero + n % 10) ∷ [])))
    go true ih = digit-no-feed n
    go false ih = no-feed-append (digits k (n / 10)) ((digit_zero + n % 10) ∷ []) ih (digit-no-feed (n % 10))

pub number-no-feed : (n : ℕ) → NoFeed (number_text n)
unfolding number_text
number-no-feed n = digits-no-feed most_digits n

behind-no-feed : (before literal : List ℕ) → NoFeed before → NoFeed literal → NoFeed (behind before literal)
unfolding behind
behind-no-feed [] literal p q = q
behind-no-feed (b ∷ before) literal p q = no-feed-append (b ∷ before) (space ∷ literal) p (refl, q)

pub lits-no-feed : (n : ℕ) (l : Lits) → NoFeed (lits_text n l)
unfolding lits_text
lits-no-feed zero l = tt
lits-no-feed (suc v) l = go (has l.positive v) (has l.negative v) (lits-no-feed v l)
  where
    go : (p n : Bool) → NoFeed (lits_text v l)
        → NoFeed (cond p (behind (lits_text v l) (number_text (suc v))) (cond n (behind (lits_text v l) (minus ∷ number_text (suc v))) (lits_text v l)))
    go true n ih = behind-no-feed (lits_text v l) (number_text (suc v)) ih (number-no-feed (suc v))
    go false true ih = behind-no-feed (lits_text v l) (minus ∷ number_text (suc v)) ih (refl, number-no-feed (suc v))
    go false false ih = ih

-- ---- the first line

pub line-ended : (c r : List ℕ) → NoFeed c → first_line (c ++ (line_feed ∷ r)) ≡ ended c
unfolding first_line
line-ended [] r p = refl
line-ended (b ∷ c) r p = rw (p.0, line-ended c r p.1)

pub past-ended : (c r : List ℕ) → NoFeed c → past_line (c ++ (line_feed ∷ r)) ≡ r
unfolding past_line
past-ended [] r p = refl
past-ended (b ∷ c) r p = rw p.0 (past-ended c r p.1)

-- so each line that is taken off is a line of the list
pub lines-ended : (k : ℕ) (c r : List ℕ) → NoFeed c → first_lines (suc k) (c ++ (line_feed ∷ r)) ≡ ended c ∷ first_lines k r
unfolding first_lines
lines-ended k c r p = ap₂ ◌∷◌ (line-ended c r p) (ap (first_lines k) (past-ended c r p))

pub ended_is : (s c : List ℕ) → first_line s ≡ ended c → s ≡ c ++ (line_feed ∷ past_line s)
unfolding first_line past_line
ended_is [] c e = impossible (cc)
ended_is (b ∷ s) c e = go (eqb b line_feed) refl (first_line s) refl (ended_is s) e
  where
    go : (t : Bool) → eqb b line_feed ≡ t → (x : Line) → first_line s ≡ x → ((c : List ℕ) → first_line s ≡ ended c → s ≡ c ++ (line_feed ∷ past_line s))
        → cond t (ended []) (in_front_of b x) ≡ ended c → b ∷ s ≡ c ++ (line_feed ∷ cond t s (past_line s))
    go true t x h ih q =
        let none : [] ≡ c = cc in
        rw (← none, eqb-true b line_feed t)
    go false t (ended bytes) h ih q =
        let front : b ∷ bytes ≡ c = cc in
        rw (← front) (ap (λ (l : List ℕ). b ∷ l) (ih bytes h))
    go false t (unended bytes) h ih q = impossible (cc)
    go false t missing h ih q = impossible (cc)

-- and its bytes are without LF
ended-no-feed : (s c : List ℕ) → first_line s ≡ ended c → NoFeed c
unfolding first_line
ended-no-feed [] c e = impossible (cc)
ended-no-feed (b ∷ s) c e = go (eqb b line_feed) refl (first_line s) refl (ended-no-feed s) e
  where
    go : (t : Bool) → eqb b line_feed ≡ t → (x : Line) → first_line s ≡ x → ((c : List ℕ) → first_line s ≡ ended c → NoFeed c)
        → cond t (ended []) (in_front_of b x) ≡ ended c → NoFeed c
    go true t x h ih q = let front : [] ≡ c = cc in subst NoFeed front tt
    go false t (ended bytes) h ih q = let front : b ∷ bytes ≡ c = cc in subst NoFeed front (t, ih bytes h)
    go false t (unended bytes) h ih q = impossible (cc)
    go false t missing h ih q = impossible (cc)

pub missing-is : (s : List ℕ) → first_line s ≡ missing → s ≡ []
unfolding first_line
missing-is [] e = refl
missing-is (b ∷ s) e = go (eqb b line_feed) (first_line s) e
  where
    go : (t : Bool) (x : Line) → cond t (ended []) (in_front_of b x) ≡ missing → b ∷ s ≡ []
    go true x q = impossible (cc)
    go false (ended bytes) q = impossible (cc)
    go false (unended bytes) q = impossible (cc)
    go false missing q = impossible (cc)

-- fewer lines are alike where more are
pub fewer-lines : (j k : ℕ) (s t : List ℕ) → j ≤ k → first_lines k s ≡ first_lines k t → first_lines j s ≡ first_lines j t
unfolding first_lines
fewer-lines zero k s t l e = refl
fewer-lines (suc j) zero s t l e = absurd (omega arith)
fewer-lines (suc j) (suc k) s t l e =
    let one : first_line s ≡ first_line t = cc in
    let more : first_lines k (past_line s) ≡ first_lines k (past_line t) = cc in
    ap₂ ◌∷◌ one (fewer-lines j k (past_line s) (past_line t) (omega arith) more)

-- ---- a line that is ended stays so, whatever follows

first_more : (s more c : List ℕ) → first_line s ≡ ended c → (first_line (s ++ more) ≡ ended c) × (past_line (s ++ more) ≡ past_line s ++ more)
first_more s more c e =
    let cut : s ++ more ≡ c ++ (line_feed ∷ (past_line s ++ more)) =
    ap (λ (x : List ℕ). x ++ more) (ended_is s c e) ∙ append_assoc c (line_feed ∷ past_line s) more in
    let free = ended-no-feed s c e in
    (ap first_line cut ∙ line-ended c (past_line s ++ more) free, ap past_line cut ∙ past-ended c (past_line s ++ more) free)

past-none : (s : List ℕ) → ((c : List ℕ) → first_line s ≡ ended c → ⊥) → past_line s ≡ []
unfolding first_line past_line
past-none [] h = refl
past-none (b ∷ s) h = go (eqb b line_feed) refl (past-none s)
  where
    go : (t : Bool) → eqb b line_feed ≡ t → (((c : List ℕ) → first_line s ≡ ended c → ⊥) → past_line s ≡ []) → cond t s (past_line s) ≡ []
    go true t ih = absurd (h [] (rw t))
    go false t ih = ih (λ c e. h (b ∷ c) (rw (t, e)))

none-missing : (k : ℕ) → line_at (suc k) [] ≡ missing
unfolding line_at first_line past_line
none-missing zero = refl
none-missing (suc k) = none-missing k

pub lines_more : (k : ℕ) (s more c : List ℕ) → line_at (suc k) s ≡ ended c → first_lines (suc k) (s ++ more) ≡ first_lines (suc k) s
unfolding first_lines line_at
lines_more zero s more c e = ap (λ (x : Line). x ∷ []) ((first_more s more c e).0 ∙ sym e)
lines_more (suc k) s more c e = go (first_line s) refl (lines_more k (past_line s) more c e)
  where
    nothing : ((x : List ℕ) → first_line s ≡ ended x → ⊥) → first_lines (suc (suc k)) (s ++ more) ≡ first_lines (suc (suc k)) s
    nothing h =
        let z : line_at (suc k) (past_line s) ≡ missing = ap (line_at (suc k)) (past-none s h) ∙ none-missing k in
        impossible (cc)

    go : (x : Line) → first_line s ≡ x → first_lines (suc k) (past_line s ++ more) ≡ first_lines (suc k) (past_line s)
        → first_lines (suc (suc k)) (s ++ more) ≡ first_lines (suc (suc k)) s
    go (ended x) h ih =
        let f = first_more s more x h in
        ap₂ ◌∷◌ (f.0 ∙ sym h) (ap (first_lines (suc k)) f.1 ∙ ih)
    go (unended x) h ih = nothing (λ y e. impossible (cc))
    go missing h ih = nothing (λ y e. impossible (cc))

-- ---- a line at a place

drop-of-stands : (s : List ℕ) (at : ℕ) (bs : List ℕ) → stands s at bs ≡ true → at + length bs ≤ length s → drop at s ≡ bs ++ drop (at + length bs) s
drop-of-stands s at [] e l = let here : at + 0 ≡ at = omega arith in rw here
drop-of-stands s at (b ∷ bs) e l =
    let within : at < length s = omega arith in
    let next : at + suc (length bs) ≡ suc at + length bs = omega arith in
    let one : at + 1 ≡ suc at = omega arith in
    rw (drop-cons s at 0 within, front-byte s at b bs e, next)
    (ap (λ (l : List ℕ). b ∷ l) (drop-of-stands s (suc at) bs (rw one at (behind-byte s at b bs e)) (omega arith)))

pub stands-of-drop : (s : List ℕ) (at : ℕ) (bs r : List ℕ) → drop at s ≡ bs ++ r → stands s at bs ≡ true
stands-of-drop s at bs r e =
    stands_of s at bs (λ k l. sym (get_or-drop at s k 0) ∙ ap (λ (x : List ℕ). get_or x k 0) e ∙ get_or-append bs r 0 k l)

-- a line that stands at a place
pub record LineAt (s : List ℕ) (at : ℕ) (c : List ℕ) (next : ℕ) : Type 0 where
  pub cut : drop at s ≡ c ++ (line_feed ∷ drop next s)
  pub inside : next ≤ length s

pub line-at : (s : List ℕ) (at : ℕ) (c : List ℕ) (next : ℕ) → stands s at (c ++ (line_feed ∷ [])) ≡ true → next ≡ at + length (c ++ (line_feed ∷ []))
    → LineAt s at c next
line-at s at c next e p =
    let feed : get_or s (at + length c) 0 ≡ line_feed = front-byte s (at + length c) line_feed [] (second-stands s at c (line_feed ∷ []) e) in
    let far : at + length c < length s = inside s (at + length c) (rw feed (omega arith)) in
    let long : length (c ++ (line_feed ∷ [])) ≡ length c + 1 = length-append c (line_feed ∷ []) in
    let reach : at + length (c ++ (line_feed ∷ [])) ≤ length s = omega arith in
    record {
      cut = drop-of-stands s at (c ++ (line_feed ∷ [])) e reach ∙ rw (← p) (append_assoc c (line_feed ∷ []) (drop next s));
      inside = rw p reach;
    }

pub at-line : (s : List ℕ) (at : ℕ) (c : List ℕ) → first_line (drop at s) ≡ ended c → stands s at (c ++ (line_feed ∷ [])) ≡ true
at-line s at c e =
    stands-of-drop s at (c ++ (line_feed ∷ [])) (past_line (drop at s))
    (ended_is (drop at s) c e ∙ sym (append_assoc c (line_feed ∷ []) (past_line (drop at s))))
