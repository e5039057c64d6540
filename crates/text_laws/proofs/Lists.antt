-- A line of literals. Written, it grows by a literal for each variable in turn, and reading what stands so far comes to reading what is left
-- behind it. Read, it is the text of the literals so far at each turn, since no variable up to the last is met again.
use Rattle.std.specs.Prelude.{Some}
use Prim.Native.Nat.{ℕ, zero, suc, ◌+◌, ◌-◌, ◌^◌, ◌<◌, ◌≤◌}
use mathlib.Core.Path.{◌≡◌, refl, sym, ap, ap₂, ◌∙◌}
use mathlib.Core.Logic.{◌⊎◌, inl, inr, ⊎_elim}
use mathlib.Core.Bool.{Bool, true, false, cond, ◌&&◌, or-true, or-false}
use mathlib.Core.List.{List, [], ◌∷◌, ◌++◌}
use native.Mathlib.Nat.{add-zero}
use native.Mathlib.Omega.{arith}
use borrow.Author.Tests.{lt-ltb, le-leb}
use lib.Dec.{leb, ltb}
use lib.Bits.{bit_and, bit_or}
use lib.ListN.{length, get_or, length-append}
use Rattle.masks.specs.Masks.{has, single}
use Rattle.masks.proofs.Choice.{cases, eq-or-ne}
use Rattle.masks.proofs.Bits.{has-or, has-pow-same, has-pow-other, has-zero, lt-of-has, has-ext-below}
use Rattle.masks.proofs.Sets.{apart}
use Rattle.literals.specs.declared.Lits.{Lits}
use Rattle.literals.specs.Lits.{no_lits}
use Rattle.literals.specs.Literal.{most_variables}
use Rattle.rules.specs.Text.{number_text, behind, lits_text, line_feed, space, minus, most_digits}
use Rattle.rules.specs.Reader.{stands, is_digit, number_at, literal_at, with_literal, lits_from}
use Rattle.text_laws.proofs.Stands.{stands-none, first-stands, second-stands, front-byte, behind-byte}
use Rattle.text_laws.proofs.Numbers.{number-reads, number-digit, digit_low, digits-some}
use Rattle.text_laws.proofs.Branches.{with-minus, without-minus, literal-in, lits-end, lits-next}
use Rattle.text_laws.proofs.Lines.{end-no-digit}

-- ---- one literal

unfoldable pub literal_text : Bool → ℕ → List ℕ
literal_text true v = number_text v
literal_text false v = minus ∷ number_text v

picked : (last v : ℕ) → last < v → v ≤ most_variables → (ltb last v && leb v most_variables) ≡ true
picked last v l m = rw (lt-ltb last v l, le-leb v most_variables m)

pub literal-reads : (s : List ℕ) (at last : ℕ) (p : Bool) (v : ℕ) → last < v → v ≤ most_variables → stands s at (literal_text p v) ≡ true
    → is_digit (get_or s (at + length (literal_text p v)) 0) ≡ false
    → literal_at s at last ≡ Some (p, v, at + length (literal_text p v))
unfolding literal_text
literal-reads s at last true v l m e f =
    let d = digit_low (get_or s at 0) (number-digit s at v (omega arith) e) in
    let end = at + length (number_text v) in
    without-minus s at last (λ z. omega arith)
    ∙ literal-in true last v end (number_at s at) (number-reads s at v (omega arith) e f) (picked last v l m)
literal-reads s at last false v l m e f =
    let end = at + 1 + length (number_text v) in
    let far : at + suc (length (number_text v)) ≡ end = omega arith in
    let n = number-reads s (at + 1) v (omega arith) (behind-byte s at minus (number_text v) e) (rw far at f) in
    with-minus s at last (front-byte s at minus (number_text v) e)
    ∙ literal-in false last v end (number_at s (at + 1)) n (picked last v l m)
    ∙ rw far

-- the literal begins with a digit or a minus, so with no end of line
pub literal-front : (s : List ℕ) (at : ℕ) (p : Bool) (v : ℕ) → v ≤ most_variables → stands s at (literal_text p v) ≡ true → get_or s at 0 ≡ line_feed → ⊥
unfolding literal_text
literal-front s at true v m e z = omega (arith, digit_low (get_or s at 0) (number-digit s at v (omega arith) e))
literal-front s at false v m e z = omega (arith, front-byte s at minus (number_text v) e)

module _ (k : ℕ) (s : List ℕ) (at last : ℕ) (l : Lits) (p : Bool) (v : ℕ) (above : last < v) (most : v ≤ most_variables) where
  pub first_reads : last ≡ 0 → stands s at (literal_text p v) ≡ true → is_digit (get_or s (at + length (literal_text p v)) 0) ≡ false
      → lits_from (suc k) s at last l ≡ lits_from k s (at + length (literal_text p v)) v (with_literal l p v)
  first_reads z e f =
      let read = literal-reads s at last p v above most e f in
      lits-next k s at last l at p v (at + length (literal_text p v)) (literal-front s at p v most e) (inl (z, refl)) read

  pub later-reads : (last ≡ 0 → ⊥) → stands s at (space ∷ literal_text p v) ≡ true → is_digit (get_or s (at + suc (length (literal_text p v))) 0) ≡ false
      → lits_from (suc k) s at last l ≡ lits_from k s (at + suc (length (literal_text p v))) v (with_literal l p v)
  later-reads z e f =
      let far : at + suc (length (literal_text p v)) ≡ at + 1 + length (literal_text p v) = omega arith in
      let b = front-byte s at space (literal_text p v) e in
      rw far
      (lits-next k s at last l (at + 1) p v (at + 1 + length (literal_text p v)) (λ q. omega arith) (inr (z, b, refl))
      (literal-reads s (at + 1) last p v above most (behind-byte s at space (literal_text p v) e) (rw far at f)))

-- ---- what is written, as it grows

-- the last variable among the first v that has a literal, or 0
last_of : ℕ → Lits → ℕ
last_of zero l = 0
last_of (suc v) l = cond (has l.positive v) (suc v) (cond (has l.negative v) (suc v) (last_of v l))

-- the literals on the first v variables
cut_to : ℕ → Lits → Lits
cut_to zero l = no_lits
cut_to (suc v) l =
    cond (has l.positive v) (with_literal (cut_to v l) true (suc v))
    (cond (has l.negative v) (with_literal (cut_to v l) false (suc v)) (cut_to v l))

-- nothing is written so far, or something is
abbrev pub Begun : List ℕ → ℕ → Type 0
Begun text last = ((last ≡ 0) × (text ≡ [])) ⊎ ((last ≡ 0 → ⊥) × (0 < length text))

pub behind-none : (more : List ℕ) → behind [] more ≡ more
unfolding behind
behind-none more = refl

pub behind-some : (text more : List ℕ) → 0 < length text → behind text more ≡ text ++ (space ∷ more)
unfolding behind
behind-some [] more l = absurd (omega arith)
behind-some (b ∷ text) more l = refl

pub behind-length : (text more : List ℕ) → 0 < length more → 0 < length (behind text more)
unfolding behind
behind-length [] more l = l
behind-length (b ∷ text) more l = omega arith

pub literal-some : (p : Bool) (v : ℕ) → 0 < length (literal_text p v)
unfolding literal_text number_text
literal-some true v = digits-some (most_digits - 1) v
literal-some false v = omega arith

-- the literal of one sign on variable v + 1 is added
record Adds (p : Bool) (v : ℕ) (l : Lits) : Type 0 where
  text : lits_text (suc v) l ≡ behind (lits_text v l) (literal_text p (suc v))
  last : last_of (suc v) l ≡ suc v
  lits : cut_to (suc v) l ≡ with_literal (cut_to v l) p (suc v)

record Stays (v : ℕ) (l : Lits) : Type 0 where
  text : lits_text (suc v) l ≡ lits_text v l
  last : last_of (suc v) l ≡ last_of v l
  lits : cut_to (suc v) l ≡ cut_to v l

grows : (v : ℕ) (l : Lits) → Adds true v l ⊎ (Adds false v l ⊎ Stays v l)
unfolding lits_text last_of cut_to literal_text
grows v l =
    ⊎_elim (λ (t : has l.positive v ≡ true). inl record { text = rw t; last = rw t; lits = rw t })
    (λ (f : has l.positive v ≡ false).
    inr
    (⊎_elim (λ (t : has l.negative v ≡ true). inl record { text = rw (f, t); last = rw (f, t); lits = rw (f, t) })
    (λ (g : has l.negative v ≡ false). inr record { text = rw (f, g); last = rw (f, g); lits = rw (f, g) })
    (cases (has l.negative v))))
    (cases (has l.positive v))

last_none : (l : Lits) → last_of 0 l ≡ 0
unfolding last_of
last_none l = refl

text-none : (l : Lits) → lits_text 0 l ≡ []
unfolding lits_text
text-none l = refl

last-le : (v : ℕ) (l : Lits) → last_of v l ≤ v
last-le zero l = omega (arith, last_none l)
last-le (suc v) l =
    let ih = last-le v l in
    ⊎_elim (λ a. omega (arith, a.last)) (λ n. ⊎_elim (λ a. omega (arith, a.last)) (λ z. omega (arith, z.last)) n) (grows v l)

begun : (v : ℕ) (l : Lits) → Begun (lits_text v l) (last_of v l)
begun zero l = inl (last_none l, text-none l)
begun (suc v) l = ⊎_elim (λ a. by true a) (λ n. ⊎_elim (λ a. by false a) (λ z. rw (z.text, z.last) (begun v l)) n) (grows v l)
  where
    by : (p : Bool) → Adds p v l → Begun (lits_text (suc v) l) (last_of (suc v) l)
    by p a = inr (λ z. omega (arith, a.last), rw a.text (behind-length (lits_text v l) (literal_text p (suc v)) (literal-some p (suc v))))

-- reading from the line's start comes to reading behind the first v variables' literals, with turns enough for the rest
record Passed (s : List ℕ) (at : ℕ) (l : Lits) (v : ℕ) : Type 0 where
  turns : ℕ
  enough : suc most_variables ≤ turns + v
  same : lits_from (suc most_variables) s at 0 no_lits ≡ lits_from turns s (at + length (lits_text v l)) (last_of v l) (cut_to v l)

abbrev Follows : List ℕ → ℕ → Lits → ℕ → Type 0
Follows s at l v = (last_of v l ≡ 0) ⊎ (is_digit (get_or s (at + length (lits_text v l)) 0) ≡ false)

space-no-digit : (s : List ℕ) (at : ℕ) → get_or s at 0 ≡ space → is_digit (get_or s at 0) ≡ false
unfolding is_digit
space-no-digit s at e = rw e

module _ (s : List ℕ) (at : ℕ) (l : Lits) (v : ℕ) (p : Bool) (h : v < most_variables) (a : Adds p v l)
    (e : stands s at (lits_text (suc v) l) ≡ true) (f : Follows s at l (suc v)) where
  follows : is_digit (get_or s (at + length (lits_text (suc v) l)) 0) ≡ false
  follows = ⊎_elim (λ z. absurd (omega (arith, a.last))) (λ g. g) f

  passed_first : last_of v l ≡ 0 → lits_text v l ≡ [] → Passed s at l v → Passed s at l (suc v)
  passed_first z n before =
      let k = before.turns - 1 in
      let one : before.turns ≡ suc k = omega (arith, before.enough) in
      let piece = literal_text p (suc v) in
      let text : lits_text (suc v) l ≡ piece = a.text ∙ ap (λ (x : List ℕ). behind x piece) n ∙ behind-none piece in
      let here : at + length (lits_text v l) ≡ at = ap (λ (x : List ℕ). at + length x) n ∙ add-zero at in
      let read = first_reads k s at (last_of v l) (cut_to v l) p (suc v) (omega arith) (omega arith) z (rw text at e) (rw text at follows) in
      record {
        turns = k;
        enough = omega (arith, before.enough);
        same = before.same ∙ ap (λ (j : ℕ). lits_from j s (at + length (lits_text v l)) (last_of v l) (cut_to v l)) one ∙ rw (here, text, a.last, a.lits) read;
      }

  passed_later : (last_of v l ≡ 0 → ⊥) → lits_text (suc v) l ≡ lits_text v l ++ (space ∷ literal_text p (suc v)) → Passed s at l v → Passed s at l (suc v)
  passed_later z text before =
      let k = before.turns - 1 in
      let one : before.turns ≡ suc k = omega (arith, before.enough) in
      let place = at + length (lits_text v l) in
      let far : at + length (lits_text (suc v) l) ≡ place + suc (length (literal_text p (suc v))) =
      ap (λ (x : List ℕ). at + length x) text ∙ rw (length-append (lits_text v l) (space ∷ literal_text p (suc v))) (omega arith) in
      let stand = second-stands s at (lits_text v l) (space ∷ literal_text p (suc v)) (rw text at e) in
      let read = later-reads k s place (last_of v l) (cut_to v l) p (suc v) (omega (arith, last-le v l)) (omega arith) z stand (rw far at follows) in
      record {
        turns = k;
        enough = omega (arith, before.enough);
        same = before.same ∙ ap (λ (j : ℕ). lits_from j s place (last_of v l) (cut_to v l)) one ∙ rw (far, a.last, a.lits) read;
      }

  passed-more : (stands s at (lits_text v l) ≡ true → Follows s at l v → Passed s at l v) → Passed s at l (suc v)
  passed-more ih =
      ⊎_elim
      (λ (w : (last_of v l ≡ 0) × (lits_text v l ≡ [])). passed_first w.0 w.1 (ih (rw w.1 (stands-none s at)) (inl w.0)))
      (λ (w : (last_of v l ≡ 0 → ⊥) × (0 < length (lits_text v l))).
      let text = a.text ∙ behind-some (lits_text v l) (literal_text p (suc v)) w.1 in
      let more = space ∷ literal_text p (suc v) in
      let place = at + length (lits_text v l) in
      let e2 = rw text at e in
      let byte = front-byte s place space (literal_text p (suc v)) (second-stands s at (lits_text v l) more e2) in
      passed_later w.0 text (ih (first-stands s at (lits_text v l) more e2) (inr (space-no-digit s place byte))))
      (begun v l)

passed-all : (s : List ℕ) (at : ℕ) (l : Lits) (v : ℕ) → v ≤ most_variables → stands s at (lits_text v l) ≡ true → Follows s at l v → Passed s at l v
unfolding lits_text last_of cut_to
passed-all s at l zero h e f = record { turns = suc most_variables; enough = omega arith; same = rw (add-zero at) }
passed-all s at l (suc v) h e f =
    ⊎_elim (λ (a : Adds true v l). passed-more s at l v true h a e f (passed-all s at l v (omega arith)))
    (λ (n : Adds false v l ⊎ Stays v l).
    ⊎_elim (λ (a : Adds false v l). passed-more s at l v false h a e f (passed-all s at l v (omega arith)))
    (λ (z : Stays v l). stay z (passed-all s at l v (omega arith) (rw z.text at e) (rw (z.text, z.last) at f)))
    n)
    (grows v l)
  where
    stay : Stays v l → Passed s at l v → Passed s at l (suc v)
    stay z b = record { turns = b.turns; enough = omega (arith, b.enough); same = b.same ∙ rw (z.text, z.last, z.lits) }

-- ---- the masks of what was read

-- masks that are apart and reach no further than the variables are what their literals say
record Cut (v : ℕ) (m cut : ℕ) : Type 0 where
  low : (w : ℕ) → w < v → has cut w ≡ has m w
  bound : (w : ℕ) → v ≤ w → has cut w ≡ false

cut-put : (v m cut : ℕ) → v < most_variables → has m v ≡ true → Cut v m cut → Cut (suc v) m (bit_or cut (single (suc v - 1)))
unfolding single
cut-put v m cut l e c =
    let back : suc v - 1 ≡ v = omega arith in
    rw (back, lt-ltb v most_variables l)
    record {
      low =
          λ w h.
          has-or cut (2 ^ v) w
          ∙ ⊎_elim (λ (x : w ≡ v). rw (x, has-pow-same v, e) (or-true (has cut v)))
          (λ (x : w ≡ v → ⊥). rw (has-pow-other v w x, c.low w (omega arith)) (or-false (has m w)))
          (eq-or-ne w v);
      bound = λ w h. has-or cut (2 ^ v) w ∙ rw (has-pow-other v w (λ z. omega arith), c.bound w (omega arith));
    }

cut-skip : (v m cut : ℕ) → has m v ≡ false → Cut v m cut → Cut (suc v) m cut
cut-skip v m cut e c =
    record {
      low =
          λ w h.
          ⊎_elim (λ (x : w ≡ v). rw x (c.bound v (omega arith) ∙ sym e)) (λ (x : w ≡ v → ⊥). c.low w (omega arith)) (eq-or-ne w v);
      bound = λ w h. c.bound w (omega arith);
    }

cut-none : (m : ℕ) → Cut 0 m 0
cut-none m = record { low = λ w h. absurd (omega arith); bound = λ w h. has-zero w }

cut_all : (m cut : ℕ) → m < 2 ^ most_variables → Cut most_variables m cut → cut ≡ m
cut_all m cut l c = has-ext-below most_variables (lt-of-has cut most_variables c.bound) l c.low

cuts : (v : ℕ) (l : Lits) → v ≤ most_variables → bit_and l.positive l.negative ≡ 0
    → Cut v l.positive (cut_to v l).positive × Cut v l.negative (cut_to v l).negative
unfolding cut_to no_lits with_literal
cuts zero l h e = (cut-none l.positive, cut-none l.negative)
cuts (suc v) l h e =
    let p = l.positive in
    let n = l.negative in
    let cp = (cut_to v l).positive in
    let cn = (cut_to v l).negative in
    let ih = cuts v l (omega arith) e in
    ⊎_elim
    (λ (t : has l.positive v ≡ true). rw t (cut-put v p cp h t ih.0, cut-skip v n cn (apart p n e v t) ih.1))
    (λ (f : has l.positive v ≡ false).
    ⊎_elim
    (λ (t : has l.negative v ≡ true). rw (f, t) (cut-skip v p cp f ih.0, cut-put v n cn h t ih.1))
    (λ (g : has l.negative v ≡ false). rw (f, g) (cut-skip v p cp f ih.0, cut-skip v n cn g ih.1))
    (cases (has l.negative v)))
    (cases (has l.positive v))

masks : ℕ → ℕ → Lits
masks p n = record { positive = p; negative = n }

same-masks : (a b : Lits) → a.positive ≡ b.positive → a.negative ≡ b.negative → a ≡ b
unfolding masks
same-masks a b p q = ap₂ masks p q

cut-is : (l : Lits) → l.positive < 2 ^ most_variables → l.negative < 2 ^ most_variables → bit_and l.positive l.negative ≡ 0 → cut_to most_variables l ≡ l
cut-is l p n e =
    let c = cuts most_variables l (omega arith) e in
    let cut = cut_to most_variables l in
    same-masks cut l (cut_all l.positive cut.positive p c.0) (cut_all l.negative cut.negative n c.1)

-- ---- the token's first law

pub lits-read : (s : List ℕ) (at : ℕ) (l : Lits) → l.positive < 2 ^ most_variables → l.negative < 2 ^ most_variables → bit_and l.positive l.negative ≡ 0
    → stands s at (lits_text most_variables l ++ (line_feed ∷ [])) ≡ true
    → lits_from (suc most_variables) s at 0 no_lits ≡ Some (l, at + length (lits_text most_variables l ++ (line_feed ∷ [])))
lits-read s at l p n a e =
    let text = lits_text most_variables l in
    let place = at + length text in
    let byte = front-byte s place line_feed [] (second-stands s at text (line_feed ∷ []) e) in
    let w = passed-all s at l most_variables (omega arith) (first-stands s at text (line_feed ∷ []) e) (inr (end-no-digit s place byte)) in
    let one : w.turns ≡ suc (w.turns - 1) = omega (arith, w.enough) in
    let far : at + length (text ++ (line_feed ∷ [])) ≡ place + 1 = rw (length-append text (line_feed ∷ [])) (omega arith) in
    w.same ∙ rw (one, far, cut-is l p n a) (lits-end (w.turns - 1) s place (last_of most_variables l) l byte)
