-- A line of literals that is read is written so. At each turn the literals so far are written up to the place, and reach no further than the
-- last variable; the next one is above it, so that it comes behind what is written and changes nothing of it.
use Rattle.std.specs.Prelude.{Option, Some, None}
use Prim.Native.Nat.{ℕ, zero, suc, ◌+◌, ◌-◌, ◌^◌, ◌<◌, ◌≤◌}
use mathlib.Core.Path.{◌≡◌, refl, sym, ap, subst, ◌∙◌}
use mathlib.Core.Logic.{inl, inr, ⊎_elim}
use mathlib.Core.Bool.{Bool, true, false, or-true, or-false}
use mathlib.Core.List.{List, [], ◌∷◌, ◌++◌}
use native.Mathlib.Nat.{add-zero}
use native.Mathlib.Omega.{arith}
use borrow.Author.Tests.{eqb-true, eqb-false, lt-ltb}
use lib.Dec.{eqb}
use lib.Bits.{bit_and, bit_or}
use lib.ListN.{length, get_or, length-append}
use Rattle.masks.specs.Masks.{has, single}
use Rattle.masks.proofs.Choice.{cases, clash, impossible, lt-or-le, some-pair}
use Rattle.masks.proofs.Bits.{has-or, has-past, has-pow-same, has-pow-other, lt-of-has}
use Rattle.masks.proofs.Sets.{apart, apart_of}
use Rattle.literals.specs.declared.Lits.{Lits}
use Rattle.literals.specs.Lits.{no_lits}
use Rattle.literals.specs.Literal.{most_variables}
use Rattle.rules.specs.Text.{number_text, behind, lits_text, line_feed, space, minus}
use Rattle.rules.specs.Reader.{stands, literal_at, with_literal, lits_from}
use Rattle.text_laws.proofs.Stands.{stands-none, both-stand, byte-stands, cons-stands}
use Rattle.text_laws.proofs.Numbers.{number-found}
use Rattle.text_laws.proofs.Branches.{LiteralFound, literal-found, Parted, lits-none, lits-end, lits-unparted, lits-broken, lits-next}
use Rattle.text_laws.proofs.Lists.{literal_text, Begun, behind-none, behind-some, behind-length, literal-some}

-- ---- one bit more in a mask

module _ (m u : ℕ) (h : u < most_variables) where
  put_is : bit_or m (single (suc u - 1)) ≡ bit_or m (2 ^ u)
  unfolding single
  put_is = let back : suc u - 1 ≡ u = omega arith in rw (back, lt-ltb u most_variables h)

  put_has : has (bit_or m (single (suc u - 1))) u ≡ true
  put_has = rw (put_is, has-or m (2 ^ u) u, has-pow-same u) (or-true (has m u))

  put_low : (w : ℕ) → w < u → has (bit_or m (single (suc u - 1))) w ≡ has m w
  put_low w l = rw (put_is, has-or m (2 ^ u) w, has-pow-other u w (λ z. omega arith)) (or-false (has m w))

  put-bound : (n : ℕ) → m < 2 ^ n → n ≤ u → bit_or m (single (suc u - 1)) < 2 ^ suc u
  put-bound n l k =
      rw put_is
      (lt-of-has (bit_or m (2 ^ u)) (suc u)
      (λ w g. has-or m (2 ^ u) w ∙ rw (has-past n l (let z : n ≤ w = omega arith in z), has-pow-other u w (λ z. omega arith))))

wider : (m n k : ℕ) → m < 2 ^ n → n ≤ k → m < 2 ^ k
wider m n k l h = lt-of-has m k (λ w g. has-past n l (let z : n ≤ w = omega arith in z))

-- ---- what is written of a set goes by its bits

lits-same : (v : ℕ) (a b : Lits) → ((w : ℕ) → w < v → has a.positive w ≡ has b.positive w) → ((w : ℕ) → w < v → has a.negative w ≡ has b.negative w)
    → lits_text v a ≡ lits_text v b
unfolding lits_text
lits-same zero a b p n = refl
lits-same (suc v) a b p n =
    rw (p v (omega arith), n v (omega arith), lits-same v a b (λ w l. p w (omega arith)) (λ w l. n w (omega arith)))

lits-quiet : (last d : ℕ) (l : Lits) → l.positive < 2 ^ last → l.negative < 2 ^ last → lits_text (last + d) l ≡ lits_text last l
unfolding lits_text
lits-quiet last zero l p n = rw (add-zero last)
lits-quiet last (suc d) l p n =
    let e : last + suc d ≡ suc (last + d) = omega arith in
    rw (e, has-past last p (let z : last ≤ last + d = omega arith in z), has-past last n (let z : last ≤ last + d = omega arith in z)) (lits-quiet last d l p n)

lits-upto : (last u : ℕ) (l : Lits) → last ≤ u → l.positive < 2 ^ last → l.negative < 2 ^ last → lits_text u l ≡ lits_text last l
lits-upto last u l h p n =
    let e : u ≡ last + (u - last) = omega arith in
    ap (λ (k : ℕ). lits_text k l) e ∙ lits-quiet last (u - last) l p n

-- the set with one literal more, above all that it has
module _ (last : ℕ) (l : Lits) (u : ℕ) (h : u < most_variables) (k : last ≤ u) (bp : l.positive < 2 ^ last) (bn : l.negative < 2 ^ last) where
  with-text : (p : Bool) → lits_text (suc u) (with_literal l p (suc u)) ≡ behind (lits_text last l) (literal_text p (suc u))
  unfolding lits_text with_literal literal_text
  with-text true =
      rw (put_has l.positive u h)
      (ap (λ (x : List ℕ). behind x (number_text (suc u)))
      (lits-same u (with_literal l true (suc u)) l (put_low l.positive u h) (λ w g. refl) ∙ lits-upto last u l k bp bn))
  with-text false =
      rw (has-past last bp k, put_has l.negative u h)
      (ap (λ (x : List ℕ). behind x (minus ∷ number_text (suc u)))
      (lits-same u (with_literal l false (suc u)) l (λ w g. refl) (put_low l.negative u h) ∙ lits-upto last u l k bp bn))

  with-bounds : (p : Bool) → ((with_literal l p (suc u)).positive < 2 ^ suc u) × ((with_literal l p (suc u)).negative < 2 ^ suc u)
  unfolding with_literal
  with-bounds true = (put-bound l.positive u h last bp k, wider l.negative last (suc u) bn (omega arith))
  with-bounds false = (wider l.positive last (suc u) bp (omega arith), put-bound l.negative u h last bn k)

  with-apart : bit_and l.positive l.negative ≡ 0 → (p : Bool)
      → bit_and (with_literal l p (suc u)).positive (with_literal l p (suc u)).negative ≡ 0
  unfolding with_literal
  with-apart a true =
      apart_of (bit_or l.positive (single (suc u - 1))) l.negative
      (λ w t.
      ⊎_elim
      (λ (g : w < u). apart l.positive l.negative a w (sym (put_low l.positive u h w g) ∙ t))
      (λ (g : u ≤ w). has-past last bn (let z : last ≤ w = omega arith in z))
      (lt-or-le w u))
  with-apart a false =
      apart_of l.positive (bit_or l.negative (single (suc u - 1)))
      (λ w t.
      ⊎_elim
      (λ (g : w < u). put_low l.negative u h w g ∙ apart l.positive l.negative a w t)
      (λ (g : u ≤ w). absurd (clash t (has-past last bp (let z : last ≤ w = omega arith in z))))
      (lt-or-le w u))

-- ---- one literal

literal-stands : (s : List ℕ) (at last : ℕ) (p : Bool) (v next : ℕ) → LiteralFound s at last p v next
    → (stands s at (literal_text p v) ≡ true) × (next ≡ at + length (literal_text p v))
unfolding literal_text
literal-stands s at last true v next f =
    let n = number-found s at v next f.number in
    (n.stand, n.end)
literal-stands s at last false v next f =
    let n = number-found s (at + 1) v next f.number in
    let end : at + 1 + length (number_text v) ≡ at + suc (length (number_text v)) = omega arith in
    (cons-stands s at minus (number_text v) f.sign n.stand, n.end ∙ end)

-- ---- what is read so far

record SoFar (s : List ℕ) (from at last : ℕ) (l : Lits) : Type 0 where
  most : last ≤ most_variables
  positive : l.positive < 2 ^ last
  negative : l.negative < 2 ^ last
  both : bit_and l.positive l.negative ≡ 0
  stand : stands s from (lits_text last l) ≡ true
  place : at ≡ from + length (lits_text last l)
  start : Begun (lits_text last l) last

module _ (s : List ℕ) (from at last : ℕ) (l : Lits) (so : SoFar s from at last l) (q : ℕ) (p : Bool) (v next : ℕ) (f : LiteralFound s q last p v next) where
  -- the text with the literal, in its two forms
  abbrev Grown : List ℕ → Type 0
  Grown text = (stands s from text ≡ true) × (next ≡ from + length text)

  grown-first : lits_text last l ≡ [] → q ≡ at → Grown (behind (lits_text last l) (literal_text p v))
  grown-first n e =
      let w = literal-stands s q last p v next f in
      let here : q ≡ from = e ∙ so.place ∙ ap (λ (x : List ℕ). from + length x) n ∙ add-zero from in
      rw (n, behind-none (literal_text p v)) (rw (← here) (w.0, w.1))

  grown-later : 0 < length (lits_text last l) → get_or s at 0 ≡ space → q ≡ at + 1 → Grown (behind (lits_text last l) (literal_text p v))
  grown-later b c e =
      let w = literal-stands s q last p v next f in
      let lit = literal_text p v in
      let text = lits_text last l in
      let there : stands s (from + length text) (space ∷ lit) ≡ true = rw (← so.place) (cons-stands s at space lit c (rw (← e) w.0)) in
      rw (behind-some text lit b)
      (both-stand s from text (space ∷ lit) so.stand there, w.1 ∙ rw (e, so.place, length-append text (space ∷ lit)) (omega arith))

  grown : Parted s at last q → Grown (behind (lits_text last l) (literal_text p v))
  grown parts =
      ⊎_elim
      (λ (x : (last ≡ 0) × (q ≡ at)).
      ⊎_elim
      (λ (y : (last ≡ 0) × (lits_text last l ≡ [])). grown-first y.1 x.1)
      (λ (y : (last ≡ 0 → ⊥) × (0 < length (lits_text last l))). absurd (y.0 x.0))
      so.start)
      (λ (x : (last ≡ 0 → ⊥) × (get_or s at 0 ≡ space) × (q ≡ at + 1)).
      ⊎_elim
      (λ (y : (last ≡ 0) × (lits_text last l ≡ [])). absurd (x.0 y.0))
      (λ (y : (last ≡ 0 → ⊥) × (0 < length (lits_text last l))). grown-later y.1 x.1 x.2)
      so.start)
      parts

  so-next : Parted s at last q → SoFar s from next v (with_literal l p v)
  so-next parts =
      let u = v - 1 in
      let one : v ≡ suc u = omega (arith, f.above) in
      let above : last ≤ u = omega (arith, f.above) in
      let most : u < most_variables = omega (arith, f.most, f.above) in
      let text : lits_text v (with_literal l p v) ≡ behind (lits_text last l) (literal_text p v) =
      ap (λ (x : ℕ). lits_text x (with_literal l p x)) one
      ∙ with-text last l u most above so.positive so.negative p
      ∙ ap (λ (x : ℕ). behind (lits_text last l) (literal_text p x)) (sym one) in
      let bounds = with-bounds last l u most above so.positive so.negative p in
      let g = grown parts in
      record {
        most = f.most;
        positive = subst (λ (x : ℕ). (with_literal l p x).positive < 2 ^ x) (sym one) bounds.0;
        negative = subst (λ (x : ℕ). (with_literal l p x).negative < 2 ^ x) (sym one) bounds.1;
        both = subst (λ (x : ℕ). bit_and (with_literal l p x).positive (with_literal l p x).negative ≡ 0) (sym one)
            (with-apart last l u most above so.positive so.negative so.both p);
        stand = rw text g.0;
        place = rw text g.1;
        start = inr (λ z. omega (arith, f.above), rw text (behind-length (lits_text last l) (literal_text p v) (literal-some p v)));
      }

-- ---- the token's second law

pub record ListFound (s : List ℕ) (from : ℕ) (l : Lits) (next : ℕ) : Type 0 where
  pub stand : stands s from (lits_text most_variables l ++ (line_feed ∷ [])) ≡ true
  pub end : next ≡ from + length (lits_text most_variables l ++ (line_feed ∷ []))
  pub positive : l.positive < 2 ^ most_variables
  pub negative : l.negative < 2 ^ most_variables
  pub both : bit_and l.positive l.negative ≡ 0

found-end : (s : List ℕ) (from at last : ℕ) (l : Lits) → SoFar s from at last l → get_or s at 0 ≡ line_feed → ListFound s from l (at + 1)
found-end s from at last l so e =
    let text = lits-upto last most_variables l so.most so.positive so.negative in
    let byte = byte-stands s (from + length (lits_text last l)) line_feed (rw (← so.place) e) in
    record {
      stand = rw text (both-stand s from (lits_text last l) (line_feed ∷ []) so.stand byte);
      end = rw (text, length-append (lits_text last l) (line_feed ∷ []), so.place) (omega arith);
      positive = wider l.positive last most_variables so.positive so.most;
      negative = wider l.negative last most_variables so.negative so.most;
      both = so.both;
    }

-- a turn that is not the line's end: the literal that it read, and what is found behind it
found_turn : (k : ℕ) (s : List ℕ) (from at last : ℕ) (l found : Lits) (next q : ℕ) → SoFar s from at last l → (get_or s at 0 ≡ line_feed → ⊥)
    → Parted s at last q → lits_from (suc k) s at last l ≡ Some (found, next)
    → ((place v : ℕ) (more : Lits) → SoFar s from place v more → lits_from k s place v more ≡ Some (found, next) → ListFound s from found next)
    → ListFound s from found next
found_turn k s from at last l found next q so e parts h ih = go (literal_at s q last) refl
  where
    go : (r : Option (Bool × ℕ × ℕ)) → literal_at s q last ≡ r → ListFound s from found next
    go None z =
        let b = lits-broken k s at last l q e parts z in
        impossible (cc)
    go (Some (p, v, place)) z =
        let so_far = so-next s from at last l so q p v place (literal-found s q last p v place z) parts in
        ih place v (with_literal l p v) so_far (sym (lits-next k s at last l q p v place e parts z) ∙ h)

lits-found : (k : ℕ) (s : List ℕ) (from at last : ℕ) (l found : Lits) (next : ℕ) → SoFar s from at last l → lits_from k s at last l ≡ Some (found, next)
    → ListFound s from found next
lits-found zero s from at last l found next so h =
    let b = lits-none 0 s at last l in
    impossible (cc)
lits-found (suc k) s from at last l found next so h =
    let ih : (place v : ℕ) (more : Lits) → SoFar s from place v more → lits_from k s place v more ≡ Some (found, next) → ListFound s from found next =
    λ place v more. lits-found k s from place v more found next in
    ⊎_elim
    (λ (t : eqb (get_or s at 0) line_feed ≡ true).
    let b = eqb-true (get_or s at 0) line_feed t in
    let same = some-pair (sym (lits-end k s at last l b) ∙ h) in
    rw (← same.0, ← same.1) (found-end s from at last l so b))
    (λ (t : eqb (get_or s at 0) line_feed ≡ false).
    let e = eqb-false (get_or s at 0) line_feed t in
    ⊎_elim
    (λ (z : eqb last 0 ≡ true). found_turn k s from at last l found next at so e (inl (eqb-true last 0 z, refl)) h ih)
    (λ (z : eqb last 0 ≡ false).
    ⊎_elim
    (λ (b : eqb (get_or s at 0) space ≡ true).
    found_turn k s from at last l found next (at + 1) so e (inr (eqb-false last 0 z, eqb-true (get_or s at 0) space b, refl)) h ih)
    (λ (b : eqb (get_or s at 0) space ≡ false).
    let r = lits-unparted k s at last l e (eqb-false last 0 z) (eqb-false (get_or s at 0) space b) in
    impossible (cc))
    (cases (eqb (get_or s at 0) space)))
    (cases (eqb last 0)))
    (cases (eqb (get_or s at 0) line_feed))

so-start : (s : List ℕ) (from : ℕ) → SoFar s from from 0 no_lits
unfolding lits_text no_lits
so-start s from =
    record {
      most = omega arith;
      positive = omega arith;
      negative = omega arith;
      both = refl;
      stand = stands-none s from;
      place = sym (add-zero from);
      start = inl (refl, refl);
    }

pub lits-spelt : (s : List ℕ) (from : ℕ) (l : Lits) (next : ℕ) → lits_from (suc most_variables) s from 0 no_lits ≡ Some (l, next) → ListFound s from l next
lits-spelt s from l next e = lits-found (suc most_variables) s from from 0 no_lits l next (so-start s from) e
