-- The header: what its definitions come to in each case, and that the line it is said to be on is one of the text's.
use Rattle.std.specs.Prelude.{Option, Some, None, Result, Ok, Err}
use Prim.Native.Nat.{ℕ, zero, suc, ◌+◌, ◌-◌, ◌<◌, ◌≤◌}
use mathlib.Core.Path.{◌≡◌, refl, sym, ap}
use mathlib.Core.Bool.{Bool, true, false, cond, ◌&&◌}
use mathlib.Core.List.{List, [], ◌∷◌}
use native.Mathlib.Omega.{arith}
use borrow.Author.Tests.{eq-eqb, ne_eqb, lt-ltb, le-ltb}
use lib.Dec.{ltb}
use lib.ListN.{length, get_or}
use Rattle.masks.proofs.Choice.{impossible, ok-same}
use Rattle.rules.specs.declared.WcnfHead.{WcnfHead}
use Rattle.rules.specs.Text.{bytes, line_feed}
use Rattle.rules.specs.Reader.{stands, ended, on_number}
use Rattle.rules.specs.WcnfReader.{space_run, parted_at, feed_from, header_at, header_from, header_says}
use Rattle.wcnf_headers.specs.Headers.{figures_at}

-- the first bytes of the header, its name, and the first byte of a comment
abbrev pub first_key : List ℕ
first_key = 112 ∷ 32 ∷ []

abbrev pub name_key : List ℕ
name_key = 119 ∷ 99 ∷ 110 ∷ 102 ∷ []

abbrev pub comment_sign : ℕ
comment_sign = 99

-- ---- the three figures

module _ (s : List ℕ) (at line : ℕ) where
  pub no-variables : parted_at s at ≡ None → figures_at s at line ≡ Err line
  unfolding figures_at
  no-variables e = rw e

  module _ (v one : ℕ) (e : parted_at s at ≡ Some (v, one)) where
    pub no-clauses : parted_at s one ≡ None → figures_at s at line ≡ Err line
    unfolding figures_at
    no-clauses f = rw (e, f)

    module _ (m two : ℕ) (f : parted_at s one ≡ Some (m, two)) where
      pub no_top : parted_at s two ≡ None → figures_at s at line ≡ Err line
      unfolding figures_at
      no_top g = rw (e, f, g)

      pub no_end : (top three : ℕ) → parted_at s two ≡ Some (top, three) → (get_or s three 0 ≡ line_feed → ⊥) → figures_at s at line ≡ Err line
      unfolding figures_at
      no_end top three g h = rw (e, f, g, ne_eqb (get_or s three 0) line_feed h)

      pub figures-are : (top three : ℕ) → parted_at s two ≡ Some (top, three) → get_or s three 0 ≡ line_feed
          → figures_at s at line ≡ Ok (header_says v m top (three + 1) line)
      unfolding figures_at
      figures-are top three g h = rw (e, f, g, eq-eqb (get_or s three 0) line_feed h)

-- ---- the header's line

module _ (s : List ℕ) (at line : ℕ) where
  pub no-first : stands s at first_key ≡ false → header_at s at line ≡ Err line
  unfolding header_at bytes
  no-first e = rw e

  module _ (gap : ℕ) (g : gap ≡ space_run s (at + 1) (length s)) (e : stands s at first_key ≡ true) where
    pub no_name : stands s (at + 1 + gap) name_key ≡ false → header_at s at line ≡ Err line
    unfolding header_at bytes
    no_name h = rw (← g, e, h)

    pub to-figures : stands s (at + 1 + gap) name_key ≡ true → header_at s at line ≡ figures_at s (at + 1 + gap + 4) line
    unfolding header_at figures_at bytes
    to-figures h = rw (← g, e, h)

-- ---- comments first

comment-stands : (s : List ℕ) (at : ℕ) → get_or s at 0 ≡ comment_sign → stands s at (comment_sign ∷ []) ≡ true
unfolding stands
comment-stands s at e = rw (eq-eqb (get_or s at 0) comment_sign e)

no-comment : (s : List ℕ) (at : ℕ) → (get_or s at 0 ≡ comment_sign → ⊥) → stands s at (comment_sign ∷ []) ≡ false
unfolding stands
no-comment s at h = rw (ne_eqb (get_or s at 0) comment_sign h)

pub head-none : (s : List ℕ) (at line : ℕ) → header_from 0 s at line ≡ Err line
unfolding header_from
head-none s at line = refl

module _ (k : ℕ) (s : List ℕ) (at line : ℕ) where
  pub head-here : (get_or s at 0 ≡ comment_sign → ⊥) → header_from (suc k) s at line ≡ header_at s at line
  unfolding header_from bytes
  head-here h = rw (no-comment s at h)

  module _ (feed : ℕ) (f : feed ≡ feed_from (length s - at) s at) (c : get_or s at 0 ≡ comment_sign) where
    pub head-unended : length s ≤ feed → header_from (suc k) s at line ≡ Err line
    unfolding header_from bytes
    head-unended h = rw (← f, comment-stands s at c, le-ltb feed (length s) h)

    pub head-on : feed < length s → header_from (suc k) s at line ≡ header_from k s (feed + 1) (line + 1)
    unfolding header_from bytes
    head-on h = rw (← f, comment-stands s at c, lt-ltb feed (length s) h)

-- ---- the line that a header is on

-- where its name stands
abbrev named : List ℕ → ℕ → ℕ
named s at = at + 1 + space_run s (at + 1) (length s)

module _ (line v m t n l : ℕ) where
  abbrev Says : Result WcnfHead ℕ → Type 0
  Says h = h ≡ Ok (header_says v m t n l)

  same_line : (a b c d : ℕ) → Says (Ok (header_says a b c d line)) → l ≡ line
  same_line a b c d e = sym (ap (λ (h : WcnfHead). h.line) (ok-same e))

  figures-line : (s : List ℕ) (at : ℕ) → Says (figures_at s at line) → l ≡ line
  unfolding figures_at
  figures-line s at e = first (parted_at s at) e
    where
      third : (a b : ℕ) (p : Option (ℕ × ℕ)) → Says (on_number p (Err line) (λ top next. Ok (header_says a b top next line))) → l ≡ line
      third a b (Some (top, next)) h = same_line a b top next h
      third a b None h = impossible (cc)

      second : (a : ℕ) (p : Option (ℕ × ℕ))
          → Says
          (on_number p (Err line) (λ clauses next.
          on_number (ended s (parted_at s next)) (Err line) (λ top next. Ok (header_says a clauses top next line))))
          → l ≡ line
      second a (Some (b, next)) h = third a b (ended s (parted_at s next)) h
      second a None h = impossible (cc)

      first : (p : Option (ℕ × ℕ))
          → Says
          (on_number p (Err line) (λ variables next.
          on_number (parted_at s next) (Err line) (λ clauses next.
          on_number (ended s (parted_at s next)) (Err line) (λ top next. Ok (header_says variables clauses top next line)))))
          → l ≡ line
      first (Some (a, next)) h = second a (parted_at s next) h
      first None h = impossible (cc)

  header-line : (s : List ℕ) (at : ℕ) → Says (header_at s at line) → l ≡ line
  unfolding header_at figures_at
  header-line s at e = go (stands s at (bytes "p ") && stands s (named s at) (bytes "wcnf")) e
    where
      go : (b : Bool) → Says (cond b (figures_at s (named s at + 4) line) (Err line)) → l ≡ line
      go true h = figures-line s (named s at + 4) h
      go false h = impossible (cc)

pub line_small : (k : ℕ) (s : List ℕ) (at line v m t n l : ℕ) → header_from k s at line ≡ Ok (header_says v m t n l) → l < line + k
unfolding header_from
line_small zero s at line v m t n l e = impossible (cc)
line_small (suc k) s at line v m t n l e =
    comment (λ place h. line_small k s place (line + 1) v m t n l h) (stands s at (bytes "c")) (ltb (feed_from (length s - at) s at) (length s)) e
  where
    comment : ((place : ℕ) → header_from k s place (line + 1) ≡ Ok (header_says v m t n l) → l < line + 1 + k) → (b c : Bool)
        → cond b (cond c (header_from k s (feed_from (length s - at) s at + 1) (line + 1)) (Err line)) (header_at s at line)
        ≡ Ok (header_says v m t n l)
        → l < line + suc k
    comment ih true true h = omega (arith, ih (feed_from (length s - at) s at + 1) h)
    comment ih true false h = impossible (cc)
    comment ih false c h = omega (arith, header-line line v m t n l s at h)
