-- The comments before the header: of the form, they are passed over; passed over, they stand there as lines of the form.
use Rattle.std.specs.Prelude.{Err}
use Prim.Native.Nat.{ℕ, zero, suc, ◌+◌, ◌-◌, ◌<◌, ◌≤◌}
use mathlib.Core.Path.{◌≡◌, refl, sym, ap, subst, ◌∙◌}
use mathlib.Core.Bool.{Bool, true, false, cond}
use mathlib.Core.List.{List, [], ◌∷◌}
use native.Mathlib.Omega.{arith}
use borrow.Author.Tests.{eq-eqb, eqb-true, lt-ltb, le-ltb}
use lib.Dec.{eqb}
use lib.ListN.{length, get_or}
use Rattle.rules.specs.Text.{bytes, line_feed}
use Rattle.rules.specs.Reader.{stands}
use Rattle.rules.specs.WcnfReader.{feed_from, header_at, header_from}
use Rattle.text_laws.specs.Lines.{NoFeed}
use Rattle.text_laws.proofs.Stands.{stands-none, first-stands, cons-stands, front-byte, behind-byte, inside}
use Rattle.wcnf_laws.specs.Form.{comment_bytes}

abbrev pub c_code : ℕ
c_code = 99

-- the bytes up to the first LF
pub record Feed (s : List ℕ) (at feed : ℕ) : Type 0 where
  pub line : List ℕ
  pub free : NoFeed line
  pub stand : stands s at line ≡ true
  pub end : feed ≡ at + length line
  pub there : get_or s feed 0 ≡ line_feed

pub feed-found : (k : ℕ) (s : List ℕ) (at : ℕ) → at + k ≡ length s → feed_from k s at < length s → Feed s at (feed_from k s at)
unfolding feed_from
feed-found zero s at long h = absurd (omega arith)
feed-found (suc k) s at long h = go (eqb (get_or s at 0) line_feed) refl h (λ q. feed-found k s (suc at) (omega arith) q)
  where
    go : (b : Bool) → eqb (get_or s at 0) line_feed ≡ b → cond b at (feed_from k s (suc at)) < length s
        → (feed_from k s (suc at) < length s → Feed s (suc at) (feed_from k s (suc at))) → Feed s at (cond b at (feed_from k s (suc at)))
    go true t q ih =
        record {
          line = [];
          free = tt;
          stand = stands-none s at;
          end = omega arith;
          there = eqb-true (get_or s at 0) line_feed t;
        }
    go false t q ih =
        let f = ih q in
        let near : at + 1 ≡ suc at = omega arith in
        record {
          line = get_or s at 0 ∷ f.line;
          free = (t, f.free);
          stand = cons-stands s at (get_or s at 0) f.line refl (ap (λ (p : ℕ). stands s p f.line) near ∙ f.stand);
          end = f.end ∙ omega arith;
          there = f.there;
        }

pub feed-is : (c : List ℕ) (k : ℕ) (s : List ℕ) (at : ℕ) → NoFeed c → stands s at c ≡ true → get_or s (at + length c) 0 ≡ line_feed → length c < k
    → feed_from k s at ≡ at + length c
unfolding feed_from
feed-is c zero s at free e f l = absurd (omega arith)
feed-is [] (suc k) s at free e f l =
    let here : at + 0 ≡ at = omega arith in
    rw (eq-eqb (get_or s at 0) line_feed (rw here at f)) (sym here)
feed-is (b ∷ c) (suc k) s at free e f l =
    let near : at + 1 ≡ suc at = omega arith in
    let far : at + suc (length c) ≡ suc at + length c = omega arith in
    rw (front-byte s at b c e, free.0, far)
    (feed-is c k s (suc at) free.1 (rw near at (behind-byte s at b c e)) (rw far at f) (omega arith))

pub comment-bytes : (c : List ℕ) → comment_bytes c ≡ c_code ∷ c
unfolding comment_bytes bytes
comment-bytes c = refl

pub comment-no-feed : (c : List ℕ) → NoFeed c → NoFeed (comment_bytes c)
unfolding comment_bytes bytes
comment-no-feed c p = (refl, p)

-- whether a comment begins at a place
abbrev pub begins : List ℕ → ℕ → Bool
begins s at = stands s at (c_code ∷ [])

pub record CommentFound (s : List ℕ) (at next : ℕ) : Type 0 where
  pub comment : List ℕ
  pub free : NoFeed comment
  pub stand : stands s at (comment_bytes comment) ≡ true
  pub feed : get_or s (at + length (comment_bytes comment)) 0 ≡ line_feed
  pub end : next ≡ at + length (comment_bytes comment) + 1

comment-of : (s : List ℕ) (at feed : ℕ) → begins s at ≡ true → (f : Feed s at feed) → (c : List ℕ) → f.line ≡ c → CommentFound s at (feed + 1)
comment-of s at feed first f [] q =
    let here : feed ≡ at = f.end ∙ ap (λ (x : List ℕ). at + length x) q ∙ omega arith in
    let c : get_or s at 0 ≡ c_code = front-byte s at c_code [] first in
    let z : get_or s at 0 ≡ line_feed = ap (λ (p : ℕ). get_or s p 0) (sym here) ∙ f.there in
    absurd (omega (arith, c, z))
comment-of s at feed first f (b ∷ c) q =
    let there : stands s at (b ∷ c) ≡ true = ap (stands s at) (sym q) ∙ f.stand in
    let b-is : b ≡ c_code = sym (front-byte s at b c there) ∙ front-byte s at c_code [] first in
    let whole : comment_bytes c ≡ f.line = comment-bytes c ∙ ap (λ (x : ℕ). x ∷ c) (sym b-is) ∙ sym q in
    let far : at + length (comment_bytes c) ≡ feed = ap (λ (x : List ℕ). at + length x) whole ∙ sym f.end in
    record {
      comment = c;
      free = (subst NoFeed q f.free).1;
      stand = ap (stands s at) whole ∙ f.stand;
      feed = ap (λ (p : ℕ). get_or s p 0) far ∙ f.there;
      end = ap (λ (p : ℕ). p + 1) (sym far);
    }

-- a comment that is ended is of the form
pub comment-found : (s : List ℕ) (at : ℕ) → at ≤ length s → begins s at ≡ true → feed_from (length s - at) s at < length s
    → CommentFound s at (feed_from (length s - at) s at + 1)
comment-found s at l first h =
    let f = feed-found (length s - at) s at (omega arith) h in
    comment-of s at (feed_from (length s - at) s at) first f f.line refl

module _ (k : ℕ) (s : List ℕ) (at line : ℕ) where
  pub no-comment : begins s at ≡ false → header_from (suc k) s at line ≡ header_at s at line
  unfolding header_from bytes
  no-comment e = rw e

  -- a comment of the form is passed over
  pub comment-read : (c : List ℕ) → NoFeed c → stands s at (comment_bytes c) ≡ true → get_or s (at + length (comment_bytes c)) 0 ≡ line_feed
      → header_from (suc k) s at line ≡ header_from k s (at + length (comment_bytes c) + 1) (line + 1)
  unfolding header_from bytes
  comment-read c free e f =
      let within : at + length (comment_bytes c) < length s = inside s (at + length (comment_bytes c)) (omega (arith, f)) in
      let first : begins s at ≡ true = first-stands s at (c_code ∷ []) c (sym (ap (stands s at) (comment-bytes c)) ∙ e) in
      let end = feed-is (comment_bytes c) (length s - at) s at (comment-no-feed c free) e f (omega arith) in
      rw (first, end, lt-ltb (at + length (comment_bytes c)) (length s) within)

  pub comment-passed : begins s at ≡ true → feed_from (length s - at) s at < length s
      → header_from (suc k) s at line ≡ header_from k s (feed_from (length s - at) s at + 1) (line + 1)
  unfolding header_from bytes
  comment-passed e h = rw (e, lt-ltb (feed_from (length s - at) s at) (length s) h)

  pub comment-unended : begins s at ≡ true → length s ≤ feed_from (length s - at) s at → header_from (suc k) s at line ≡ Err line
  unfolding header_from bytes
  comment-unended e h = rw (e, le-ltb (feed_from (length s - at) s at) (length s) h)
