-- A clause's line: of the form, it is read as its weight and its literals; read, it stands there as a line of the form. Each literal has its gap in front,
-- so that there are fewer literals than bytes, and the closing 0 is told from them by its value.
use Rattle.std.specs.Prelude.{Option, Some, None}
use Prim.Native.Nat.{ℕ, zero, suc, ◌+◌, ◌^◌, ◌<◌}
use mathlib.Core.Path.{◌≡◌, refl, sym, ap, ◌∙◌}
use mathlib.Core.Bool.{Bool, true, false, cond}
use mathlib.Core.List.{List, [], ◌∷◌, ◌++◌}
use native.Mathlib.Omega.{arith}
use borrow.Author.Tests.{eq-eqb, ne_eqb, eqb-true}
use lib.Dec.{eqb, eqb-suc-zero}
use lib.IntN.{ℤ, pos, negsuc, neg_ℤ}
use lib.ListN.{length, get_or, length-append}
use Rattle.masks.proofs.Choice.{impossible}
use Rattle.literals.specs.Literal.{size}
use Rattle.rules.specs.Text.{digits, number_text, space, minus, line_feed, digit_zero, most_digits}
use Rattle.rules.specs.Reader.{stands, is_digit, number_at, on_number}
use Rattle.rules.specs.WcnfReader.{space_run, MembersRead, members, broken_line, with_member, on_signed, members_from, on_clause}
use Rattle.text_laws.specs.Lines.{NoFeed}
use Rattle.text_laws.proofs.Cuts.{no-feed-append, number-no-feed}
use Rattle.text_laws.proofs.Stands.{first-stands, second-stands, both-stand, cons-stands, front-byte, behind-byte, inside}
use Rattle.text_laws.proofs.Numbers.{number-reads, number-digit, number-found, digit_low}
use Rattle.text_laws.proofs.Lines.{end-no-digit}
use Rattle.wcnf_laws.specs.Form.{gap, signed_text, literals_bytes, ClauseLine, clause_bytes, Each, LiteralHeld, ClauseHeld, numbers_of}
use Rattle.wcnf_laws.proofs.Gaps.{gap-long, gap-no-feed, gap-front, gap-run, run-stands, space-no-digit, digit-no-space}

-- ---- a signed number

signed-no-feed : (l : ℤ) → NoFeed (signed_text l)
signed-no-feed (pos v) = number-no-feed v
signed-no-feed (negsuc v) = (refl, number-no-feed (suc v))

signed-no-space : (s : List ℕ) (at : ℕ) (l : ℤ) → size l < 10 ^ most_digits → stands s at (signed_text l) ≡ true → get_or s at 0 ≡ space → ⊥
unfolding size
signed-no-space s at (pos v) small e = digit-no-space (get_or s at 0) (number-digit s at v small e)
signed-no-space s at (negsuc v) small e = λ z. omega (arith, front-byte s at minus (number_text (suc v)) e, z)

module _ {A : Type 0} (s : List ℕ) (broken : A) (go : ℤ → ℕ → A) where
  signed_reads : (at : ℕ) (l : ℤ) → size l < 10 ^ most_digits → stands s at (signed_text l) ≡ true → is_digit (get_or s (at + length (signed_text l)) 0) ≡ false
      → on_signed s at broken go ≡ go l (at + length (signed_text l))
  unfolding size
  signed_reads at (pos v) small e f =
      rw (ne_eqb (get_or s at 0) minus (λ z. omega (arith, digit_low (get_or s at 0) (number-digit s at v small e), z)), number-reads s at v small e f)
  signed_reads at (negsuc v) small e f =
      let far : at + suc (length (number_text (suc v))) ≡ at + 1 + length (number_text (suc v)) = omega arith in
      let there = behind-byte s at minus (number_text (suc v)) e in
      rw (eq-eqb (get_or s at 0) minus (front-byte s at minus (number_text (suc v)) e), number-reads s (at + 1) (suc v) small there (rw far at f))
      (rw (eqb-suc-zero v, far))

pub record SignedFound (s : List ℕ) (at : ℕ) (l : ℤ) (next : ℕ) : Type 0 where
  pub stand : stands s at (signed_text l) ≡ true
  pub end : next ≡ at + length (signed_text l)
  pub digits : size l < 10 ^ most_digits

-- what is read behind a signed number
pub record Onward (s : List ℕ) (at : ℕ) (go : ℤ → ℕ → MembersRead) (r : MembersRead) : Type 0 where
  pub literal : ℤ
  pub next : ℕ
  pub found : SignedFound s at literal next
  pub rest : go literal next ≡ r

module _ (s : List ℕ) (at : ℕ) (go : ℤ → ℕ → MembersRead) (ls : List ℤ) (end : ℕ) where
  found_plain : (p : Option (ℕ × ℕ)) → number_at s at ≡ p → on_number p broken_line (λ v next. go (pos v) next) ≡ members ls end
      → Onward s at go (members ls end)
  unfolding size
  found_plain None h e = impossible (cc)
  found_plain (Some (v, next)) h e =
      let f = number-found s at v next h in
      record { literal = pos v; next = next; found = record { stand = f.stand; end = f.end; digits = f.small }; rest = e }

  found-minus : get_or s at 0 ≡ minus → (p : Option (ℕ × ℕ)) → number_at s (at + 1) ≡ p
      → on_number p broken_line (λ v next. cond (eqb v 0) broken_line (go (neg_ℤ (pos v)) next)) ≡ members ls end → Onward s at go (members ls end)
  unfolding size
  found-minus m None h e = impossible (cc)
  found-minus m (Some (zero, next)) h e = impossible (cc)
  found-minus m (Some (suc v, next)) h e =
      let f = number-found s (at + 1) (suc v) next h in
      record {
        literal = negsuc v;
        next = next;
        found =
            record {
              stand = cons-stands s at minus (number_text (suc v)) m f.stand;
              end = f.end ∙ omega arith;
              digits = f.small;
            };
        rest = rw (eqb-suc-zero v) at e;
      }

  signed-found : on_signed s at broken_line go ≡ members ls end → Onward s at go (members ls end)
  signed-found e = by (eqb (get_or s at 0) minus) refl e
    where
      by : (b : Bool) → eqb (get_or s at 0) minus ≡ b
          → cond b (on_number (number_at s (at + 1)) broken_line (λ v next. cond (eqb v 0) broken_line (go (neg_ℤ (pos v)) next)))
          (on_number (number_at s at) broken_line (λ v next. go (pos v) next)) ≡ members ls end
          → Onward s at go (members ls end)
      by true t q = found-minus (eqb-true (get_or s at 0) minus t) (number_at s (at + 1)) refl q
      by false t q = found_plain (number_at s at) refl q

-- ---- the literals

-- what a clause comes to behind a signed number
abbrev onward : ℕ → List ℕ → ℤ → ℕ → MembersRead
onward k s l next =
    let closed = cond (eqb (get_or s next 0) line_feed) (members [] (next + 1)) broken_line in
    let more = with_member l (members_from k s next) in
    cond (eqb (size l) 0) closed more

-- and behind its gap
after-gap : (k : ℕ) (s : List ℕ) (at n : ℕ) → space_run s at (length s) ≡ suc n → members_from (suc k) s at ≡ on_signed s (at + suc n) broken_line (onward k s)
unfolding members_from
after-gap k s at n e = rw (e, eqb-suc-zero n)

onward-more : (k : ℕ) (s : List ℕ) (l : ℤ) (next : ℕ) → 0 < size l → onward k s l next ≡ with_member l (members_from k s next)
onward-more k s l next h = rw (ne_eqb (size l) 0 (λ z. omega arith))

-- a signed number behind its gap
gap-signed : (k : ℕ) (s : List ℕ) (at n : ℕ) (l : ℤ) (rest : List ℕ) → size l < 10 ^ most_digits → stands s at (gap n ++ (signed_text l ++ rest)) ≡ true
    → is_digit (get_or s (at + suc n + length (signed_text l)) 0) ≡ false
    → members_from (suc k) s at ≡ onward k s l (at + suc n + length (signed_text l))
gap-signed k s at n l rest small e f =
    let near : at + length (gap n) ≡ at + suc n = omega (arith, gap-long n) in
    let there : stands s (at + suc n) (signed_text l) ≡ true =
    first-stands s (at + suc n) (signed_text l) rest (rw near at (second-stands s at (gap n) (signed_text l ++ rest) e)) in
    after-gap k s at n
    (gap-run s at n (first-stands s at (gap n) (signed_text l ++ rest) e) (signed-no-space s (at + suc n) l small there))
    ∙ signed_reads s broken_line (onward k s) (at + suc n) l small there f

literals-front : (s : List ℕ) (at : ℕ) (ls : List (ℕ × ℤ)) (last : ℕ) → stands s at (literals_bytes ls last) ≡ true → get_or s at 0 ≡ space
unfolding literals_bytes
literals-front s at [] last e = gap-front s at last (digit_zero ∷ []) e
literals-front s at (l ∷ ls) last e = gap-front s at l.0 (signed_text l.1 ++ literals_bytes ls last) e

closing-length : (last : ℕ) → length (literals_bytes [] last) ≡ suc last + 1
unfolding literals_bytes
closing-length last = length-append (gap last) (digit_zero ∷ []) ∙ rw (gap-long last)

literals-length : (l : ℕ × ℤ) (ls : List (ℕ × ℤ)) (last : ℕ)
    → length (literals_bytes (l ∷ ls) last) ≡ suc l.0 + length (signed_text l.1) + length (literals_bytes ls last)
unfolding literals_bytes
literals-length l ls last =
    let rest = literals_bytes ls last in
    omega (arith, length-append (gap l.0) (signed_text l.1 ++ rest), length-append (signed_text l.1) rest, gap-long l.0)

closing-read : (last k : ℕ) (s : List ℕ) (at : ℕ) → stands s at (literals_bytes [] last) ≡ true → get_or s (at + suc last + 1) 0 ≡ line_feed
    → members_from (suc k) s at ≡ members [] (at + suc last + 1 + 1)
unfolding literals_bytes number_text digits size
closing-read last k s at e feed =
    gap-signed k s at last (pos 0) [] (omega arith) e (end-no-digit s (at + suc last + 1) feed) ∙ rw (eq-eqb (get_or s (at + suc last + 1) 0) line_feed feed)

-- a literal in front of others
more-read : (l : ℕ × ℤ) (ls : List (ℕ × ℤ)) (last k : ℕ) (s : List ℕ) (at : ℕ) → LiteralHeld l → stands s at (literals_bytes (l ∷ ls) last) ≡ true
    → (members_from (suc k) s at ≡ with_member l.1 (members_from k s (at + suc l.0 + length (signed_text l.1))))
    × (stands s (at + suc l.0 + length (signed_text l.1)) (literals_bytes ls last) ≡ true)
unfolding literals_bytes
more-read l ls last k s at h e =
    let mid = at + suc l.0 + length (signed_text l.1) in
    let rest = literals_bytes ls last in
    let near : at + length (gap l.0) ≡ at + suc l.0 = omega (arith, gap-long l.0) in
    let both = rw near at (second-stands s at (gap l.0) (signed_text l.1 ++ rest) e) in
    let there : stands s mid rest ≡ true = second-stands s (at + suc l.0) (signed_text l.1) rest both in (
      gap-signed k s at l.0 l.1 rest h.digits e (space-no-digit (get_or s mid 0) (literals-front s mid ls last there))
          ∙ onward-more k s l.1 mid h.some,
      there,
    )

pub literals-read : (ls : List (ℕ × ℤ)) (last k : ℕ) (s : List ℕ) (at : ℕ) → Each LiteralHeld ls → length ls < k → stands s at (literals_bytes ls last) ≡ true
    → get_or s (at + length (literals_bytes ls last)) 0 ≡ line_feed
    → members_from k s at ≡ members (numbers_of ls) (at + length (literals_bytes ls last) + 1)
unfolding numbers_of
literals-read ls last zero s at h few e f = absurd (omega arith)
literals-read [] last (suc k) s at h few e f =
    let far : at + length (literals_bytes [] last) ≡ at + suc last + 1 = omega (arith, closing-length last) in
    closing-read last k s at e (ap (λ (p : ℕ). get_or s p 0) (sym far) ∙ f) ∙ ap (λ (p : ℕ). members [] (p + 1)) (sym far)
literals-read (l ∷ ls) last (suc k) s at h few e f =
    let mid = at + suc l.0 + length (signed_text l.1) in
    let far : at + length (literals_bytes (l ∷ ls) last) ≡ mid + length (literals_bytes ls last) = omega (arith, literals-length l ls last) in
    let one = more-read l ls last k s at h.0 e in
    let ih = literals-read ls last k s mid h.1 (omega arith) one.1 (ap (λ (p : ℕ). get_or s p 0) (sym far) ∙ f) in
    one.0 ∙ ap (with_member l.1) ih ∙ ap (λ (p : ℕ). members (l.1 ∷ numbers_of ls) (p + 1)) (sym far)

-- each has its gap, so that there are fewer than bytes
pub literals-few : (ls : List (ℕ × ℤ)) (last : ℕ) → length ls < length (literals_bytes ls last)
literals-few [] last = omega (arith, closing-length last)
literals-few (l ∷ ls) last = omega (arith, literals-length l ls last, literals-few ls last)

-- ---- what is read is of the form

pub record LiteralsFound (s : List ℕ) (at : ℕ) (ms : List ℤ) (next : ℕ) : Type 0 where
  pub literals : List (ℕ × ℤ)
  pub last : ℕ
  pub said : numbers_of literals ≡ ms
  pub held : Each LiteralHeld literals
  pub stand : stands s at (literals_bytes literals last) ≡ true
  pub feed : get_or s (at + length (literals_bytes literals last)) 0 ≡ line_feed
  pub end : next ≡ at + length (literals_bytes literals last) + 1

gap-there : (s : List ℕ) (at n : ℕ) (rest : List ℕ) → space_run s at (length s) ≡ suc n → stands s (at + suc n) rest ≡ true → stands s at (gap n ++ rest) ≡ true
gap-there s at n rest r e =
    let near : at + length (gap n) ≡ at + suc n = omega (arith, gap-long n) in
    both-stand s at (gap n) rest (run-stands (length s) s at n r) (ap (λ (p : ℕ). stands s p rest) near ∙ e)

module _ (s : List ℕ) (at n : ℕ) (run : space_run s at (length s) ≡ suc n) where
  closing-found : (mid : ℕ) → SignedFound s (at + suc n) (pos 0) mid → (ms : List ℤ) (next : ℕ) (b : Bool) → eqb (get_or s mid 0) line_feed ≡ b
      → cond b (members [] (mid + 1)) broken_line ≡ members ms next → LiteralsFound s at ms next
  unfolding literals_bytes numbers_of number_text digits
  closing-found mid f ms next false t e = impossible (cc)
  closing-found mid f ms next true t e =
      let none : [] ≡ ms = cc in
      let end : mid + 1 ≡ next = cc in
      let far : at + length (literals_bytes [] n) ≡ mid = omega (arith, closing-length n, f.end) in
      record {
        literals = [];
        last = n;
        said = none;
        held = tt;
        stand = gap-there s at n (digit_zero ∷ []) run f.stand;
        feed = ap (λ (p : ℕ). get_or s p 0) far ∙ eqb-true (get_or s mid 0) line_feed t;
        end = sym end ∙ ap (λ (p : ℕ). p + 1) (sym far);
      }

  more-found : (l : ℤ) (mid : ℕ) → SignedFound s (at + suc n) l mid → 0 < size l → (ms : List ℤ) (next : ℕ) (r : MembersRead)
      → ((ms : List ℤ) (next : ℕ) → r ≡ members ms next → LiteralsFound s mid ms next)
      → with_member l r ≡ members ms next → LiteralsFound s at ms next
  unfolding literals_bytes numbers_of
  more-found l mid f some ms next broken_line ih e = impossible (cc)
  more-found l mid f some ms next (members ls end) ih e =
      let front : l ∷ ls ≡ ms = cc in
      let same : end ≡ next = cc in
      let g = ih ls end refl in
      let rest = literals_bytes g.literals g.last in
      let far : at + length (literals_bytes ((n, l) ∷ g.literals) g.last) ≡ mid + length rest =
      omega (arith, literals-length (n, l) g.literals g.last, f.end) in
      record {
        literals = (n, l) ∷ g.literals;
        last = g.last;
        said = ap (λ (x : List ℤ). l ∷ x) g.said ∙ front;
        held = (record { some = some; digits = f.digits }, g.held);
        stand =
            gap-there s at n (signed_text l ++ rest) run
            (both-stand s (at + suc n) (signed_text l) rest f.stand (ap (λ (p : ℕ). stands s p rest) (sym f.end) ∙ g.stand));
        feed = ap (λ (p : ℕ). get_or s p 0) far ∙ g.feed;
        end = sym same ∙ g.end ∙ ap (λ (p : ℕ). p + 1) (sym far);
      }

  onward-found : (k : ℕ) (l : ℤ) (mid : ℕ) → SignedFound s (at + suc n) l mid
      → ((ms : List ℤ) (next : ℕ) → members_from k s mid ≡ members ms next → LiteralsFound s mid ms next)
      → (ms : List ℤ) (next : ℕ) → onward k s l mid ≡ members ms next → LiteralsFound s at ms next
  unfolding size
  onward-found k (pos zero) mid f ih ms next e = closing-found mid f ms next (eqb (get_or s mid 0) line_feed) refl e
  onward-found k (pos (suc v)) mid f ih ms next e =
      more-found (pos (suc v)) mid f (omega arith) ms next (members_from k s mid) ih (sym (onward-more k s (pos (suc v)) mid (omega arith)) ∙ e)
  onward-found k (negsuc v) mid f ih ms next e =
      more-found (negsuc v) mid f (omega arith) ms next (members_from k s mid) ih (sym (onward-more k s (negsuc v) mid (omega arith)) ∙ e)

no_gap : (k : ℕ) (s : List ℕ) (at : ℕ) → space_run s at (length s) ≡ 0 → members_from (suc k) s at ≡ broken_line
unfolding members_from
no_gap k s at e = rw e

none_read : (s : List ℕ) (at : ℕ) → members_from 0 s at ≡ broken_line
unfolding members_from
none_read s at = refl

pub literals-found : (k : ℕ) (s : List ℕ) (at : ℕ) (ms : List ℤ) (next : ℕ) → members_from k s at ≡ members ms next → LiteralsFound s at ms next
literals-found zero s at ms next e = let z = none_read s at in impossible (cc)
literals-found (suc k) s at ms next e = go (space_run s at (length s)) refl (λ mid ms next q. literals-found k s mid ms next q)
  where
    go : (n : ℕ) → space_run s at (length s) ≡ n → ((mid : ℕ) (ms : List ℤ) (next : ℕ) → members_from k s mid ≡ members ms next → LiteralsFound s mid ms next)
        → LiteralsFound s at ms next
    go zero r ih = let z = no_gap k s at r in impossible (cc)
    go (suc n) r ih =
        let o = signed-found s (at + suc n) (onward k s) ms next (sym (after-gap k s at n r) ∙ e) in
        onward-found s at n r k o.literal o.next o.found (ih o.next) ms next o.rest

-- ---- the line

pub record ClauseFound (s : List ℕ) (at w : ℕ) (ms : List ℤ) (next : ℕ) : Type 0 where
  pub line : ClauseLine
  pub held : ClauseHeld line
  pub weighs : line.weight ≡ w
  pub said : numbers_of line.literals ≡ ms
  pub stand : stands s at (clause_bytes line) ≡ true
  pub feed : get_or s (at + length (clause_bytes line)) 0 ≡ line_feed
  pub end : next ≡ at + length (clause_bytes line) + 1

pub clause-found : (s : List ℕ) (at w mid k : ℕ) (ms : List ℤ) (next : ℕ) → number_at s at ≡ Some (w, mid) → members_from k s mid ≡ members ms next
    → ClauseFound s at w ms next
unfolding clause_bytes
clause-found s at w mid k ms next p q =
    let f = number-found s at w mid p in
    let g = literals-found k s mid ms next q in
    let rest = literals_bytes g.literals g.last in
    let far : at + length (number_text w ++ rest) ≡ mid + length rest = omega (arith, length-append (number_text w) rest, f.end) in
    record {
      line = record { weight = w; literals = g.literals; last = g.last };
      held = record { light = f.small; each = g.held };
      weighs = refl;
      said = g.said;
      stand = both-stand s at (number_text w) rest f.stand (ap (λ (x : ℕ). stands s x rest) (sym f.end) ∙ g.stand);
      feed = ap (λ (x : ℕ). get_or s x 0) far ∙ g.feed;
      end = g.end ∙ ap (λ (x : ℕ). x + 1) (sym far);
    }

pub clause-no-feed : (c : ClauseLine) → NoFeed (clause_bytes c)
unfolding clause_bytes literals_bytes
clause-no-feed c = no-feed-append (number_text c.weight) (literals_bytes c.literals c.last) (number-no-feed c.weight) (each c.literals)
  where
    each : (ls : List (ℕ × ℤ)) → NoFeed (literals_bytes ls c.last)
    each [] = no-feed-append (gap c.last) (digit_zero ∷ []) (gap-no-feed c.last) (refl, tt)
    each (l ∷ ls) =
        no-feed-append (gap l.0) (signed_text l.1 ++ literals_bytes ls c.last) (gap-no-feed l.0)
        (no-feed-append (signed_text l.1) (literals_bytes ls c.last) (signed-no-feed l.1) (each ls))

module _ (s : List ℕ) (at : ℕ) (c : ClauseLine) (h : ClauseHeld c) (e : stands s at (clause_bytes c) ≡ true)
    (feed : get_or s (at + length (clause_bytes c)) 0 ≡ line_feed) where
  abbrev bytes_of : List ℕ
  bytes_of = literals_bytes c.literals c.last

  abbrev behind-weight : ℕ
  behind-weight = at + length (number_text c.weight)

  far : at + length (clause_bytes c) ≡ behind-weight + length bytes_of
  unfolding clause_bytes
  far = omega (arith, length-append (number_text c.weight) bytes_of)

  literals-there : stands s behind-weight bytes_of ≡ true
  unfolding clause_bytes
  literals-there = second-stands s at (number_text c.weight) bytes_of e

  pub weight-read : number_at s at ≡ Some (c.weight, behind-weight)
  unfolding clause_bytes
  weight-read =
      number-reads s at c.weight h.light (first-stands s at (number_text c.weight) bytes_of e)
      (space-no-digit (get_or s behind-weight 0) (literals-front s behind-weight c.literals c.last literals-there))

  pub members-read : members_from (length s) s behind-weight ≡ members (numbers_of c.literals) (at + length (clause_bytes c) + 1)
  members-read =
      let within : at + length (clause_bytes c) < length s = inside s (at + length (clause_bytes c)) (omega (arith, feed)) in
      literals-read c.literals c.last (length s) s behind-weight h.each (omega (arith, literals-few c.literals c.last, far)) literals-there
      (ap (λ (x : ℕ). get_or s x 0) (sym far) ∙ feed)
      ∙ ap (λ (x : ℕ). members (numbers_of c.literals) (x + 1)) (sym far)

  pub clause-read : {A : Type 0} (broken : A) (go : ℕ → List ℤ → ℕ → A)
      → on_clause s at broken go ≡ go c.weight (numbers_of c.literals) (at + length (clause_bytes c) + 1)
  clause-read broken go = rw weight-read (rw members-read)
