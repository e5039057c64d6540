-- The header's line: of the form, it is read; read, it stands there as a line of the form.
use Rattle.std.specs.Prelude.{Option, Some, None, Result, Ok, Err}
use Prim.Native.Nat.{ℕ, zero, suc, ◌+◌}
use mathlib.Core.Path.{◌≡◌, refl, sym, ap, ◌∙◌}
use mathlib.Core.Bool.{Bool, true, false, cond, ◌&&◌}
use mathlib.Core.List.{List, [], ◌∷◌, ◌++◌, append_assoc}
use native.Mathlib.Omega.{arith}
use borrow.Author.Tests.{eq-eqb, eqb-true}
use lib.Dec.{eqb}
use lib.ListN.{length, get_or, length-append}
use Rattle.masks.proofs.Choice.{impossible, and_left, and_right, ok-same}
use Rattle.rules.specs.declared.WcnfHead.{WcnfHead}
use Rattle.rules.specs.Text.{bytes, number_text, space, line_feed}
use Rattle.rules.specs.Reader.{stands, ended, on_number}
use Rattle.rules.specs.WcnfReader.{space_run, parted_at, header_at, header_says}
use Rattle.text_laws.specs.Lines.{NoFeed}
use Rattle.text_laws.proofs.Cuts.{no-feed-append, number-no-feed}
use Rattle.text_laws.proofs.Stands.{first-stands, second-stands, both-stand, byte-stands, cons-stands, front-byte, behind-byte}
use Rattle.text_laws.proofs.Lines.{end-no-digit}
use Rattle.wcnf_laws.specs.Form.{gap, HeaderLine, header_bytes, HeaderHeld}
use Rattle.wcnf_laws.proofs.Gaps.{gap-long, gap-no-feed, gap-front, gap-run, run-stands, space-no-digit, PartedFound, parted-reads, parted-found}

-- headers that are read as the same say the same
pub same_header : {h k : WcnfHead} → ◌≡◌ {A = Result WcnfHead ℕ} (Ok h) (Ok k)
    → (h.variables ≡ k.variables) × (h.clauses ≡ k.clauses) × (h.top ≡ k.top) × (h.next ≡ k.next) × (h.line ≡ k.line)
same_header {h} {k} e =
    let p : h ≡ k = ok-same e in (
      ap (λ (x : WcnfHead). x.variables) p,
      ap (λ (x : WcnfHead). x.clauses) p,
      ap (λ (x : WcnfHead). x.top) p,
      ap (λ (x : WcnfHead). x.next) p,
      ap (λ (x : WcnfHead). x.line) p,
    )

abbrev pub p_code : ℕ
p_code = 112

abbrev pub wcnf_name : List ℕ
wcnf_name = 119 ∷ 99 ∷ 110 ∷ 102 ∷ []

-- ---- figures one behind the other

abbrev figure : ℕ → ℕ → List ℕ
figure k v = gap k ++ number_text v

figure-apart : (s : List ℕ) (at k v : ℕ) (rest : List ℕ) → stands s at (gap k ++ (number_text v ++ rest)) ≡ true
    → (stands s at (figure k v) ≡ true) × (stands s (at + length (figure k v)) rest ≡ true)
figure-apart s at k v rest e =
    let whole : stands s at (figure k v ++ rest) ≡ true = ap (stands s at) (append_assoc (gap k) (number_text v) rest) ∙ e in
    (first-stands s at (figure k v) rest whole, second-stands s at (figure k v) rest whole)

figure-before : (s : List ℕ) (at k v : ℕ) (rest : List ℕ) → stands s at (figure k v) ≡ true → stands s (at + length (figure k v)) rest ≡ true
    → stands s at (gap k ++ (number_text v ++ rest)) ≡ true
figure-before s at k v rest p q = ap (stands s at) (sym (append_assoc (gap k) (number_text v) rest)) ∙ both-stand s at (figure k v) rest p q

figure-length : (k v : ℕ) (rest : List ℕ) → length (gap k ++ (number_text v ++ rest)) ≡ length (figure k v) + length rest
figure-length k v rest = sym (ap length (append_assoc (gap k) (number_text v) rest)) ∙ length-append (figure k v) rest

-- ---- the header in its pieces

abbrev top_piece : HeaderLine → List ℕ
top_piece h = figure h.top-gap h.top

abbrev clauses_piece : HeaderLine → List ℕ
clauses_piece h = gap h.clauses-gap ++ (number_text h.clauses ++ top_piece h)

abbrev variables_piece : HeaderLine → List ℕ
variables_piece h = gap h.variables-gap ++ (number_text h.variables ++ clauses_piece h)

header-bytes : (h : HeaderLine) → header_bytes h ≡ p_code ∷ (gap h.name-gap ++ (wcnf_name ++ variables_piece h))
unfolding header_bytes bytes
header-bytes h = refl

pub header-front : (s : List ℕ) (at : ℕ) (h : HeaderLine) → stands s at (header_bytes h) ≡ true → get_or s at 0 ≡ p_code
header-front s at h e = front-byte s at p_code _ (sym (ap (stands s at) (header-bytes h)) ∙ e)

-- the places of its figures, where it stands at a place
abbrev name_at : ℕ → HeaderLine → ℕ
name_at at h = at + 1 + suc h.name-gap

abbrev variables_at : ℕ → HeaderLine → ℕ
variables_at at h = name_at at h + 4

abbrev clauses_at : ℕ → HeaderLine → ℕ
clauses_at at h = variables_at at h + length (figure h.variables-gap h.variables)

abbrev top_at : ℕ → HeaderLine → ℕ
top_at at h = clauses_at at h + length (figure h.clauses-gap h.clauses)

header-end : (at : ℕ) (h : HeaderLine) → at + length (header_bytes h) ≡ top_at at h + length (top_piece h)
header-end at h =
    let rest = wcnf_name ++ variables_piece h in
    omega (
      arith,
      ap length (header-bytes h),
      length-append (gap h.name-gap) rest,
      length-append wcnf_name (variables_piece h),
      gap-long h.name-gap,
      figure-length h.variables-gap h.variables (clauses_piece h),
      figure-length h.clauses-gap h.clauses (top_piece h),
    )

pub header-no-feed : (h : HeaderLine) → NoFeed (header_bytes h)
unfolding header_bytes bytes
header-no-feed h = (
  refl,
  no-feed-append (gap h.name-gap) (wcnf_name ++ variables_piece h) (gap-no-feed h.name-gap) (
    refl,
    (
      refl,
      (
        refl,
        (
          refl,
          one h.variables-gap h.variables (clauses_piece h) (one h.clauses-gap h.clauses (top_piece h)
              (no-feed-append (gap h.top-gap) (number_text h.top) (gap-no-feed h.top-gap) (number-no-feed h.top))),
        ),
      ),
    ),
  ),
)
  where
    one : (k v : ℕ) (rest : List ℕ) → NoFeed rest → NoFeed (gap k ++ (number_text v ++ rest))
    one k v rest p = no-feed-append (gap k) (number_text v ++ rest) (gap-no-feed k) (no-feed-append (number_text v) rest (number-no-feed v) p)

-- ---- read

-- from what its parts are read as
header_is : (s : List ℕ) (at line a n b m c t d : ℕ) → stands s at (p_code ∷ space ∷ []) ≡ true → space_run s (at + 1) (length s) ≡ suc a
    → stands s (at + 1 + suc a) wcnf_name ≡ true → parted_at s (at + 1 + suc a + 4) ≡ Some (n, b) → parted_at s b ≡ Some (m, c)
    → parted_at s c ≡ Some (t, d) → get_or s d 0 ≡ line_feed → header_at s at line ≡ Ok (header_says n m t (d + 1) line)
unfolding header_at bytes
header_is s at line a n b m c t d p run name r1 r2 r3 feed =
    rw (run, p, name) (rw r1 (rw r2 (rw r3 (rw (eq-eqb (get_or s d 0) line_feed feed)))))

module _ (s : List ℕ) (at line : ℕ) (h : HeaderLine) (held : HeaderHeld h) (e : stands s at (header_bytes h) ≡ true)
    (feed : get_or s (at + length (header_bytes h)) 0 ≡ line_feed) where
  e1 : stands s (at + 1) (gap h.name-gap ++ (wcnf_name ++ variables_piece h)) ≡ true
  e1 = behind-byte s at p_code _ (sym (ap (stands s at) (header-bytes h)) ∙ e)

  e2 : stands s (name_at at h) (wcnf_name ++ variables_piece h) ≡ true
  e2 =
      let near : at + 1 + length (gap h.name-gap) ≡ name_at at h = omega (arith, gap-long h.name-gap) in
      rw near at (second-stands s (at + 1) (gap h.name-gap) (wcnf_name ++ variables_piece h) e1)

  e3 : stands s (variables_at at h) (variables_piece h) ≡ true
  e3 = second-stands s (name_at at h) wcnf_name (variables_piece h) e2

  pub header_read : header_at s at line ≡ Ok (header_says h.variables h.clauses h.top (at + length (header_bytes h) + 1) line)
  header_read =
      let front = header-front s at h e in
      let blank : get_or s (at + 1) 0 ≡ space = gap-front s (at + 1) h.name-gap (wcnf_name ++ variables_piece h) e1 in
      let name : get_or s (name_at at h) 0 ≡ 119 = front-byte s (name_at at h) 119 (99 ∷ 110 ∷ 102 ∷ variables_piece h) e2 in
      let run = gap-run s (at + 1) h.name-gap (first-stands s (at + 1) (gap h.name-gap) (wcnf_name ++ variables_piece h) e1)
      (λ z. omega (arith, name, z)) in
      let f1 = figure-apart s (variables_at at h) h.variables-gap h.variables (clauses_piece h) e3 in
      let f2 = figure-apart s (clauses_at at h) h.clauses-gap h.clauses (top_piece h) f1.1 in
      let end = header-end at h in
      let feed2 : get_or s (top_at at h + length (top_piece h)) 0 ≡ line_feed = ap (λ (p : ℕ). get_or s p 0) (sym end) ∙ feed in
      header_is s at line h.name-gap h.variables (clauses_at at h) h.clauses (top_at at h) h.top (top_at at h + length (top_piece h))
      (cons-stands s at p_code (space ∷ []) front (byte-stands s (at + 1) space blank)) run
      (first-stands s (name_at at h) wcnf_name (variables_piece h) e2)
      (parted-reads s (variables_at at h) h.variables-gap h.variables held.variables-digits f1.0
      (space-no-digit _ (gap-front s (clauses_at at h) h.clauses-gap (number_text h.clauses ++ top_piece h) f1.1)))
      (parted-reads s (clauses_at at h) h.clauses-gap h.clauses held.clauses-digits f2.0
      (space-no-digit _ (gap-front s (top_at at h) h.top-gap (number_text h.top) f2.1)))
      (parted-reads s (top_at at h) h.top-gap h.top held.top_digits f2.1 (end-no-digit s (top_at at h + length (top_piece h)) feed2))
      feed2
      ∙ ap (λ (p : ℕ). Ok (header_says h.variables h.clauses h.top (p + 1) line)) (sym end)

-- ---- found

pub record HeaderFound (s : List ℕ) (at n m t next : ℕ) : Type 0 where
  pub header : HeaderLine
  pub variables : header.variables ≡ n
  pub clauses : header.clauses ≡ m
  pub top : header.top ≡ t
  pub held : HeaderHeld header
  pub stand : stands s at (header_bytes header) ≡ true
  pub feed : get_or s (at + length (header_bytes header)) 0 ≡ line_feed
  pub end : next ≡ at + length (header_bytes header) + 1

found_of : (s : List ℕ) (at a n b m c t d : ℕ) → stands s at (p_code ∷ space ∷ []) ≡ true → space_run s (at + 1) (length s) ≡ suc a
    → stands s (at + 1 + suc a) wcnf_name ≡ true → PartedFound s (at + 1 + suc a + 4) n b → PartedFound s b m c → PartedFound s c t d → get_or s d 0 ≡ line_feed
    → HeaderFound s at n m t (d + 1)
found_of s at a n b m c t d p run name r1 r2 r3 feed =
    let h : HeaderLine =
    record {
      variables = n;
      clauses = m;
      top = t;
      name-gap = a;
      variables-gap = r1.more;
      clauses-gap = r2.more;
      top-gap = r3.more;
    } in
    let near : at + 1 + length (gap a) ≡ name_at at h = omega (arith, gap-long a) in
    let s3 : stands s b (clauses_piece h) ≡ true =
    figure-before s b r2.more m (top_piece h) r2.stand (ap (λ (x : ℕ). stands s x (top_piece h)) (sym r2.end) ∙ r3.stand) in
    let s2 : stands s (variables_at at h) (variables_piece h) ≡ true =
    figure-before s (variables_at at h) r1.more n (clauses_piece h) r1.stand (ap (λ (x : ℕ). stands s x (clauses_piece h)) (sym r1.end) ∙ s3) in
    let s1 : stands s (at + 1) (gap a ++ (wcnf_name ++ variables_piece h)) ≡ true =
    both-stand s (at + 1) (gap a) (wcnf_name ++ variables_piece h) (run-stands (length s) s (at + 1) a run)
    (ap (λ (x : ℕ). stands s x (wcnf_name ++ variables_piece h)) near ∙ both-stand s (name_at at h) wcnf_name (variables_piece h) name s2) in
    let far : at + length (header_bytes h) ≡ d = omega (arith, header-end at h, r1.end, r2.end, r3.end) in
    record {
      header = h;
      variables = refl;
      clauses = refl;
      top = refl;
      held = record { variables-digits = r1.small; clauses-digits = r2.small; top_digits = r3.small };
      stand =
          ap (stands s at) (header-bytes h)
          ∙ cons-stands s at p_code (gap a ++ (wcnf_name ++ variables_piece h)) (front-byte s at p_code (space ∷ []) p) s1;
      feed = ap (λ (x : ℕ). get_or s x 0) far ∙ feed;
      end = ap (λ (x : ℕ). x + 1) (sym far);
    }

module _ (s : List ℕ) (at line N M T next l : ℕ) where
  abbrev Found : Type 0
  Found = HeaderFound s at N M T next × (l ≡ line)

  module _ (a : ℕ) (p : stands s at (p_code ∷ space ∷ []) ≡ true) (run : space_run s (at + 1) (length s) ≡ suc a)
      (name : stands s (at + 1 + suc a) wcnf_name ≡ true) where
    by-feed : (n b m c t d : ℕ) → parted_at s (at + 1 + suc a + 4) ≡ Some (n, b) → parted_at s b ≡ Some (m, c) → parted_at s c ≡ Some (t, d)
        → (x : Bool) → eqb (get_or s d 0) line_feed ≡ x
        → on_number (cond x (Some (t, d + 1)) None) (Err line) (λ top end. Ok (header_says n m top end line))
        ≡ Ok (header_says N M T next l)
        → Found
    by-feed n b m c t d r1 r2 r3 false f e = impossible (cc)
    by-feed n b m c t d r1 r2 r3 true f e =
        let same = same_header e in
        let found = found_of s at a n b m c t d p run name (parted-found s (at + 1 + suc a + 4) n b r1) (parted-found s b m c r2) (parted-found s c t d r3)
        (eqb-true (get_or s d 0) line_feed f) in
        (rw (← same.0, ← same.1, ← same.2, ← same.3) found, sym same.4)

    by-top : (n b m c : ℕ) → parted_at s (at + 1 + suc a + 4) ≡ Some (n, b) → parted_at s b ≡ Some (m, c) → (x : Option (ℕ × ℕ)) → parted_at s c ≡ x
        → on_number (ended s x) (Err line) (λ top end. Ok (header_says n m top end line)) ≡ Ok (header_says N M T next l) → Found
    by-top n b m c r1 r2 None r3 e = impossible (cc)
    by-top n b m c r1 r2 (Some (t, d)) r3 e = by-feed n b m c t d r1 r2 r3 (eqb (get_or s d 0) line_feed) refl e

    by-clauses : (n b : ℕ) → parted_at s (at + 1 + suc a + 4) ≡ Some (n, b) → (x : Option (ℕ × ℕ)) → parted_at s b ≡ x
        → on_number x (Err line)
        (λ m c. on_number (ended s (parted_at s c)) (Err line) (λ top end. Ok (header_says n m top end line))) ≡ Ok (header_says N M T next l)
        → Found
    by-clauses n b r1 None r2 e = impossible (cc)
    by-clauses n b r1 (Some (m, c)) r2 e = by-top n b m c r1 r2 (parted_at s c) refl e

    by-variables : (x : Option (ℕ × ℕ)) → parted_at s (at + 1 + suc a + 4) ≡ x
        → on_number x (Err line) (λ n b. on_number (parted_at s b) (Err line)
        (λ m c. on_number (ended s (parted_at s c)) (Err line) (λ top end. Ok (header_says n m top end line)))) ≡ Ok (header_says N M T next l)
        → Found
    by-variables None r1 e = impossible (cc)
    by-variables (Some (n, b)) r1 e = by-clauses n b r1 (parted_at s b) refl e

  -- the figures behind the name, which ends at a place
  abbrev figures_from : ℕ → Result WcnfHead ℕ
  figures_from q =
      on_number (parted_at s q) (Err line) (λ n b. on_number (parted_at s b) (Err line)
      (λ m c. on_number (ended s (parted_at s c)) (Err line) (λ top end. Ok (header_says n m top end line))))

  by-run : (k : ℕ) → space_run s (at + 1) (length s) ≡ k → (x : Bool) → (stands s at (p_code ∷ space ∷ []) && stands s (at + 1 + k) wcnf_name) ≡ x
      → cond x (figures_from (at + 1 + k + 4)) (Err line) ≡ Ok (header_says N M T next l) → Found
  by-run k run false t e = impossible (cc)
  by-run zero run true t e =
      let p = and_left (stands s at (p_code ∷ space ∷ [])) (stands s (at + 1 + 0) wcnf_name) t in
      let name = and_right (stands s at (p_code ∷ space ∷ [])) (stands s (at + 1 + 0) wcnf_name) t in
      let here : at + 1 + 0 ≡ at + 1 = omega arith in
      let w : get_or s (at + 1) 0 ≡ 119 = front-byte s (at + 1) 119 (99 ∷ 110 ∷ 102 ∷ []) (rw here at name) in
      let blank : get_or s (at + 1) 0 ≡ space = front-byte s (at + 1) space [] (behind-byte s at p_code (space ∷ []) p) in
      absurd (omega (arith, w, blank))
  by-run (suc a) run true t e =
      by-variables a (and_left (stands s at (p_code ∷ space ∷ [])) (stands s (at + 1 + suc a) wcnf_name) t) run
      (and_right (stands s at (p_code ∷ space ∷ [])) (stands s (at + 1 + suc a) wcnf_name) t) (parted_at s (at + 1 + suc a + 4)) refl e

  pub header-found : header_at s at line ≡ Ok (header_says N M T next l) → Found
  unfolding header_at bytes
  header-found e = by-run (space_run s (at + 1) (length s)) refl _ refl e

-- a header that is not read is said to break its own line
module _ (s : List ℕ) (line b : ℕ) where
  own-top : (n m : ℕ) (p : Option (ℕ × ℕ)) → on_number (ended s p) (Err line) (λ top end. Ok (header_says n m top end line)) ≡ Err b → b ≡ line
  own-top n m None e = cc
  own-top n m (Some (t, d)) e = go (eqb (get_or s d 0) line_feed) e
    where
      go : (x : Bool) → on_number (cond x (Some (t, d + 1)) None) (Err line) (λ top end. Ok (header_says n m top end line))
          ≡ Err b → b ≡ line
      go true q = impossible (cc)
      go false q = cc

  own-clauses : (n : ℕ) (p : Option (ℕ × ℕ)) → on_number p (Err line)
      (λ m c. on_number (ended s (parted_at s c)) (Err line) (λ top end. Ok (header_says n m top end line))) ≡ Err b → b ≡ line
  own-clauses n None e = cc
  own-clauses n (Some (m, c)) e = own-top n m (parted_at s c) e

  own-variables : (p : Option (ℕ × ℕ)) → on_number p (Err line) (λ n q. on_number (parted_at s q) (Err line)
      (λ m c. on_number (ended s (parted_at s c)) (Err line) (λ top end. Ok (header_says n m top end line)))) ≡ Err b → b ≡ line
  own-variables None e = cc
  own-variables (Some (n, q)) e = own-clauses n (parted_at s q) e

  pub own_line : (at : ℕ) → header_at s at line ≡ Err b → b ≡ line
  unfolding header_at bytes
  own_line at e = go (stands s at (p_code ∷ space ∷ []) && stands s (at + 1 + space_run s (at + 1) (length s)) wcnf_name) e
    where
      go : (x : Bool) → cond x (on_number (parted_at s (at + 1 + space_run s (at + 1) (length s) + 4)) (Err line) (λ n q.
          on_number (parted_at s q) (Err line) (λ m c.
          on_number (ended s (parted_at s c)) (Err line) (λ top end. Ok (header_says n m top end line))))) (Err line) ≡ Err b
          → b ≡ line
      go true q = own-variables (parted_at s (at + 1 + space_run s (at + 1) (length s) + 4)) q
      go false q = cc
