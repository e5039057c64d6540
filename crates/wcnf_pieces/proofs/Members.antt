-- A clause read member by member: a signed number in each of its forms, what the definition comes to behind one, and what was gathered so far
-- with what is still to be read. Whoever reads on gathers what the definition says of the whole list.
use Rattle.std.specs.Prelude.{Option, Some, None}
use Prim.Native.Nat.{ℕ, zero, suc, ◌+◌, ◌<◌}
use mathlib.Core.Path.{◌≡◌, refl, sym, ap, ap₂, ◌∙◌}
use mathlib.Core.Bool.{Bool, true, false, cond, ◌||◌, or_assoc, or-false}
use mathlib.Core.List.{List, []}
use native.Mathlib.Omega.{arith}
use borrow.Author.Tests.{eq-eqb, ne_eqb}
use lib.Dec.{eqb, ltb}
use lib.IntN.{ℤ, pos, negsuc, neg_ℤ}
use lib.ListN.{length, get_or}
use Rattle.masks.proofs.Choice.{impossible, not_so, some-same}
use Rattle.literals.specs.declared.Literal.{Literal}
use Rattle.literals.specs.declared.Lits.{Lits}
use Rattle.literals.specs.Literal.{most_variables, size, is_literal, opposite, lits_of, offered}
use Rattle.literals.specs.Lits.{no_lits, together}
use Rattle.literals.proofs.Opposites.{literal-sized, opposite-literal}
use Rattle.literals.proofs.Offers.{offered-fine, offered-refused}
use Rattle.literals.proofs.TwoMasks.{lits-other, together-none, none-together, together-assoc}
use Rattle.rules.specs.Text.{line_feed, minus}
use Rattle.rules.specs.Reader.{number_at, on_number}
use Rattle.rules.specs.Table.{bad_lits}
use Rattle.rules.specs.WcnfReader.{space_run, MembersRead, members, broken_line, with_member, on_signed, members_from, on_members}
use Rattle.rules.specs.WcnfReader.{lits_of_members, some_above, bad_members}
use Rattle.wcnf_pieces.specs.declared.SignedRead.{SignedRead}
use Rattle.wcnf_pieces.specs.declared.Gathered.{Gathered}
use Rattle.wcnf_pieces.specs.declared.ClauseRead.{ClauseRead}
use Rattle.wcnf_pieces.specs.Clauses.{of_sign, signed_read, signed_at, member_at, closed_at, gathered, clause_at}

-- ---- a signed number

module _ (s : List ℕ) (at : ℕ) where
  pub plain-broken : (get_or s at 0 ≡ minus → ⊥) → number_at s at ≡ None → signed_at s at ≡ None
  unfolding signed_at
  plain-broken h e = rw (ne_eqb (get_or s at 0) minus h, e)

  pub plain-is : (v next : ℕ) → (get_or s at 0 ≡ minus → ⊥) → number_at s at ≡ Some (v, next)
      → signed_at s at ≡ Some (record { size = v; negative = false; next = next })
  unfolding signed_at
  plain-is v next h e = rw (ne_eqb (get_or s at 0) minus h, e)

  pub minus-broken : get_or s at 0 ≡ minus → number_at s (at + 1) ≡ None → signed_at s at ≡ None
  unfolding signed_at
  minus-broken h e = rw (eq-eqb (get_or s at 0) minus h, e)

  pub minus-zero : (v next : ℕ) → get_or s at 0 ≡ minus → number_at s (at + 1) ≡ Some (v, next) → v ≡ 0 → signed_at s at ≡ None
  unfolding signed_at
  minus-zero v next h e z = rw (eq-eqb (get_or s at 0) minus h, e) (rw (eq-eqb v 0 z))

  pub minus_is : (v next : ℕ) → get_or s at 0 ≡ minus → number_at s (at + 1) ≡ Some (v, next) → (v ≡ 0 → ⊥)
      → signed_at s at ≡ Some (record { size = v; negative = true; next = next })
  unfolding signed_at
  minus_is zero next h e z = absurd (z refl)
  minus_is (suc v) next h e z = rw (eq-eqb (get_or s at 0) minus h, e) (rw (ne_eqb (suc v) 0 z))

-- ---- the literal of a size and a sign

pub size_of : (negative : Bool) (n : ℕ) → size (of_sign negative n) ≡ n
unfolding size
size_of true zero = refl
size_of true (suc n) = refl
size_of false n = refl

module _ (negative : Bool) (n : ℕ) where
  one_size : is_literal (of_sign negative n) ≡ is_literal (pos n)
  unfolding is_literal
  one_size = rw (size_of negative n, size_of false n)

  pub past-literals : most_variables < n → lits_of (of_sign negative n) ≡ no_lits
  past-literals h = lits-other (of_sign negative n) (not_so far)
    where
      far : is_literal (of_sign negative n) ≡ true → ⊥
      far t = omega (arith, (literal-sized (of_sign negative n) t).most, size_of negative n, h)

  pub no-literal : offered (pos n) ≡ None → lits_of (of_sign negative n) ≡ no_lits
  no-literal e = lits-other (of_sign negative n) (one_size ∙ offered-refused (pos n) e)

module _ (n : ℕ) (l : Literal) (e : offered (pos n) ≡ Some l) where
  pub plain-literal : (r : Lits) → r ≡ lits_of l.value → r ≡ lits_of (of_sign false n)
  plain-literal r is = is ∙ ap (λ (k : Literal). lits_of k.value) (offered-fine (pos n) l e).1

  pub turned-literal : (o : Literal) → o.value ≡ opposite l.value → (r : Lits) → r ≡ lits_of o.value → r ≡ lits_of (of_sign true n)
  turned-literal o turned r is =
      is ∙ ap lits_of (turned ∙ ap (λ (k : Literal). opposite k.value) (offered-fine (pos n) l e).1 ∙ opposite-literal (pos n) (offered-fine (pos n) l e).0)

-- ---- with a gap in front

module _ (s : List ℕ) (at : ℕ) where
  pub member-not : space_run s at (length s) ≡ 0 → member_at s at ≡ None
  unfolding member_at
  member-not e = rw (eq-eqb (space_run s at (length s)) 0 e)

  pub member_is : (gap : ℕ) → gap ≡ space_run s at (length s) → (gap ≡ 0 → ⊥) → member_at s at ≡ signed_at s (at + gap)
  unfolding member_at
  member_is gap e h = rw (← e, ne_eqb gap 0 h)

-- ---- the definition behind a member

abbrev on_read : {A : Type 0} → Option SignedRead → A → (ℤ → ℕ → A) → A
on_read (Some signed) broken go = go (of_sign signed.negative signed.size) signed.next
on_read None broken go = broken

signed_by : {A : Type 0} (s : List ℕ) (at : ℕ) (broken : A) (go : ℤ → ℕ → A) → on_signed s at broken go ≡ on_read (signed_at s at) broken go
unfolding signed_at
signed_by {A} s at broken go = by (eqb (get_or s at 0) minus) (number_at s (at + 1)) (number_at s at)
  where
    whole : (l : ℤ) (next : ℕ) → go l next ≡ on_read (signed_read l next) broken go
    whole (pos n) next = refl
    whole (negsuc n) next = refl

    not-zero : (b : Bool) (l : ℤ) (next : ℕ)
        → cond b broken (go l next) ≡ on_read (cond b None (signed_read l next)) broken go
    not-zero true l next = refl
    not-zero false l next = whole l next

    by : (b : Bool) (p q : Option (ℕ × ℕ))
        → cond b (on_number p broken (λ v next. cond (eqb v 0) broken (go (neg_ℤ (pos v)) next))) (on_number q broken (λ v next. go (pos v) next))
        ≡ on_read
        (cond b
        (on_number p None (λ v next. cond (eqb v 0) None (signed_read (neg_ℤ (pos v)) next)))
        (on_number q None (λ v next. signed_read (pos v) next)))
        broken go
    by true None q = refl
    by true (Some (v, next)) q = not-zero (eqb v 0) (neg_ℤ (pos v)) next
    by false p None = refl
    by false p (Some (v, next)) = refl

abbrev onward : ℕ → List ℕ → ℤ → ℕ → MembersRead
onward k s l next =
    let closed = cond (eqb (get_or s next 0) line_feed) (members [] (next + 1)) broken_line in
    let more = with_member l (members_from k s next) in
    cond (eqb (size l) 0) closed more

members-by : (k : ℕ) (s : List ℕ) (at : ℕ) → members_from (suc k) s at ≡ on_read (member_at s at) broken_line (onward k s)
unfolding members_from member_at
members-by k s at = go (eqb (space_run s at (length s)) 0)
  where
    go : (b : Bool)
        → cond b broken_line (on_signed s (at + space_run s at (length s)) broken_line (onward k s))
        ≡ on_read (cond b None (signed_at s (at + space_run s at (length s)))) broken_line (onward k s)
    go true = refl
    go false = signed_by s (at + space_run s at (length s)) broken_line (onward k s)

-- ---- what was gathered

gather-more : (variables : ℕ) (lits : Lits) (above : Bool) (l : ℤ) (r : MembersRead)
    → gathered variables lits above (with_member l r) ≡ gathered variables (together lits (lits_of l)) (above || ltb variables (size l)) r
unfolding lits_of_members some_above
gather-more variables lits above l (members ls next) =
    ap₂ (λ (k : Lits) (b : Bool). Some (record { lits = k; above = b; next = next }))
    (sym (together-assoc lits (lits_of l) (lits_of_members ls)))
    (sym (or_assoc above (ltb variables (size l)) (some_above variables ls)))
gather-more variables lits above l broken_line = refl

gather_none : (variables : ℕ) (lits : Lits) (above : Bool) (next : ℕ)
    → gathered variables lits above (members [] next) ≡ Some (record { lits = lits; above = above; next = next })
unfolding lits_of_members some_above
gather_none variables lits above next = ap₂ (λ (k : Lits) (b : Bool). Some (record { lits = k; above = b; next = next })) (together-none lits) (or-false above)

module _ (variables : ℕ) (lits : Lits) (above : Bool) (s : List ℕ) (at : ℕ) where
  -- what is gathered of the members that j turns may still read
  abbrev pub gathered_from : ℕ → Option Gathered
  gathered_from j = gathered variables lits above (members_from j s at)

  pub gather-end : gathered_from 0 ≡ None
  unfolding members_from
  gather-end = refl

  pub gather-stuck : (k : ℕ) → member_at s at ≡ None → gathered_from (suc k) ≡ None
  gather-stuck k e =
      ap (gathered variables lits above) (members-by k s at ∙ ap (λ (r : Option SignedRead). on_read r broken_line (onward k s)) e)

  module _ (k n : ℕ) (negative : Bool) (next : ℕ) (e : member_at s at ≡ Some (record { size = n; negative = negative; next = next })) where
    behind : members_from (suc k) s at ≡ onward k s (of_sign negative n) next
    behind = members-by k s at ∙ ap (λ (r : Option SignedRead). on_read r broken_line (onward k s)) e

    pub gather-closing : n ≡ 0 → gathered_from (suc k) ≡ closed_at s next lits above
    unfolding closed_at
    gather-closing z =
        let go : onward k s (of_sign negative n) next ≡ cond (eqb (get_or s next 0) line_feed) (members [] (next + 1)) broken_line =
        rw (eq-eqb (size (of_sign negative n)) 0 (size_of negative n ∙ z)) in
        ap (gathered variables lits above) (behind ∙ go) ∙ by (eqb (get_or s next 0) line_feed)
      where
        by : (b : Bool)
            → gathered variables lits above (cond b (members [] (next + 1)) broken_line)
            ≡ cond b (Some (record { lits = lits; above = above; next = next + 1 })) None
        by true = gather_none variables lits above (next + 1)
        by false = refl

    pub gather-on : (one all : Lits) → (n ≡ 0 → ⊥) → one ≡ lits_of (of_sign negative n) → all ≡ together lits one
        → gathered_from (suc k) ≡ gathered variables all (above || ltb variables n) (members_from k s next)
    gather-on one all some is adds =
        let go : onward k s (of_sign negative n) next ≡ with_member (of_sign negative n) (members_from k s next) =
        rw (ne_eqb (size (of_sign negative n)) 0 (λ z. some (sym (size_of negative n) ∙ z))) in
        ap (gathered variables lits above) (behind ∙ go)
        ∙ gather-more variables lits above (of_sign negative n) (members_from k s next)
        ∙ ap₂ (λ (x : Lits) (m : ℕ). gathered variables x (above || ltb variables m) (members_from k s next))
        (ap (together lits) (sym is) ∙ sym adds) (size_of negative n)

-- ---- the clause

module _ (variables : ℕ) (s : List ℕ) (at : ℕ) where
  pub no-weight : number_at s at ≡ None → clause_at variables s at ≡ None
  unfolding clause_at
  no-weight e = rw e

  module _ (w next : ℕ) (e : number_at s at ≡ Some (w, next)) where
    abbrev made : MembersRead → Option ClauseRead
    made r = on_members r None (λ ls end. Some (record { weight = w; lits = lits_of_members ls; bad = bad_members variables ls; next = end }))

    pub no-members : gathered variables no_lits false (members_from (length s) s next) ≡ None → clause_at variables s at ≡ None
    unfolding clause_at
    no-members g = rw e (go (members_from (length s) s next) g)
      where
        go : (r : MembersRead) → gathered variables no_lits false r ≡ None → made r ≡ None
        go (members ls end) h = impossible (cc)
        go broken_line h = refl

    pub clause-is : (lits : Lits) (above : Bool) (end : ℕ) (bad : Bool)
        → gathered variables no_lits false (members_from (length s) s next) ≡ Some (record { lits = lits; above = above; next = end })
        → bad ≡ bad_lits variables lits → Some (record { weight = w; lits = lits; bad = above || bad; next = end }) ≡ clause_at variables s at
    unfolding clause_at bad_members
    clause-is lits above end bad g b = rw e (go (members_from (length s) s next) g)
      where
        go : (m : MembersRead) → gathered variables no_lits false m ≡ Some (record { lits = lits; above = above; next = end })
            → Some (record { weight = w; lits = lits; bad = above || bad; next = end }) ≡ made m
        go (members ls far) h =
            let same = some-same h in
            let is : lits_of_members ls ≡ lits = sym (none-together (lits_of_members ls)) ∙ ap (λ (g : Gathered). g.lits) same in
            let over : some_above variables ls ≡ above = ap (λ (g : Gathered). g.above) same in
            let there : far ≡ end = ap (λ (g : Gathered). g.next) same in
            rw (b, ← is, ← over, ← there)
        go broken_line h = impossible (cc)
