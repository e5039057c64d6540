-- A literal that is read is the one that the definition has, as a signed number: the constructor refuses just the numbers that are no
-- variable, a minus turns the sign, and the set of the literal, added to a set, puts its bit into the mask of its sign.
use Rattle.std.specs.Prelude.{Option, Some, None}
use Prim.Native.Nat.{ℕ, suc, ◌≤◌, ◌<◌}
use mathlib.Core.Path.{◌≡◌, refl, sym, ap, ◌∙◌}
use mathlib.Core.Bool.{Bool, true, false, not, ◌&&◌}
use mathlib.Core.List.{List}
use native.Mathlib.Omega.{arith}
use borrow.Author.Tests.{lt-ltb, le-ltb, le-leb, ltb-true, leb-true, ne_eqb}
use lib.Bits.{or_zero_r}
use lib.Dec.{ltb, leb}
use lib.IntN.{pos}
use lib.ListN.{get_or}
use Rattle.masks.proofs.Choice.{and_left, and_right, clash, impossible, some-pair}
use Rattle.literals.specs.declared.Literal.{Literal}
use Rattle.literals.specs.declared.Lits.{Lits}
use Rattle.literals.specs.Literal.{most_variables, size, is_positive, opposite, bit_of, lits_of, offered}
use Rattle.literals.specs.Lits.{together}
use Rattle.literals.proofs.Offers.{offered-fine, offered-refused}
use Rattle.literals.proofs.OneBit.{bit-opposite}
use Rattle.literals.proofs.Opposites.{literal-sized, sized-literal, size-opposite, sign-opposite}
use Rattle.literals.proofs.TwoMasks.{lits-positive, lits-negative}
use Rattle.rules.specs.Text.{line_feed}
use Rattle.rules.specs.Reader.{literal_of, literal_at, with_literal, lits_from}
use Rattle.text_laws.proofs.Branches.{literal-in, literal-out, literal-found, Parted, lits-broken, lits-next}
use Rattle.lists_read.specs.Literals.{signed, literal_read}

-- ---- by the number that was read

module _ (last v next : ℕ) (n : Option (ℕ × ℕ)) (e : n ≡ Some (v, next)) where
  pub no-literal : offered (pos v) ≡ None → None ≡ literal_read (literal_of true last n)
  unfolding size
  no-literal refused = sym (ap literal_read (literal-out true last v next n e (out (ltb last v && leb v most_variables) refl)))
    where
      out : (b : Bool) → (ltb last v && leb v most_variables) ≡ b → (ltb last v && leb v most_variables) ≡ false
      out false t = t
      out true t =
          let above = ltb-true last v (and_left (ltb last v) (leb v most_variables) t) in
          let most = leb-true v most_variables (and_right (ltb last v) (leb v most_variables) t) in
          absurd (clash (sized-literal (pos v) (record { some = omega arith; most = most })) (offered-refused (pos v) refused))

  pub not-above : v ≤ last → None ≡ literal_read (literal_of true last n)
  not-above h = sym (ap literal_read (literal-out true last v next n e (rw (le-ltb last v h))))

  pub above : (l : Literal) → offered (pos v) ≡ Some l → last < v → Some (l, next) ≡ literal_read (literal_of true last n)
  unfolding size
  above l fine h =
      let made = offered-fine (pos v) l fine in
      let test : (ltb last v && leb v most_variables) ≡ true = rw (lt-ltb last v h, le-leb v most_variables (literal-sized (pos v) made.0).most) in
      ap (λ (x : Literal). Some (x, next)) made.1 ∙ sym (ap literal_read (literal-in true last v next n e test))

-- ---- a minus

pub turned : (last : ℕ) (n : Option (ℕ × ℕ)) (l other : Literal) (next : ℕ) → literal_read (literal_of true last n) ≡ Some (l, next)
    → other.value ≡ opposite l.value → Some (other, next) ≡ literal_read (literal_of false last n)
turned last None l other next e o = impossible (cc)
turned last (Some (v, place)) l other next e o = go (ltb last v && leb v most_variables) refl
  where
    go : (b : Bool) → (ltb last v && leb v most_variables) ≡ b → Some (other, next) ≡ literal_read (literal_of false last (Some (v, place)))
    go true t =
        let f : ◌≡◌ {A = Option (Literal × ℕ)} (Some (record { value = pos v }, place)) (Some (l, next)) = rw t at e in
        let same = some-pair f in
        let is : other.value ≡ opposite (pos v) = o ∙ ap (λ (x : Literal). opposite x.value) (sym same.0) in
        rw t (λ i. Some (record { value = is i }, sym same.1 i))
    go false t =
        let f : ◌≡◌ {A = Option (Literal × ℕ)} None (Some (l, next)) = rw t at e in
        impossible (cc)

pub turned-broken : (last : ℕ) (n : Option (ℕ × ℕ)) → literal_read (literal_of true last n) ≡ None
    → None ≡ literal_read (literal_of false last n)
turned-broken last None e = refl
turned-broken last (Some (v, place)) e = go (ltb last v && leb v most_variables) refl
  where
    go : (b : Bool) → (ltb last v && leb v most_variables) ≡ b → None ≡ literal_read (literal_of false last (Some (v, place)))
    go true t =
        let f : ◌≡◌ {A = Option (Literal × ℕ)} (Some (record { value = pos v }, place)) None = rw t at e in
        impossible (cc)
    go false t = rw t

-- ---- the literal as a set

size-signed : (p : Bool) (v : ℕ) → size (signed p v) ≡ v
unfolding size
size-signed true v = refl
size-signed false v = size-opposite (pos v)

grown : (l : Lits) (p : Bool) (v : ℕ) → 1 ≤ v → v ≤ most_variables → together l (lits_of (signed p v)) ≡ with_literal l p v
unfolding together with_literal bit_of size is_positive
grown l true v some most =
    rw (lits-positive (pos v) (lt-ltb 0 v some), ne_eqb v 0 (λ z. omega arith), or_zero_r l.negative)
grown l false v some most =
    let literal = sized-literal (pos v) (record { some = some; most = most }) in
    let negative : is_positive (opposite (pos v)) ≡ false = sign-opposite (pos v) literal ∙ ap not (lt-ltb 0 v some) in
    rw (lits-negative (opposite (pos v)) negative, bit-opposite (pos v), ne_eqb v 0 (λ z. omega arith), or_zero_r l.positive)

-- ---- the literals of a line

module _ (k : ℕ) (s : List ℕ) (at last : ℕ) (lits : Lits) (from : ℕ) (more : get_or s at 0 ≡ line_feed → ⊥) (parted : Parted s at last from) where
  pub lits-stuck : literal_read (literal_at s from last) ≡ None → lits_from (suc k) s at last lits ≡ None
  lits-stuck e = lits-broken k s at last lits from more parted (go (literal_at s from last) e)
    where
      go : (r : Option (Bool × ℕ × ℕ)) → literal_read r ≡ None → r ≡ None
      go None h = refl
      go (Some (p, v, next)) h = impossible (cc)

  pub lits-grown : (l : Literal) (next : ℕ) (one all : Lits) (v : ℕ) → literal_read (literal_at s from last) ≡ Some (l, next)
      → one ≡ lits_of l.value → all ≡ together lits one → v ≡ size l.value → lits_from (suc k) s at last lits ≡ lits_from k s next v all
  lits-grown l next one all v e is adds sized = go (literal_at s from last) refl e
    where
      go : (r : Option (Bool × ℕ × ℕ)) → literal_at s from last ≡ r → literal_read r ≡ Some (l, next)
          → lits_from (suc k) s at last lits ≡ lits_from k s next v all
      go None h q = impossible (cc)
      go (Some (p, w, place)) h q =
          let same = some-pair q in
          let found = literal-found s from last p w place h in
          let variable : w ≡ v = sym (size-signed p w) ∙ ap (λ (x : Literal). size x.value) same.0 ∙ sym sized in
          let set : with_literal lits p w ≡ all =
          sym (grown lits p w (omega (arith, found.above)) found.most)
          ∙ ap (λ (x : Literal). together lits (lits_of x.value)) same.0
          ∙ ap (together lits) (sym is)
          ∙ sym adds in
          lits-next k s at last lits from p w place more parted h ∙ (λ i. lits_from k s (same.1 i) (variable i) (set i))
