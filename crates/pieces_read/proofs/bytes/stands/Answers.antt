-- `stands` meets its contract: each byte of the key is the one that stands at its place.
use Rattle.std.specs.Bool.{MatchBool}
use Rattle.std.specs.List.{enumerate_from, AllWithin, HoldsAt}
use Prim.Native.Nat.{ℕ, ◌+◌, ◌<◌}
use mathlib.Core.Path.{◌≡◌, sym, subst, ◌∙◌}
use mathlib.Core.Bool.{Bool, true, false}
use mathlib.Core.List.{List}
use native.Mathlib.Omega.{arith}
use native.Mathlib.Nat.{zero-add}
use borrow.Author.Rules.{rules}
use borrow.Author.Tests.{tests}
use lib.ListN.{length, get_or}
use Rattle.std.proofs.lemmas.Iterator.{YieldsList-from_slice, cases_from_all}
use Rattle.std.proofs.lemmas.Iterator.Consumers.{YieldsList-from_enumerate}
use Rattle.std.proofs.lemmas.List.FromFn.{get_or-enumerate_from, length-enumerate_from}
use Rattle.masks.proofs.Choice.{not_so}
use Rattle.rules.specs.Reader.{stands}
use Rattle.text_laws.proofs.Stands.{stands_of, stands_at}
use Rattle.pieces_read.proofs.bytes.stands.Goals as goal

abbrev There : List ℕ → ℕ → ℕ × ℕ → Type 0
There s at p = get_or s (at + p.0) 0 ≡ p.1

numbered : (key : List ℕ) (k : ℕ) → k < length key → ◌≡◌ {A = ℕ × ℕ} (get_or (enumerate_from 0 key) k (0, 0)) (k, get_or key k 0)
numbered key k l = get_or-enumerate_from 0 key k (0, 0) l ∙ rw (zero-add k)

each : (s : List ℕ) (at : ℕ) (key : List ℕ) (r : Bool)
    → MatchBool r (AllWithin (There s at) (enumerate_from 0 key) 0 (length (enumerate_from 0 key)))
    ((k : ℕ) × (k < length (enumerate_from 0 key)) × HoldsAt (λ p. There s at p → ⊥) (enumerate_from 0 key) k)
    → r ≡ stands s at key
each s at key true h =
    sym (stands_of s at key (λ k l. subst (There s at) (numbered key k l) (h k (0, 0) (omega arith) (rw (length-enumerate_from 0 key) l))))
each s at key false (k, l, h) =
    let inside : k < length key = rw (length-enumerate_from 0 key) at l in
    sym (not_so (λ t. subst (λ p. There s at p → ⊥) (numbered key k inside) (h (0, 0)) (stands_at s at key t k inside)))

pub returns : goal.returns
returns c =
    each c.args.s.now c.args.at c.args.key.now _
    (cases_from_all _ _ _ (There c.args.s.now c.args.at) (λ p. There c.args.s.now c.args.at p → ⊥) c.all.ensures.ran
    (YieldsList-from_enumerate (YieldsList-from_slice c.args.key.now (cc)) (cc))
    (λ x q k. search (rules, tests)) (λ x q k. search (rules, tests)))
