-- `bad_rewriting` meets its contract: the first thing on the list that is wrong decides, and (d) comes last.
use Prim.Native.Nat.{ℕ, ◌≤◌}
use mathlib.Core.Path.{◌≡◌, sym, ◌∙◌}
use mathlib.Core.Bool.{true, false}
use native.Mathlib.Omega.{arith}
use lib.Dec.{ltb}
use borrow.Author.Tests.{lt-ltb, le-ltb}
use Rattle.rules.specs.Desk.{loaded, conceded, weight_on}
use Rattle.rules.specs.Steps.{count_fits}
use Rattle.rules.specs.TakeBack.{last_kind, last_count, last_first, last_conceded}
use Rattle.kinds.specs.declared.Kind.{Kind}
use Rattle.kinds.specs.Numbers.{number}
use Rattle.kinds.proofs.Numbers.{number-known}
use Rattle.last_entry.specs.Last.{named_well, added_well, soft_named, over_after}
use Rattle.last_entry.proofs.Lasts.{step-stands, whole, first_word}
use Rattle.last_entry.proofs.Bad.{bad-count, bad-named, bad-first, bad-added, bad-conceded, bad-hard, bad-weight}
use Rattle.last_entry.proofs.Bad.{named-apart, named-below, few, some, first_fits}
use Rattle.last_entry.proofs.Regained.{fits_after}
use Rattle.last_entry.proofs.inner.bad_rewriting.Goals as goal

-- a kind's number is at most 4
known : (k : Kind) {n : ℕ} → number k ≡ n → n ≤ 4
known k e = omega (arith, number-known k)

pub last_word-n-requires : goal.last_word-n-requires
last_word-n-requires c =
    record {
      step_stands = step-stands _ c.requires.stands;
      k_lt_entry_words = omega arith;
    }

pub last_word-first-requires : goal.last_word-first-requires
last_word-first-requires c =
    record {
      step_stands = step-stands _ c.requires.stands;
      k_lt_entry_words = omega arith;
    }

pub returns-then-not-count_fits : goal.returns-then-not-count_fits
unfolding last_count
returns-then-not-count_fits c =
    let kind-told : number c.args.kind ≡ last_kind c.args.desk.now = c.requires.kind_told in
    let count_word : c.last_word-n.result ≡ last_count c.args.desk.now = c.last_word-n.ensures in
    let count-told : c.count_fits.result ≡ count_fits (last_kind c.args.desk.now)
    (last_count c.args.desk.now) = rw (c.count_fits.ensures, kind-told, count_word) in
    sym (bad-count _ (sym count-told ∙ c.if-not-count_fits.true))

pub rows_named-requires : goal.rows_named-requires
unfolding last_count
rows_named-requires c =
    let count_word : c.last_word-n.result ≡ last_count c.args.desk.now = c.last_word-n.ensures in
    let kind-told : number c.args.kind ≡ last_kind c.args.desk.now = c.requires.kind_told in
    let count-told : c.count_fits.result ≡ count_fits (last_kind c.args.desk.now)
    (last_count c.args.desk.now) = rw (c.count_fits.ensures, kind-told, count_word) in
    let count-holds : count_fits (last_kind c.args.desk.now)
    (last_count c.args.desk.now) ≡ true = sym count-told ∙ c.if-not-count_fits.false in
    let n = count_word in
    record {
      stands = c.requires.stands;
      n_le_most_named = omega (arith, n, few _ c.requires.some (known _ c.requires.kind_told) count-holds);
    }

pub returns-then-not-rows_named : goal.returns-then-not-rows_named
unfolding last_count
returns-then-not-rows_named c =
    let kind-told : number c.args.kind ≡ last_kind c.args.desk.now = c.requires.kind_told in
    let count_word : c.last_word-n.result ≡ last_count c.args.desk.now = c.last_word-n.ensures in
    let count-told : c.count_fits.result ≡ count_fits (last_kind c.args.desk.now)
    (last_count c.args.desk.now) = rw (c.count_fits.ensures, kind-told, count_word) in
    let count-holds : count_fits (last_kind c.args.desk.now)
    (last_count c.args.desk.now) ≡ true = sym count-told ∙ c.if-not-count_fits.false in
    let first-told : c.last_word-first.result ≡ last_first c.args.desk.now = c.last_word-first.ensures ∙ first_word c.args.desk.now in
    let named-told : c.rows_named.result ≡ named_well c.args.desk.now
    (last_count c.args.desk.now)
    (last_first c.args.desk.now) = rw (c.rows_named.ensures, count_word, first-told) in
    sym (bad-named _ count-holds (sym named-told ∙ c.if-not-rows_named.true))

pub returns-then-first-word : goal.returns-then-first-word
unfolding last_count
returns-then-first-word c =
    let kind-told : number c.args.kind ≡ last_kind c.args.desk.now = c.requires.kind_told in
    let count_word : c.last_word-n.result ≡ last_count c.args.desk.now = c.last_word-n.ensures in
    let count-told : c.count_fits.result ≡ count_fits (last_kind c.args.desk.now)
    (last_count c.args.desk.now) = rw (c.count_fits.ensures, kind-told, count_word) in
    let count-holds : count_fits (last_kind c.args.desk.now)
    (last_count c.args.desk.now) ≡ true = sym count-told ∙ c.if-not-count_fits.false in
    let first-told : c.last_word-first.result ≡ last_first c.args.desk.now = c.last_word-first.ensures ∙ first_word c.args.desk.now in
    let named-told : c.rows_named.result ≡ named_well c.args.desk.now
    (last_count c.args.desk.now)
    (last_first c.args.desk.now) = rw (c.rows_named.ensures, count_word, first-told) in
    let named-holds : named_well c.args.desk.now
    (last_count c.args.desk.now)
    (last_first c.args.desk.now) ≡ true = sym named-told ∙ c.if-not-rows_named.false in
    sym (bad-first _ count-holds named-holds
    (lt-ltb (last_first c.args.desk.now)
    (loaded c.args.desk.now)
    (omega (arith, first-told, c.word.ensures, c.if-first-word.true))))

pub rows_added-requires : goal.rows_added-requires
rows_added-requires c = c.requires.stands

pub returns-then-not-rows_added : goal.returns-then-not-rows_added
unfolding last_count
returns-then-not-rows_added c =
    let kind-told : number c.args.kind ≡ last_kind c.args.desk.now = c.requires.kind_told in
    let count_word : c.last_word-n.result ≡ last_count c.args.desk.now = c.last_word-n.ensures in
    let count-told : c.count_fits.result ≡ count_fits (last_kind c.args.desk.now)
    (last_count c.args.desk.now) = rw (c.count_fits.ensures, kind-told, count_word) in
    let count-holds : count_fits (last_kind c.args.desk.now)
    (last_count c.args.desk.now) ≡ true = sym count-told ∙ c.if-not-count_fits.false in
    let first-told : c.last_word-first.result ≡ last_first c.args.desk.now = c.last_word-first.ensures ∙ first_word c.args.desk.now in
    let named-told : c.rows_named.result ≡ named_well c.args.desk.now
    (last_count c.args.desk.now)
    (last_first c.args.desk.now) = rw (c.rows_named.ensures, count_word, first-told) in
    let named-holds : named_well c.args.desk.now
    (last_count c.args.desk.now)
    (last_first c.args.desk.now) ≡ true = sym named-told ∙ c.if-not-rows_named.false in
    let first_holds : ltb (last_first c.args.desk.now)
    (loaded c.args.desk.now) ≡ false = le-ltb (last_first c.args.desk.now)
    (loaded c.args.desk.now)
    (omega (arith, first-told, c.word.ensures, c.if-first-word.false)) in
    let added-told : c.rows_added.result ≡ added_well c.args.desk.now
    (last_kind c.args.desk.now)
    (last_count c.args.desk.now)
    (last_first c.args.desk.now) = rw (
      c.rows_added.ensures,
      kind-told,
      count_word,
      first-told,
    ) in
    sym (bad-added _ count-holds named-holds
    first_holds (sym added-told ∙ c.if-not-rows_added.true))

pub conceded_by-back-requires : goal.conceded_by-back-requires
conceded_by-back-requires c = c.requires.stands

pub returns-then-word-back : goal.returns-then-word-back
unfolding last_count
returns-then-word-back c =
    let kind-told : number c.args.kind ≡ last_kind c.args.desk.now = c.requires.kind_told in
    let count_word : c.last_word-n.result ≡ last_count c.args.desk.now = c.last_word-n.ensures in
    let count-told : c.count_fits.result ≡ count_fits (last_kind c.args.desk.now)
    (last_count c.args.desk.now) = rw (c.count_fits.ensures, kind-told, count_word) in
    let count-holds : count_fits (last_kind c.args.desk.now)
    (last_count c.args.desk.now) ≡ true = sym count-told ∙ c.if-not-count_fits.false in
    let first-told : c.last_word-first.result ≡ last_first c.args.desk.now = c.last_word-first.ensures ∙ first_word c.args.desk.now in
    let named-told : c.rows_named.result ≡ named_well c.args.desk.now
    (last_count c.args.desk.now)
    (last_first c.args.desk.now) = rw (c.rows_named.ensures, count_word, first-told) in
    let named-holds : named_well c.args.desk.now
    (last_count c.args.desk.now)
    (last_first c.args.desk.now) ≡ true = sym named-told ∙ c.if-not-rows_named.false in
    let first_holds : ltb (last_first c.args.desk.now)
    (loaded c.args.desk.now) ≡ false = le-ltb (last_first c.args.desk.now)
    (loaded c.args.desk.now)
    (omega (arith, first-told, c.word.ensures, c.if-first-word.false)) in
    let added-told : c.rows_added.result ≡ added_well c.args.desk.now
    (last_kind c.args.desk.now)
    (last_count c.args.desk.now)
    (last_first c.args.desk.now) = rw (
      c.rows_added.ensures,
      kind-told,
      count_word,
      first-told,
    ) in
    let added-holds : added_well c.args.desk.now
    (last_kind c.args.desk.now)
    (last_count c.args.desk.now)
    (last_first c.args.desk.now) ≡ true = sym added-told ∙ c.if-not-rows_added.false in
    sym (bad-conceded _ count-holds
    named-holds first_holds
    added-holds
    (lt-ltb (conceded c.args.desk.now) (last_conceded
    c.args.desk.now)
    (omega (arith, c.word-2.ensures, c.conceded_by-back.ensures, c.if-word-back.true))))

pub none_hard-requires : goal.none_hard-requires
unfolding last_count
none_hard-requires c =
    let kind-told : number c.args.kind ≡ last_kind c.args.desk.now = c.requires.kind_told in
    let count_word : c.last_word-n.result ≡ last_count c.args.desk.now = c.last_word-n.ensures in
    let count-told : c.count_fits.result ≡ count_fits (last_kind c.args.desk.now)
    (last_count c.args.desk.now) = rw (c.count_fits.ensures, kind-told, count_word) in
    let count-holds : count_fits (last_kind c.args.desk.now)
    (last_count c.args.desk.now) ≡ true = sym count-told ∙ c.if-not-count_fits.false in
    let first-told : c.last_word-first.result ≡ last_first c.args.desk.now = c.last_word-first.ensures ∙ first_word c.args.desk.now in
    let added-told : c.rows_added.result ≡ added_well c.args.desk.now
    (last_kind c.args.desk.now)
    (last_count c.args.desk.now)
    (last_first c.args.desk.now) = rw (
      c.rows_added.ensures,
      kind-told,
      count_word,
      first-told,
    ) in
    let added-holds : added_well c.args.desk.now
    (last_kind c.args.desk.now)
    (last_count c.args.desk.now)
    (last_first c.args.desk.now) ≡ true = sym added-told ∙ c.if-not-rows_added.false in
    let named-told : c.rows_named.result ≡ named_well c.args.desk.now
    (last_count c.args.desk.now)
    (last_first c.args.desk.now) = rw (c.rows_named.ensures, count_word, first-told) in
    let named-holds : named_well c.args.desk.now
    (last_count c.args.desk.now)
    (last_first c.args.desk.now) ≡ true = sym named-told ∙ c.if-not-rows_named.false in
    let a = count-holds in
    let g = added-holds in
    let n = count_word in
    let first = first-told in
    record {
      stands = c.requires.stands;
      n_le_most_named = omega (arith, n, few c.args.desk.now c.requires.some (known _ c.requires.kind_told) a);
      first_bound = omega (arith, first, first_fits c.args.desk.now c.requires.some (known _ c.requires.kind_told) a g);
      first_value = rw (n, first) named-holds;
    }

pub returns-then-not-none_hard : goal.returns-then-not-none_hard
unfolding last_count
returns-then-not-none_hard c =
    let kind-told : number c.args.kind ≡ last_kind c.args.desk.now = c.requires.kind_told in
    let count_word : c.last_word-n.result ≡ last_count c.args.desk.now = c.last_word-n.ensures in
    let count-told : c.count_fits.result ≡ count_fits (last_kind c.args.desk.now)
    (last_count c.args.desk.now) = rw (c.count_fits.ensures, kind-told, count_word) in
    let count-holds : count_fits (last_kind c.args.desk.now)
    (last_count c.args.desk.now) ≡ true = sym count-told ∙ c.if-not-count_fits.false in
    let first-told : c.last_word-first.result ≡ last_first c.args.desk.now = c.last_word-first.ensures ∙ first_word c.args.desk.now in
    let named-told : c.rows_named.result ≡ named_well c.args.desk.now
    (last_count c.args.desk.now)
    (last_first c.args.desk.now) = rw (c.rows_named.ensures, count_word, first-told) in
    let named-holds : named_well c.args.desk.now
    (last_count c.args.desk.now)
    (last_first c.args.desk.now) ≡ true = sym named-told ∙ c.if-not-rows_named.false in
    let first_holds : ltb (last_first c.args.desk.now)
    (loaded c.args.desk.now) ≡ false = le-ltb (last_first c.args.desk.now)
    (loaded c.args.desk.now)
    (omega (arith, first-told, c.word.ensures, c.if-first-word.false)) in
    let added-told : c.rows_added.result ≡ added_well c.args.desk.now
    (last_kind c.args.desk.now)
    (last_count c.args.desk.now)
    (last_first c.args.desk.now) = rw (
      c.rows_added.ensures,
      kind-told,
      count_word,
      first-told,
    ) in
    let added-holds : added_well c.args.desk.now
    (last_kind c.args.desk.now)
    (last_count c.args.desk.now)
    (last_first c.args.desk.now) ≡ true = sym added-told ∙ c.if-not-rows_added.false in
    let repaid : ltb (conceded c.args.desk.now) (last_conceded c.args.desk.now) ≡ false = le-ltb (conceded c.args.desk.now) (last_conceded c.args.desk.now) (omega (arith, c.word-2.ensures, c.conceded_by-back.ensures, c.if-word-back.false)) in
    let soft-told : c.none_hard.result ≡ soft_named c.args.desk.now (last_count c.args.desk.now) = rw (c.none_hard.ensures, count_word) in
    sym (bad-hard _ count-holds named-holds first_holds
    added-holds repaid (sym soft-told ∙ c.if-not-none_hard.true))

pub too_heavy-requires : goal.too_heavy-requires
unfolding weight_on last_count
too_heavy-requires c =
    let count_word : c.last_word-n.result ≡ last_count c.args.desk.now = c.last_word-n.ensures in
    let kind-told : number c.args.kind ≡ last_kind c.args.desk.now = c.requires.kind_told in
    let count-told : c.count_fits.result ≡ count_fits (last_kind c.args.desk.now)
    (last_count c.args.desk.now) = rw (c.count_fits.ensures, kind-told, count_word) in
    let count-holds : count_fits (last_kind c.args.desk.now)
    (last_count c.args.desk.now) ≡ true = sym count-told ∙ c.if-not-count_fits.false in
    let first-told : c.last_word-first.result ≡ last_first c.args.desk.now = c.last_word-first.ensures ∙ first_word c.args.desk.now in
    let added-told : c.rows_added.result ≡ added_well c.args.desk.now
    (last_kind c.args.desk.now)
    (last_count c.args.desk.now)
    (last_first c.args.desk.now) = rw (
      c.rows_added.ensures,
      kind-told,
      count_word,
      first-told,
    ) in
    let added-holds : added_well c.args.desk.now
    (last_kind c.args.desk.now)
    (last_count c.args.desk.now)
    (last_first c.args.desk.now) ≡ true = sym added-told ∙ c.if-not-rows_added.false in
    let f = whole c.args.desk.now c.requires.stands in
    let n = count_word in
    let a = count-holds in
    let g = added-holds in
    record {
      stands = c.requires.stands;
      some = omega (arith, n, some c.args.desk.now c.requires.some (known _ c.requires.kind_told) a);
      few = omega (arith, n, few c.args.desk.now c.requires.some (known _ c.requires.kind_told) a);
      in_use_fits =
          omega (
            arith,
            first-told,
            first_fits c.args.desk.now c.requires.some (known _ c.requires.kind_told) a g,
          );
      start_fits = omega (arith, c.word-3.ensures, f.light);
    }

pub returns : goal.returns
unfolding over_after last_count
returns c =
    let kind-told : number c.args.kind ≡ last_kind c.args.desk.now = c.requires.kind_told in
    let count_word : c.last_word-n.result ≡ last_count c.args.desk.now = c.last_word-n.ensures in
    let count-told : c.count_fits.result ≡ count_fits (last_kind c.args.desk.now)
    (last_count c.args.desk.now) = rw (c.count_fits.ensures, kind-told, count_word) in
    let count-holds : count_fits (last_kind c.args.desk.now)
    (last_count c.args.desk.now) ≡ true = sym count-told ∙ c.if-not-count_fits.false in
    let first-told : c.last_word-first.result ≡ last_first c.args.desk.now = c.last_word-first.ensures ∙ first_word c.args.desk.now in
    let named-told : c.rows_named.result ≡ named_well c.args.desk.now
    (last_count c.args.desk.now)
    (last_first c.args.desk.now) = rw (c.rows_named.ensures, count_word, first-told) in
    let named-holds : named_well c.args.desk.now
    (last_count c.args.desk.now)
    (last_first c.args.desk.now) ≡ true = sym named-told ∙ c.if-not-rows_named.false in
    let first_holds : ltb (last_first c.args.desk.now)
    (loaded c.args.desk.now) ≡ false = le-ltb (last_first c.args.desk.now)
    (loaded c.args.desk.now)
    (omega (arith, first-told, c.word.ensures, c.if-first-word.false)) in
    let added-told : c.rows_added.result ≡ added_well c.args.desk.now
    (last_kind c.args.desk.now)
    (last_count c.args.desk.now)
    (last_first c.args.desk.now) = rw (
      c.rows_added.ensures,
      kind-told,
      count_word,
      first-told,
    ) in
    let added-holds : added_well c.args.desk.now
    (last_kind c.args.desk.now)
    (last_count c.args.desk.now)
    (last_first c.args.desk.now) ≡ true = sym added-told ∙ c.if-not-rows_added.false in
    let repaid : ltb (conceded c.args.desk.now) (last_conceded c.args.desk.now) ≡ false = le-ltb (conceded c.args.desk.now) (last_conceded c.args.desk.now) (omega (arith, c.word-2.ensures, c.conceded_by-back.ensures, c.if-word-back.false)) in
    let soft-told : c.none_hard.result ≡ soft_named c.args.desk.now (last_count c.args.desk.now) = rw (c.none_hard.ensures, count_word) in
    let f = whole c.args.desk.now c.requires.stands in
    let a = count-holds in
    let b = named-holds in
    let e = first_holds in
    let g = added-holds in
    let h = repaid in
    let k = sym soft-told ∙ c.if-not-none_hard.false in
    rw (
      c.too_heavy.ensures,
      c.word-3.ensures,
      c.conceded_by-back.ensures,
      count_word,
      first-told,
    )
    (sym (bad-weight c.args.desk.now a b e g h k ∙ fits_after c.args.desk.now f (first_fits c.args.desk.now c.requires.some (known _ c.requires.kind_told) a g) (named-apart c.args.desk.now b) (named-below c.args.desk.now b)))
