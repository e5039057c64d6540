-- Tests and choices: the cases of a test and of two numbers, the parts of a conjunction, identities of tests, and `cond`, which chooses.
-- Each law goes by the cases of its tests. Where a statement computes by a test, the test is an explicit argument.
use Rattle.std.specs.Prelude.{Option, Some, None, Result, Ok, Err, IsErrAnd, ok_or}
use Rattle.std.proofs.lemmas.Result.{err_from_is_err_and}
use mathlib.Core.Path.{◌≡◌, refl, sym, ap, ◌∙◌}
use mathlib.Core.Logic.{◌⊎◌, inl, inr, ⊎_elim}
use mathlib.Core.Bool.{Bool, true, false, not, cond, ◌&&◌, ◌||◌, beq, true≢false}
use Prim.Native.Nat.{ℕ, ◌<◌, ◌≤◌}
use native.Mathlib.Omega.{arith}
use borrow.Author.Tests.{ltb-true, ltb-false, eqb-true, eqb-false, eq-eqb}
use lib.Dec.{T, eqb, ltb}

pub cases : (b : Bool) → (b ≡ true) ⊎ (b ≡ false)
cases true = inl refl
cases false = inr refl

pub lt-or-le : (a b : ℕ) → (a < b) ⊎ (b ≤ a)
lt-or-le a b = ⊎_elim (λ t. inl (ltb-true a b t)) (λ t. inr (ltb-false a b t)) (cases (ltb a b))

pub eq-or-ne : (a b : ℕ) → (a ≡ b) ⊎ (a ≡ b → ⊥)
eq-or-ne a b = ⊎_elim (λ t. inl (eqb-true a b t)) (λ t. inr (eqb-false a b t)) (cases (eqb a b))

pub not_so : {b : Bool} → (b ≡ true → ⊥) → b ≡ false
not_so {b} h = ⊎_elim (λ t. absurd (h t)) (λ t. t) (cases b)

pub so : {b : Bool} → (b ≡ false → ⊥) → b ≡ true
so {b} h = ⊎_elim (λ t. t) (λ t. absurd (h t)) (cases b)

-- a test is not both
pub clash : {b : Bool} → b ≡ true → b ≡ false → ⊥
clash t f = true≢false (sym t ∙ f)

-- what never is: a clash of constructors, which `cc` brings to this equation
pub impossible : {A : Type 0} → ◌≡◌ {A = ℕ} 0 1 → A
impossible e = absurd (omega arith)

-- two tests with the same outcome
pub same_test : {a b : Bool} → (a ≡ true → b ≡ true) → (b ≡ true → a ≡ true) → a ≡ b
same_test {a} {b} h k = ⊎_elim (λ t. t ∙ sym (h t)) (λ f. f ∙ sym (not_so (λ t. clash (k t) f))) (cases a)

-- neither part of a disjunction that fails holds
pub or-none : (a b : Bool) → (a || b) ≡ false → (a ≡ false) × (b ≡ false)
or-none true b e = absurd (true≢false e)
or-none false b e = (refl, e)

pub and_left : (a b : Bool) → (a && b) ≡ true → a ≡ true
and_left true b e = refl
and_left false b e = e

pub and_right : (a b : Bool) → (a && b) ≡ true → b ≡ true
and_right true b e = e
and_right false b e = absurd (true≢false (sym e))

pub both : {a b : Bool} → a ≡ true → b ≡ true → (a && b) ≡ true
both p q = rw (p, q)

-- two conjunctions joined pairwise
pub and-swap : (a b c d : Bool) → (a && b && (c && d)) ≡ (a && c && (b && d))
and-swap true true c d = refl
and-swap true false true d = refl
and-swap true false false d = refl
and-swap false b c d = refl

-- neither of two that fail together holds
pub or_left : (a b : Bool) → (a || b) ≡ false → a ≡ false
or_left true b e = e
or_left false b e = refl

pub or_right : (a b : Bool) → (a || b) ≡ false → b ≡ false
or_right true b e = absurd (clash refl e)
or_right false b e = e

pub or_cases : (a b : Bool) → (a || b) ≡ true → (a ≡ true) ⊎ (b ≡ true)
or_cases true b e = inl refl
or_cases false b e = inr e

pub eqb-sym : (a b : ℕ) → eqb a b ≡ eqb b a
eqb-sym a b = same_test (λ t. eq-eqb b a (sym (eqb-true a b t))) (λ t. eq-eqb a b (sym (eqb-true b a t)))

-- ---- two expressions in tests are equal when they agree at every outcome, which computing decides: `tt` is the proof

abbrev pub agree1 : (Bool → Bool) → (Bool → Bool) → Bool
agree1 f g = beq (f true) (g true) && beq (f false) (g false)

abbrev pub agree2 : (Bool → Bool → Bool) → (Bool → Bool → Bool) → Bool
agree2 f g = agree1 (f true) (g true) && agree1 (f false) (g false)

abbrev pub agree3 : (Bool → Bool → Bool → Bool) → (Bool → Bool → Bool → Bool) → Bool
agree3 f g = agree2 (f true) (g true) && agree2 (f false) (g false)

T-left : (a b : Bool) → T (a && b) → T a
T-left true b t = tt
T-left false b t = t

T-right : (a b : Bool) → T (a && b) → T b
T-right true b t = t
T-right false b t = absurd t

same0 : (a b : Bool) → T (beq a b) → a ≡ b
same0 true true t = refl
same0 true false t = absurd t
same0 false true t = absurd t
same0 false false t = refl

pub same1 : (f g : Bool → Bool) → T (agree1 f g) → (x : Bool) → f x ≡ g x
same1 f g t true = same0 (f true) (g true) (T-left (beq (f true) (g true)) (beq (f false) (g false)) t)
same1 f g t false = same0 (f false) (g false) (T-right (beq (f true) (g true)) (beq (f false) (g false)) t)

pub same2 : (f g : Bool → Bool → Bool) → T (agree2 f g) → (x y : Bool) → f x y ≡ g x y
same2 f g t true = same1 (f true) (g true) (T-left (agree1 (f true) (g true)) (agree1 (f false) (g false)) t)
same2 f g t false = same1 (f false) (g false) (T-right (agree1 (f true) (g true)) (agree1 (f false) (g false)) t)

pub same3 : (f g : Bool → Bool → Bool → Bool) → T (agree3 f g) → (x y z : Bool) → f x y z ≡ g x y z
same3 f g t true = same2 (f true) (g true) (T-left (agree2 (f true) (g true)) (agree2 (f false) (g false)) t)
same3 f g t false = same2 (f false) (g false) (T-right (agree2 (f true) (g true)) (agree2 (f false) (g false)) t)

-- any statement of two tests, by its four cases
pub two-tests : (P : Bool → Bool → Type 0) → P true true → P true false → P false true → P false false → (x y : Bool) → P x y
two-tests P a b c d true true = a
two-tests P a b c d true false = b
two-tests P a b c d false true = c
two-tests P a b c d false false = d

-- ---- choices

module _ {A : Type 0} where
  pub cond-true : (b : Bool) (x y : A) → b ≡ true → cond b x y ≡ x
  cond-true b x y e = rw e

  pub cond-false : (b : Bool) (x y : A) → b ≡ false → cond b x y ≡ y
  cond-false b x y e = rw e

  pub cond_same : (b : Bool) (x : A) → cond b x x ≡ x
  cond_same true x = refl
  cond_same false x = refl

  -- what holds of each choice where it is made holds of the chosen
  pub cond-elim : (P : A → Type 0) (b : Bool) (x y : A) → (b ≡ true → P x) → (b ≡ false → P y) → P (cond b x y)
  cond-elim P true x y h k = h refl
  cond-elim P false x y h k = k refl

  pub cond-not : (b : Bool) (x y : A) → cond (not b) x y ≡ cond b y x
  cond-not true x y = refl
  cond-not false x y = refl

-- what is done to both is done to the chosen
pub cond-ap : {A B : Type 0} (f : A → B) (b : Bool) (x y : A) → f (cond b x y) ≡ cond b (f x) (f y)
cond-ap f true x y = refl
cond-ap f false x y = refl

-- ---- what stands in an option or a result: two that are equal hold equals, and two pairs have equal parts

abbrev some_or : {A : Type 0} → A → Option A → A
some_or a None = a
some_or a (Some b) = b

pub some-same : {A : Type 0} {a b : A} → Some a ≡ Some b → a ≡ b
some-same {A} {a} e = ap (some_or a) e

pub some-pair : {A B : Type 0} {a c : A} {b d : B} → ◌≡◌ {A = Option (A × B)} (Some (a, b)) (Some (c, d)) → (a ≡ c) × (b ≡ d)
some-pair {A} {B} {a} {c} {b} {d} e =
    let p : ◌≡◌ {A = A × B} (a, b) (c, d) = some-same e in (ap (λ (x : A × B). x.0) p, ap (λ (x : A × B). x.1) p)

abbrev ok_part : {A E : Type 0} → A → Result A E → A
ok_part a (Ok b) = b
ok_part a (Err r) = a

pub ok-same : {A E : Type 0} {a b : A} → ◌≡◌ {A = Result A E} (Ok a) (Ok b) → a ≡ b
ok-same {A} {E} {a} e = ap (ok_part a) e

pub ok-pair : {A B E : Type 0} {a c : A} {b d : B} → ◌≡◌ {A = Result (A × B) E} (Ok (a, b)) (Ok (c, d)) → (a ≡ c) × (b ≡ d)
ok-pair {A} {B} {E} {a} {c} {b} {d} e =
    let p : ◌≡◌ {A = A × B} (a, b) (c, d) = ok-same e in (ap (λ (x : A × B). x.0) p, ap (λ (x : A × B). x.1) p)

-- ---- what a `?` hands on is the refusal that came

pub handed-on : {T E : Type 0} (r : Result T E) (e : E) → IsErrAnd r (λ x. x ≡ e) → r ≡ Err e
handed-on r e is = let p = err_from_is_err_and r is in p.1 ∙ ap Err p.2

-- what an `ok_or` comes to says what it was asked of

pub some-of-ok : {T E : Type 0} (o : Option T) (e : E) (r : Result T E) (x : T) → r ≡ ok_or o e → r ≡ Ok x → o ≡ Some x
some-of-ok {T} {E} (Some y) e r x is was = ap Some (ok-same {E = E} (sym is ∙ was))
some-of-ok {T} {E} None e r x is was = let f : ◌≡◌ {A = Result T E} (Err e) (Ok x) = sym is ∙ was in impossible (cc)

pub none-of-err : {T E : Type 0} (o : Option T) (e : E) (r : Result T E) (d : E) → r ≡ ok_or o e → r ≡ Err d → (o ≡ None) × (d ≡ e)
none-of-err {T} {E} (Some y) e r d is was = let f : ◌≡◌ {A = Result T E} (Ok y) (Err d) = sym is ∙ was in impossible (cc)
none-of-err {T} {E} None e r d is was = let f : ◌≡◌ {A = Result T E} (Err e) (Err d) = sym is ∙ was in (refl, (cc))
