-- Tests that hold or fail: those of three sizes, and what they make of a call's number and of what it leaves. Assumes nothing.
use mathlib.Core.Path.{◌≡◌, refl, sym, ◌∙◌}
use mathlib.Core.Bool.{Bool, true, false, ◌&&◌, not}
use Prim.Native.Nat.{ℕ, ◌<◌}
use native.Mathlib.Omega.{arith}
use borrow.Author.Tests.{eqb-true, eq-eqb, ne_eqb}
use lib.Dec.{eqb}
use Rattle.field.proofs.Booleans.{if_else, both_true, first_true, second_true}
use Rattle.std.specs.Prelude.{Result, Ok, Err}
use Rattle.std.specs.Result.{IsErrAnd, is_ok}
use Rattle.std.proofs.lemmas.Bool.{false≢true}
use Rattle.std.proofs.lemmas.Result.{err_from_is_err_and}
use Rattle.layout.specs.declared.Header.{Header}
use Rattle.layout.specs.declared.refusal.Refusal.{Refusal}
use Rattle.layout.specs.declared.refusal.Refusal.TheVariants.{HeaderRange, Length, ErasureList, RecordNumber, DataWord, NoStripe}
use Rattle.layout.specs.declared.refusal.Refusal.TheVariants.{TooFew, OutOfField, Inconsistent, NotRecords, Blank, RoundStart, ReadingsDiffer, Struck}
use Rattle.layout.specs.Header.{header_fits}
use Rattle.layout.specs.Refusals.{Tests, done, test, refusal, if_taken, number_of, answer_number}

-- the tests of three sizes
pub equal_three : (a a' b b' c c' : ℕ) → a ≡ a' → b ≡ b' → c ≡ c' → (eqb a a' && (eqb b b' && eqb c c')) ≡ true
equal_three a a' b b' c c' p q r = both_true (eq-eqb a a' p) (both_true (eq-eqb b b' q) (eq-eqb c c' r))

pub three_equal : (a a' b b' c c' : ℕ) → (eqb a a' && (eqb b b' && eqb c c')) ≡ true → (a ≡ a') × (b ≡ b') × (c ≡ c')
three_equal a a' b b' c c' e =
    let t = second_true (eqb a a') (eqb b b' && eqb c c') e in (
      eqb-true a a' (first_true (eqb a a') (eqb b b' && eqb c c') e),
      eqb-true b b' (first_true (eqb b b') (eqb c c') t),
      eqb-true c c' (second_true (eqb b b') (eqb c c') t),
    )

-- A CALL'S NUMBER
pub test_holds : {b : Bool} (n : ℕ) (ts : Tests) → b ≡ true → refusal (test b n ts) ≡ refusal ts
unfolding refusal
test_holds n ts e = rw e

pub test_fails : {b : Bool} (n : ℕ) (ts : Tests) → b ≡ false → n ≡ refusal (test b n ts)
unfolding refusal
test_fails n ts e = rw e

pub none_fails : refusal done ≡ 0
unfolding refusal
none_fails = refl

-- of one test alone, by what it asks, and by the contrary
pub alone : (b : Bool) (n : ℕ) → refusal (test b n done) ≡ if_else b 0 n
unfolding refusal
alone true n = refl
alone false n = refl

pub alone_not : (b : Bool) (n : ℕ) → refusal (test (not b) n done) ≡ if_else b n 0
unfolding refusal
alone_not true n = refl
alone_not false n = refl

pub alone_holds : {b : Bool} (n : ℕ) → b ≡ true → 0 ≡ refusal (test b n done)
alone_holds n e = sym (test_holds n done e ∙ none_fails)

-- a call that is taken passed each test
pub passes : (b : Bool) (n : ℕ) (ts : Tests) → refusal (test b n ts) ≡ 0 → 0 < n → (b ≡ true) × (refusal ts ≡ 0)
unfolding refusal
passes true n ts e l = (refl, e)
passes false n ts e l = absurd (omega arith)

pub if_taken_lem : {A : Type 0} {n : ℕ} (x y : A) → n ≡ 0 → if_taken n x y ≡ x
if_taken_lem {n} x y e = rw (eq-eqb n 0 e, if_taken)

pub if_refused : {A : Type 0} {n : ℕ} (x y : A) → (n ≡ 0 → ⊥) → if_taken n x y ≡ y
if_refused {n} x y d = rw (ne_eqb n 0 d, if_taken)

-- A CALL THAT TESTS ITS HEADER, AND THEN THREE SIZES IN TURN: r is what the test of the header gave, and s, t and u are the sizes that are asked
module _ {r b : Bool} (e : r ≡ b) where
  pub header_holds : r ≡ true → b ≡ true
  header_holds h = sym e ∙ h

  module _ (rest : Tests) (h : r ≡ true) {x x' s : ℕ} (es : s ≡ x') where
    pub first_refused : (others : Bool) → (x ≡ s → ⊥) → 2 ≡ refusal (test b 1 (test (eqb x x' && others) 2 rest))
    unfolding refusal
    first_refused others d = rw (header_holds h, ← es, ne_eqb x s d)

    module _ (ex : x ≡ s) {y y' t : ℕ} (et : t ≡ y') where
      pub second_refused : (others : Bool) → (y ≡ t → ⊥) → 2 ≡ refusal (test b 1 (test (eqb x x' && (eqb y y' && others)) 2 rest))
      unfolding refusal
      second_refused others d = rw (header_holds h, eq-eqb x x' (ex ∙ es), ← et, ne_eqb y t d)

      module _ (ey : y ≡ t) {z z' u : ℕ} (eu : u ≡ z') where
        pub third_refused : (z ≡ u → ⊥) → 2 ≡ refusal (test b 1 (test (eqb x x' && (eqb y y' && eqb z z')) 2 rest))
        unfolding refusal
        third_refused d = rw (header_holds h, eq-eqb x x' (ex ∙ es), eq-eqb y y' (ey ∙ et), ← eu, ne_eqb z u d)

        pub sizes_hold : {n : ℕ} → z ≡ u → refusal rest ≡ n → n ≡ refusal (test b 1 (test (eqb x x' && (eqb y y' && eqb z z')) 2 rest))
        sizes_hold ez en = sym (test_holds 1 _ (header_holds h) ∙ test_holds 2 rest (equal_three x x' y y' z z' (ex ∙ es) (ey ∙ et) (ez ∙ eu)) ∙ en)

-- AN ANSWER THAT IS PASSED ON by `?` keeps its number
pub passed_on : {A : Type 0} (x : Refusal) (r : Result A Refusal) → IsErrAnd r (λ y. y ≡ x) → answer_number r ≡ number_of x
passed_on x r i = let p = err_from_is_err_and r i in rw (p.1, p.2) refl

pub some_number : (x : Refusal) → 0 < number_of x
some_number HeaderRange = omega arith
some_number Length = omega arith
some_number ErasureList = omega arith
some_number RecordNumber = omega arith
some_number DataWord = omega arith
some_number NoStripe = omega arith
some_number TooFew = omega arith
some_number OutOfField = omega arith
some_number Inconsistent = omega arith
some_number NotRecords = omega arith
some_number Blank = omega arith
some_number RoundStart = omega arith
some_number ReadingsDiffer = omega arith
some_number Struck = omega arith

pub not_zero : (x : Refusal) → number_of x ≡ 0 → ⊥
not_zero x z = absurd (omega (arith, some_number x))

pub some_refused : {A : Type 0} (x : Refusal) (r : Result A Refusal) → IsErrAnd r (λ y. y ≡ x) → 0 < answer_number r
some_refused x r i = omega (arith, some_number x, passed_on x r i)

-- by its kind
pub ok_number : {A : Type 0} (r : Result A Refusal) → is_ok r ≡ true → answer_number r ≡ 0
ok_number (Ok x) e = refl
ok_number (Err x) e = absurd (false≢true e)

pub err_number : {A : Type 0} (r : Result A Refusal) → is_ok r ≡ false → answer_number r ≡ 0 → ⊥
err_number (Ok x) e z = absurd (false≢true (sym e))
err_number (Err x) e z = not_zero x z

-- what test 1 refuses has number 1
pub header_passed_on : {A : Type 0} (h : Header) (x : Refusal) (r : Result A Refusal) (rest : Tests) → IsErrAnd r (λ y. y ≡ x)
    → (x ≡ HeaderRange) × (header_fits h ≡ false) → answer_number r ≡ refusal (test (header_fits h) 1 rest)
unfolding refusal
header_passed_on h x r rest i e = passed_on x r i ∙ rw (e.0, e.1) refl

-- the header that it gives passes it
pub header_taken : (h v : Header) → v ≡ h → header_fits v ≡ true → true ≡ header_fits h
header_taken h v s f = rw (← s) (sym f)
