-- Tests 1, 2, 3 and 13 of a call that is lent two readings: what holds if none applies, and the number where one does. Assumes nothing.
use mathlib.Core.Path.{◌≡◌, refl, sym, ◌∙◌}
use mathlib.Core.Bool.{Bool, true, false, ◌&&◌}
use mathlib.Core.List.{List}
use Prim.Native.Nat.{ℕ}
use native.Mathlib.Omega.{arith}
use borrow.Author.Tests.{eqb-true, eq-eqb}
use lib.Dec.{eqb}
use lib.ListN.{length}
use Rattle.layout.specs.declared.Header.{Header}
use Rattle.layout.specs.Header.{header_fits, raw_size, scratch_size, image_size}
use Rattle.layout.specs.Refusals.{Tests, done, test, refusal}
use Rattle.layout.proofs.Refusals.{test_holds, test_fails, none_fails, alone_holds, passes}
use Rattle.field.proofs.Booleans.{is_false, both_true, first_true, second_true, first_false, second_false}
use Rattle.image.specs.Erasures.{erasures_fit}
use Rattle.two_readings.specs.Agreeing.{readings_agree}
use Rattle.two_readings.specs.RecoverTwoCall.{recover_two_early}
use Rattle.two_readings.specs.TwoTests.{two_tests}

-- ONE TEST that failed alone
pub alone_failed : {b : Bool} {n x : ℕ} → x ≡ refusal (test b n done) → (x ≡ 0 → ⊥) → (b ≡ false) × (x ≡ n)
alone_failed {b} {n} e d =
    let f = is_false b (λ t. d (e ∙ sym (alone_holds n t))) in
    (f, e ∙ sym (test_fails n done f))

-- TEST 3 OF TWO LISTS: of the first, of the second, and of none
module _ (a b : Bool) (rest : Tests) {n : ℕ} where
  pub first_list : n ≡ refusal (test a 3 done) → (n ≡ 0 → ⊥) → n ≡ refusal (test (a && b) 3 rest)
  first_list e d = let t = alone_failed {b = a} e d in t.1 ∙ test_fails 3 rest (first_false b t.0)

  pub second_list : n ≡ refusal (test b 3 done) → (n ≡ 0 → ⊥) → n ≡ refusal (test (a && b) 3 rest)
  second_list e d = let t = alone_failed {b = b} e d in t.1 ∙ test_fails 3 rest (second_false a t.0)

  pub both_lists : 0 ≡ refusal (test a 3 done) → 0 ≡ refusal (test b 3 done) → n ≡ refusal rest → n ≡ refusal (test (a && b) 3 rest)
  both_lists y z e = e ∙ sym (test_holds 3 rest (both_true (passes a 3 done (sym y) (omega arith)).0 (passes b 3 done (sym z) (omega arith)).0))

-- TESTS of which one applies give its number, whatever follows them
one_applies : (b : Bool) (n : ℕ) (ts ts' : Tests) → ((refusal ts ≡ 0 → ⊥) → refusal ts ≡ refusal ts')
    → (refusal (test b n ts) ≡ 0 → ⊥) → refusal (test b n ts) ≡ refusal (test b n ts')
unfolding refusal
one_applies true n ts ts' same d = same d
one_applies false n ts ts' same d = refl

module _ (h : Header) (m e m' e' : List ℕ) (sizes : Bool) where
  pub record Passed : Type 0 where
    pub fits : header_fits h ≡ true
    pub first_long : length m ≡ image_size h
    pub second_long : length m' ≡ image_size h
    pub others : sizes ≡ true

  -- the tests after those of lengths
  abbrev lists_agree : Tests → Tests
  lists_agree rest = test (erasures_fit h e && erasures_fit h e') 3 (test (readings_agree h m e m' e') 13 rest)

  module _ (rest : Tests) where
    -- 2, of the other buffers
    pub others_refused : header_fits h ≡ true → sizes ≡ false → 2 ≡ refusal (two_tests h m e m' e' sizes rest)
    unfolding refusal
    others_refused f s = rw (f, second_false (eqb (length m) (image_size h)) (second_false (eqb (length m') (image_size h)) s))

    -- 1 and 2 do not apply
    pub sized : {n : ℕ} → Passed → n ≡ refusal (lists_agree rest) → n ≡ refusal (two_tests h m e m' e' sizes rest)
    sized p q =
        q ∙ sym (test_holds 1 _ p.fits
        ∙ test_holds 2 _ (both_true (eq-eqb (length m) (image_size h) p.first_long) (both_true (eq-eqb (length m') (image_size h) p.second_long) p.others)))

    pub earlier : {n : ℕ} → n ≡ refusal (two_tests h m e m' e' sizes done) → (n ≡ 0 → ⊥) → n ≡ refusal (two_tests h m e m' e' sizes rest)
    earlier q d =
        q
        ∙ one_applies _ 1 _ _ (one_applies _ 2 _ _ (one_applies _ 3 _ _ (one_applies (readings_agree h m e m' e') 13 done rest (λ x. absurd (x none_fails)))))
        (λ z. d (q ∙ z))

    -- none of the four applies
    both_sized : refusal (two_tests h m e m' e' sizes rest) ≡ 0 → Passed × (refusal (lists_agree rest) ≡ 0)
    both_sized z =
        let first = eqb (length m) (image_size h) in
        let second = eqb (length m') (image_size h) in
        let a = passes (header_fits h) 1 (test (first && (second && sizes)) 2 (lists_agree rest)) z (omega arith) in
        let b = passes (first && (second && sizes)) 2 (lists_agree rest) a.1 (omega arith) in
        let t = second_true first (second && sizes) b.0 in (
          record {
            fits = a.0;
            first_long = eqb-true (length m) (image_size h) (first_true first (second && sizes) b.0);
            second_long = eqb-true (length m') (image_size h) (first_true second sizes t);
            others = second_true second sizes t;
          },
          b.1,
        )

    listed : refusal (lists_agree rest) ≡ 0 → (erasures_fit h e && erasures_fit h e' ≡ true) × (readings_agree h m e m' e' ≡ true) × (refusal rest ≡ 0)
    listed z =
        let c = passes (erasures_fit h e && erasures_fit h e') 3 (test (readings_agree h m e m' e') 13 rest) z (omega arith) in
        let d = passes (readings_agree h m e m' e') 13 rest c.1 (omega arith) in
        (c.0, d.0, d.1)

    pub passed : refusal (two_tests h m e m' e' sizes rest) ≡ 0 → Passed × (refusal rest ≡ 0)
    passed z = let p = both_sized z in (p.0, (listed p.1).2)

  pub later : (rest : Tests) {n : ℕ} → 0 ≡ refusal (two_tests h m e m' e' sizes done) → n ≡ refusal rest → n ≡ refusal (two_tests h m e m' e' sizes rest)
  later rest z q =
      let p = both_sized done (sym z) in
      let t = listed done p.1 in
      sized rest p.0 (q ∙ sym (test_holds 3 _ t.0 ∙ test_holds 13 rest t.1))

-- so recovery is lent buffers of its sizes
pub buffers_long : (h : Header) (m e m' e' out scratch : List ℕ) → recover_two_early h m e m' e' out scratch ≡ 0
    → (length out ≡ raw_size h) × (length scratch ≡ scratch_size h)
buffers_long h m e m' e' out scratch z =
    let words = eqb (length out) (raw_size h) in
    let room = eqb (length scratch) (scratch_size h) in
    let both = (passed h m e m' e' (words && room) done z).0.others in
    (eqb-true (length out) (raw_size h) (first_true words room both), eqb-true (length scratch) (scratch_size h) (second_true words room both))
