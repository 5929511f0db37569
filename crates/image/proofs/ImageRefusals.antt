-- Tests 1, 2 and 3 of a call that is lent an image: what holds if none applies, and the number where other tests follow. Assumes nothing.
use mathlib.Core.Path.{◌≡◌, refl, ◌∙◌}
use mathlib.Core.Bool.{Bool, true, false, ◌&&◌}
use mathlib.Core.List.{List}
use Prim.Native.Nat.{ℕ, ◌*◌}
use native.Mathlib.Omega.{arith}
use borrow.Author.Tests.{eqb-true}
use lib.Dec.{eqb}
use lib.ListN.{length}
use Rattle.layout.specs.declared.Header.{Header}
use Rattle.layout.specs.Header.{header_fits, record_count, image_size, scratch_size}
use Rattle.layout.specs.Refusals.{Tests, done, test, refusal}
use Rattle.layout.proofs.Refusals.{test_holds, passes}
use Rattle.field.proofs.Booleans.{first_true, second_true}
use Rattle.image.specs.Erasures.{erasures_fit}
use Rattle.image.specs.ImageTests.{image_tests as image_tests_of}

-- WHAT HOLDS if none of the three applies
module _ (h : Header) (m e : List ℕ) (sizes : Bool) where
  pub record Whole : Type 0 where
    pub fits : header_fits h ≡ true
    pub image : length m ≡ image_size h
    pub others : sizes ≡ true
    pub erasures : erasures_fit h e ≡ true

  pub whole : refusal (image_tests_of h m e sizes done) ≡ 0 → Whole
  whole z =
      let long = eqb (length m) (image_size h) in
      let a = passes (header_fits h) 1 (test (long && sizes) 2 (test (erasures_fit h e) 3 done)) z (omega arith) in
      let b = passes (long && sizes) 2 (test (erasures_fit h e) 3 done) a.1 (omega arith) in
      let c = passes (erasures_fit h e) 3 done b.1 (omega arith) in
      record { fits = a.0; image = eqb-true (length m) (image_size h) (first_true long sizes b.0); others = second_true long sizes b.0; erasures = c.0 }

module _ (h : Header) (m e : List ℕ) (row out scratch : ℕ) where
  abbrev sizes_fit : Bool
  sizes_fit = eqb out (record_count h * row) && eqb scratch (scratch_size h)

  -- the three tests of a call with an output and a scratch, and others after them
  abbrev pub image_tests : Tests → Tests
  image_tests rest = image_tests_of h m e sizes_fit rest

  pub record Lent : Type 0 where
    pub fits : header_fits h ≡ true
    pub image : length m ≡ image_size h
    pub output : out ≡ record_count h * row
    pub room : scratch ≡ scratch_size h
    pub erasures : erasures_fit h e ≡ true

  pub lent : refusal (image_tests done) ≡ 0 → Lent
  lent z =
      let w = whole h m e sizes_fit z in
      let o = eqb out (record_count h * row) in
      let s = eqb scratch (scratch_size h) in
      record {
        fits = w.fits;
        image = w.image;
        output = eqb-true out (record_count h * row) (first_true o s w.others);
        room = eqb-true scratch (scratch_size h) (second_true o s w.others);
        erasures = w.erasures;
      }

  -- the tests that follow
  later : (a b c : Bool) (rest : Tests) → (refusal (test a 1 (test b 2 (test c 3 done))) ≡ 0 → ⊥)
      → refusal (test a 1 (test b 2 (test c 3 rest))) ≡ refusal (test a 1 (test b 2 (test c 3 done)))
  unfolding refusal
  later true true true rest d = absurd (d refl)
  later true true false rest d = refl
  later true false c rest d = refl
  later false b c rest d = refl

  pub refused : (rest : Tests) → (refusal (image_tests done) ≡ 0 → ⊥) → refusal (image_tests rest) ≡ refusal (image_tests done)
  refused rest d = later (header_fits h) (eqb (length m) (image_size h) && sizes_fit) (erasures_fit h e) rest d

  pub passed : (rest : Tests) → refusal (image_tests done) ≡ 0 → refusal (image_tests rest) ≡ refusal rest
  passed rest z =
      let all = eqb (length m) (image_size h) && sizes_fit in
      let a = passes (header_fits h) 1 (test all 2 (test (erasures_fit h e) 3 done)) z (omega arith) in
      let b = passes all 2 (test (erasures_fit h e) 3 done) a.1 (omega arith) in
      let c = passes (erasures_fit h e) 3 done b.1 (omega arith) in
      test_holds 1 (test all 2 (test (erasures_fit h e) 3 rest)) a.0 ∙ test_holds 2 (test (erasures_fit h e) 3 rest) b.0 ∙ test_holds 3 rest c.0

  earlier : (a b c : Bool) (rest : Tests) → refusal (test a 1 (test b 2 (test c 3 rest))) ≡ 0 → refusal (test a 1 (test b 2 (test c 3 done))) ≡ 0
  unfolding refusal
  earlier true true true rest z = refl
  earlier true true false rest z = z
  earlier true false c rest z = z
  earlier false b c rest z = z

  pub none_before : (rest : Tests) → refusal (image_tests rest) ≡ 0 → refusal (image_tests done) ≡ 0
  none_before rest z = earlier (header_fits h) (eqb (length m) (image_size h) && sizes_fit) (erasures_fit h e) rest z
