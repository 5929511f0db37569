-- Tests 1 and 2 of the calls on a vault's buffers: what holds if neither applies, and the number where other tests follow. Assumes nothing.
use mathlib.Core.Path.{◌≡◌, refl, ◌∙◌}
use mathlib.Core.Bool.{Bool, true, false}
use native.Mathlib.Omega.{arith}
use lib.ListN.{length}
use Rattle.layout.specs.declared.Header.{Header}
use Rattle.layout.specs.Header.{header_fits, raw_size, full_size, log_size}
use Rattle.layout.specs.Refusals.{Tests, done, test, refusal, number_of}
use Rattle.layout.specs.declared.refusal.Refusal.{Refusal}
use Rattle.layout.proofs.Refusals.{three_equal, test_holds, passes, some_number}
use Rattle.store.specs.Buffers.{Buffers}
use Rattle.store.specs.StoreCalls.{buffers_fit, buffers_number}

module _ (h : Header) (u : Buffers) where
  pub record Held : Type 0 where
    pub fitting : header_fits h ≡ true
    pub sized : buffers_fit h u ≡ true

  pub held : buffers_number h u ≡ 0 → Held
  held z =
      let a = passes (header_fits h) 1 (test (buffers_fit h u) 2 done) z (omega arith) in
      record { fitting = a.0; sized = (passes (buffers_fit h u) 2 done a.1 (omega arith)).0 }

  pub lengths : buffers_fit h u ≡ true → (length u.raw ≡ raw_size h) × (length u.full ≡ full_size h) × (length u.log ≡ log_size h)
  lengths e = three_equal (length u.raw) (raw_size h) (length u.full) (full_size h) (length u.log) (log_size h) e

  -- where test 2 asks this and more, as b says
  module _ {b : Bool} (rest : Tests) where
    pub held_refused : (buffers_fit h u ≡ false → b ≡ false) → (buffers_number h u ≡ 0 → ⊥)
        → buffers_number h u ≡ refusal (test (header_fits h) 1 (test b 2 rest))
    unfolding refusal
    held_refused more d = by (header_fits h) (buffers_fit h u) b more d
      where
        by : (a f b : Bool) → (f ≡ false → b ≡ false) → (refusal (test a 1 (test f 2 done)) ≡ 0 → ⊥)
            → refusal (test a 1 (test f 2 done)) ≡ refusal (test a 1 (test b 2 rest))
        by false f b more d = refl
        by true true b more d = absurd (d refl)
        by true false b more d = rw (more refl)

    -- a refusal that the tests of the buffers gave
    pub passed_refused : (buffers_fit h u ≡ false → b ≡ false) → (x : Refusal) → number_of x ≡ buffers_number h u
        → number_of x ≡ refusal (test (header_fits h) 1 (test b 2 rest))
    passed_refused more x e = e ∙ held_refused more (λ z. omega (arith, some_number x, e, z))

    pub held_passed : Held → b ≡ true → refusal (test (header_fits h) 1 (test b 2 rest)) ≡ refusal rest
    held_passed H e = test_holds 1 (test b 2 rest) H.fitting ∙ test_holds 2 rest e
