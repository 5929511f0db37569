-- `taking_back::taking::check` meets its contract: each test that holds or fails, in turn. Assumes nothing.
use mathlib.Core.Path.{◌≡◌, refl, sym, ap, ◌∙◌}
use mathlib.Core.List.{List}
use Prim.Native.Nat.{ℕ, ◌*◌}
use native.Mathlib.Omega.{arith}
use borrow.Author.Tests.{lt-ltb, le-ltb, eq-eqb, ne_eqb}
use lib.Dec.{ltb, eqb}
use lib.ListN.{length}
use Rattle.field.proofs.Booleans.{both_true, first_false}
use Rattle.layout.specs.declared.Header.{Header}
use Rattle.layout.specs.declared.refusal.Refusal.{Refusal}
use Rattle.layout.specs.Header.{scratch_size}
use Rattle.layout.specs.Refusals.{Tests, done, test, refusal, number_of}
use Rattle.layout.proofs.Refusals.{passed_on}
use Rattle.store.specs.Buffers.{Buffers, buffers}
use Rattle.store.specs.StoreCalls.{buffers_number}
use Rattle.store.proofs.BufferRefusals.{Held, held, passed_refused, held_passed}
use Rattle.taking_back.specs.TakeBackCall.{take_back_early}
use Rattle.taking_back.proofs.taking.check.Goals as goal

module _ (h : Header) (r f g s : List ℕ) where
  abbrev lent : Buffers
  lent = buffers r f g

  -- the test that follows those of the buffers
  abbrev rest : Tests
  rest = test (ltb 0 h.c) 12 done

  refused : (x : Refusal) → number_of x ≡ buffers_number h lent → number_of x ≡ take_back_early h lent s
  refused x e = passed_refused h lent rest (λ z. first_false (eqb (length s) (2 * scratch_size h)) z) x e

  module _ (z : 0 ≡ buffers_number h lent) {v : Header} (same : v ≡ h) {n : ℕ} (en : n ≡ scratch_size v) where
    holds : Held h lent
    holds = held h lent (sym z)

    size : 2 * n ≡ 2 * scratch_size h
    size = ap (λ (x : ℕ). 2 * x) (en ∙ ap scratch_size same)

    unequal : (length s ≡ 2 * n → ⊥) → 2 ≡ take_back_early h lent s
    unfolding refusal
    unequal d = rw (holds.fitting, holds.sized, ← size, ne_eqb (length s) (2 * n) d)

    module _ (l : length s ≡ 2 * n) where
      passed : take_back_early h lent s ≡ refusal rest
      passed = held_passed h lent rest holds (both_true holds.sized (eq-eqb (length s) (2 * scratch_size h) (l ∙ size)))

      at_start : h.c ≡ 0 → 12 ≡ take_back_early h lent s
      unfolding refusal
      at_start e = sym (passed ∙ rw (le-ltb 0 h.c (omega arith)) refl)

      later : (h.c ≡ 0 → ⊥) → 0 ≡ take_back_early h lent s
      unfolding refusal
      later d = sym (passed ∙ rw (lt-ltb 0 h.c (omega arith)) refl)

pub returns-in_err-valid-clause-number : goal.returns-in_err-valid-clause-number
returns-in_err-valid-clause-number c =
    let a = c.args in
    passed_on _ c.from_residual.result c.from_residual.ensures.1
    ∙ refused a.header a.raw.now a.full.now a.log.now a.scratch.now _ c.in_err-valid.ensures.number

pub returns-then-scratch-scratch_size-clause-number : goal.returns-then-scratch-scratch_size-clause-number
returns-then-scratch-scratch_size-clause-number c =
    let a = c.args in
    let v = c.in_ok-valid.ensures in
    unequal a.header a.raw.now a.full.now a.log.now a.scratch.now v.number v.same c.scratch_size.ensures c.if-scratch-scratch_size.true

pub returns-then-header-eq0-clause-number : goal.returns-then-header-eq0-clause-number
returns-then-header-eq0-clause-number c =
    let a = c.args in
    let v = c.in_ok-valid.ensures in
    at_start a.header a.raw.now a.full.now a.log.now a.scratch.now v.number v.same c.scratch_size.ensures c.if-scratch-scratch_size.false c.if-header-eq0.true

pub returns-clause-number : goal.returns-clause-number
returns-clause-number c =
    let a = c.args in
    let v = c.in_ok-valid.ensures in
    later a.header a.raw.now a.full.now a.log.now a.scratch.now v.number v.same c.scratch_size.ensures c.if-scratch-scratch_size.false c.if-header-eq0.false
