-- `stripe_decoding::decoding::check` meets its contract. Assumes nothing.
use mathlib.Core.Path.{◌≡◌, refl, sym, ap, ◌∙◌}
use mathlib.Core.Bool.{Bool, true, false}
use Rattle.std.proofs.Common.{ℕ, List, ◌+◌, ◌<◌, length, add-one, arith}
use Rattle.layout.specs.declared.Header.{Header}
use Rattle.layout.specs.Header.{width, has_stripe}
use Rattle.layout.specs.Refusals.{done, test, refusal}
use Rattle.layout.proofs.Refusals.{passed_on, some_number}
use Rattle.image.proofs.ImageRefusals.{image_tests, refused, passed}
use Rattle.stripe_decoding.specs.StripeCall.{decode_early}
use Rattle.stripe_decoding.proofs.decoding.check.Goals as goal

module _ (h : Header) (m e : List ℕ) (l : ℕ) (o s : List ℕ) {n : ℕ} (q : n ≡ refusal (image_tests h m e (h.s + 1) (length o) (length s) done)) where
  same : n ≡ refusal (image_tests h m e (width h) (length o) (length s) done)
  same = q ∙ rw add-one

  -- one of tests 1 to 3 refuses
  early : 0 < n → n ≡ decode_early h m e l o s
  early b = same ∙ sym (refused h m e (width h) (length o) (length s) (test (has_stripe h l) 6 done) (λ z. omega (arith, same ∙ z)))

  -- test 6 decides if none of them applies
  last : {b : Bool} → n ≡ 0 → b ≡ has_stripe h l → elim b [ true ↦ 0 | false ↦ 6 ] ≡ decode_early h m e l o s
  unfolding refusal
  last z t =
      rw t (sym (passed h m e (width h) (length o) (length s) (test (has_stripe h l) 6 done) (sym same ∙ z)))

pub returns-in_err-reading-clause-number : goal.returns-in_err-reading-clause-number
returns-in_err-reading-clause-number c =
    let a = c.args in
    passed_on _ c.from_residual.result c.from_residual.ensures.1
    ∙ early a.header a.image.now a.erasures.now a.stripe a.out.now a.scratch.now c.in_err-reading.ensures.number (some_number c.in_err-reading.field-0.0)

pub returns-then-not-has_stripe-clause-number : goal.returns-then-not-has_stripe-clause-number
returns-then-not-has_stripe-clause-number c =
    let a = c.args in
    rw c.if-not-has_stripe.true at
    (last a.header a.image.now a.erasures.now a.stripe a.out.now a.scratch.now c.in_ok-reading.ensures.number refl
    (c.has_stripe.ensures ∙ ap (λ (h : Header). has_stripe h a.stripe) c.in_ok-reading.ensures.same.0))

pub returns-clause-number : goal.returns-clause-number
returns-clause-number c =
    let a = c.args in
    rw c.if-not-has_stripe.false at
    (last a.header a.image.now a.erasures.now a.stripe a.out.now a.scratch.now c.in_ok-reading.ensures.number refl
    (c.has_stripe.ensures ∙ ap (λ (h : Header). has_stripe h a.stripe) c.in_ok-reading.ensures.same.0))
