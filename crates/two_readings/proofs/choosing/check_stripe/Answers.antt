-- `two_readings::choosing::check_stripe` meets its contract: each test that holds or fails, in turn. Assumes nothing.
use Rattle.std.proofs.Common.{sym, ◌∙◌, true}
use Rattle.layout.specs.Header.{has_stripe}
use Rattle.layout.specs.Refusals.{done, test}
use Rattle.layout.proofs.Refusals.{test_fails, alone_holds, header_passed_on, passed_on, not_zero}
use Rattle.two_readings.proofs.TwoRefusals.{earlier, later}
use Rattle.two_readings.proofs.choosing.check_stripe.Goals as goal

pub returns-in_err-valid-clause-number : goal.returns-in_err-valid-clause-number
returns-in_err-valid-clause-number c = header_passed_on c.args.header _ c.from_residual.result _ c.from_residual.ensures.1 c.in_err-valid.ensures

pub returns-in_err-readings-clause-number : goal.returns-in_err-readings-clause-number
returns-in_err-readings-clause-number c =
    let a = c.args in
    let x = c.in_err-readings.field-0.0 in
    passed_on x c.from_residual-in_err-readings.result c.from_residual-in_err-readings.ensures.1
    ∙ earlier a.header a.image1.now a.erasures1.now a.image2.now a.erasures2.now true (test (has_stripe a.header a.stripe) 6 done)
    (rw c.in_ok-valid.ensures at c.in_err-readings.ensures.number) (not_zero x)

pub returns-then-not-has_stripe-clause-number : goal.returns-then-not-has_stripe-clause-number
returns-then-not-has_stripe-clause-number c =
    let a = c.args in
    let e = rw c.in_ok-valid.ensures at (sym c.has_stripe.ensures ∙ c.if-not-has_stripe.true) in
    later a.header a.image1.now a.erasures1.now a.image2.now a.erasures2.now true (test (has_stripe a.header a.stripe) 6 done)
    (rw c.in_ok-valid.ensures at c.in_ok-readings.ensures.number) (test_fails 6 _ e)

pub returns-clause-number : goal.returns-clause-number
returns-clause-number c =
    let a = c.args in
    let e = rw c.in_ok-valid.ensures at (sym c.has_stripe.ensures ∙ c.if-not-has_stripe.false) in
    later a.header a.image1.now a.erasures1.now a.image2.now a.erasures2.now true (test (has_stripe a.header a.stripe) 6 done)
    (rw c.in_ok-valid.ensures at c.in_ok-readings.ensures.number) (alone_holds 6 e)
