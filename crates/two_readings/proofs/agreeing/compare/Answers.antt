-- `two_readings::agreeing::compare` meets its contract, by the loop of proofs/Comparing. Assumes nothing.
use Rattle.std.proofs.Common.{refl, sym, ◌∙◌, arith}
use Rattle.layout.proofs.Bounds.{fits}
use Rattle.layout.proofs.Refusals.{passed_on, not_zero}
use Rattle.two_readings.proofs.Comparing.{compared_start, compared_next, compared_skip, compared_fails, compared_agree, compared_choice}
use Rattle.two_readings.proofs.agreeing.compare.Goals.{then-has_stripe+in_ok-takes_second, else-has_stripe}
use Rattle.two_readings.proofs.agreeing.compare.Goals as goal

pub loop-level-init : goal.loop-level-init
loop-level-init c = compared_start _ _ _ _ _ refl

pub returns-in_err-takes_second-clause-number : goal.returns-in_err-takes_second-clause-number
returns-in_err-takes_second-clause-number c =
    let x = c.in_err-takes_second.field-0.0 in
    passed_on x c.from_residual.result c.from_residual.ensures.1
    ∙ compared_fails _ _ _ _ _ _ (omega (arith, c.loop-level-test.true)) (sym c.has_stripe.ensures ∙ c.if-has_stripe.true) c.in_err-takes_second.ensures.number
    (not_zero x)

pub loop-level-preserved : goal.loop-level-preserved
loop-level-preserved c =
    let s = c.has_stripe.ensures in
    let b = (fits c.args.first.header.header c.args.first.header.fits).k_high in
    elim c.if-has_stripe.branch [
      | then-has_stripe+in_ok-takes_second w ↦ rw w.takes_second-is
          (compared_next _ _ _ _ _ c.loop-level.invariant (omega (arith, b, c.loop-level-test.true)) (sym s ∙ w.if-has_stripe.true)
          w.in_ok-takes_second.ensures.number w.in_ok-takes_second.ensures.more)
      | else-has_stripe w ↦ rw w.takes_second-is (compared_skip _ _ _ _ _ c.loop-level.invariant (sym s ∙ w.if-has_stripe.false))
    ]

pub invariant_of-result : goal.invariant_of-result
invariant_of-result c =
    record { one_header = c.requires; choice = compared_choice _ _ _ _ _ c.loop-level.invariant (omega (arith, c.loop-level-test.false)) }

pub returns-clause-number : goal.returns-clause-number
returns-clause-number c = compared_agree _ _ _ _ _ c.loop-level.invariant (omega (arith, c.loop-level-test.false))
