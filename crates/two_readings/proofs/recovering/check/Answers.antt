-- `two_readings::recovering::check` meets its contract: each test that holds or fails, in turn. Assumes nothing.
use Rattle.std.proofs.Common.{◌≡◌, sym, ap, ◌∙◌, ◌&&◌, false, length, eqb}
use borrow.Author.Tests.{ne_eqb}
use Rattle.field.proofs.Booleans.{first_false, second_false}
use Rattle.layout.specs.Header.{raw_size, scratch_size}
use Rattle.layout.specs.Refusals.{done}
use Rattle.layout.proofs.Refusals.{header_passed_on, header_taken}
use Rattle.two_readings.proofs.TwoRefusals.{others_refused}
use Rattle.two_readings.proofs.recovering.check.Goals.{then-out-raw_size-via-then-out-raw_size}
use Rattle.two_readings.proofs.recovering.check.Goals.{then-out-raw_size-via-else-out-raw_size+then-scratch-scratch_size}
use Rattle.two_readings.proofs.recovering.check.Goals as goal

pub returns-in_err-valid-clause-number : goal.returns-in_err-valid-clause-number
returns-in_err-valid-clause-number c = header_passed_on c.args.header _ c.from_residual.result _ c.from_residual.ensures.1 c.in_err-valid.ensures

pub returns-then-out-raw_size-clause-number : goal.returns-then-out-raw_size-clause-number
returns-then-out-raw_size-clause-number c =
    let a = c.args in
    let h = a.header in
    let same = c.in_ok-valid.ensures in
    let o = c.raw_size.ensures ∙ ap raw_size same in
    let wrong : (eqb (length a.out.now) (raw_size h) && eqb (length a.scratch.now) (scratch_size h)) ≡ false = elim c.then-out-raw_size.branch [
      | then-out-raw_size-via-then-out-raw_size w ↦
          first_false (eqb (length a.scratch.now) (scratch_size h)) (ne_eqb _ _ (λ e. w.if-out-raw_size.true (e ∙ sym o)))
      | then-out-raw_size-via-else-out-raw_size+then-scratch-scratch_size w ↦
          second_false (eqb (length a.out.now) (raw_size h))
          (ne_eqb _ _ (λ e. w.if-scratch-scratch_size.true (e ∙ sym (w.scratch_size.ensures ∙ ap scratch_size same))))
    ] in
    others_refused h a.image1.now a.erasures1.now a.image2.now a.erasures2.now _ done (sym (header_taken h _ same c.in_ok-valid.valid.fits)) wrong
