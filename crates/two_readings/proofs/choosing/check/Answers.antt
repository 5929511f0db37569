-- `two_readings::choosing::check` meets its contract: each test that holds or fails, in turn. Assumes nothing.
use Rattle.std.proofs.Common.{refl, ◌∙◌, true}
use Rattle.layout.proofs.Refusals.{header_taken, first_refused, second_refused, passed_on, not_zero}
use Rattle.two_readings.proofs.TwoRefusals.{Passed, sized, first_list, second_list, both_lists}
use Rattle.two_readings.proofs.choosing.check.Goals.{Else-image2-size}
use Rattle.two_readings.proofs.choosing.check.Goals.{then-image1-size-via-then-image1-size, then-image1-size-via-else-image1-size+then-image2-size}
use Rattle.two_readings.proofs.choosing.check.Goals as goal

pub returns-then-image1-size-clause-number : goal.returns-then-image1-size-clause-number
returns-then-image1-size-clause-number c =
    let h = header_taken c.args.header.header c.args.header.header refl c.args.header.fits in
    let size = c.image_size-size.ensures in
    elim c.then-image1-size.branch [
      | then-image1-size-via-then-image1-size w ↦ first_refused h _ refl size _ w.if-image1-size.true
      | then-image1-size-via-else-image1-size+then-image2-size w ↦ second_refused h _ refl size w.if-image1-size.false size _ w.if-image2-size.true
    ]

-- the sizes where neither is refused
lengths : (c : Else-image2-size) → Passed c.args.header.header c.args.image1.now c.args.erasures1.now c.args.image2.now c.args.erasures2.now true
lengths c = record {
  fits = c.args.header.fits;
  first_long = c.if-image1-size.false ∙ c.image_size-size.ensures;
  second_long = c.if-image2-size.false ∙ c.image_size-size.ensures;
  others = refl;
}

pub returns-in_err-first-clause-number : goal.returns-in_err-first-clause-number
returns-in_err-first-clause-number c =
    let x = c.in_err-first.field-0.0 in
    passed_on x c.from_residual.result c.from_residual.ensures.1
    ∙ sized _ _ _ _ _ _ _ (lengths (goal.at.returns-in_err-first-clause-number c).Else-image2-size)
    (first_list _ _ _ c.in_err-first.ensures.number (not_zero x))

pub returns-in_err-second-clause-number : goal.returns-in_err-second-clause-number
returns-in_err-second-clause-number c =
    let x = c.in_err-second.field-0.0 in
    passed_on x c.from_residual-in_err-second.result c.from_residual-in_err-second.ensures.1
    ∙ sized _ _ _ _ _ _ _ (lengths (goal.at.returns-in_err-second-clause-number c).Else-image2-size)
    (second_list _ _ _ c.in_err-second.ensures.number (not_zero x))

pub returns-clause-number : goal.returns-clause-number
returns-clause-number c =
    let f = c.in_ok-first.ensures.same in
    let s = c.in_ok-second.ensures.same in
    sized _ _ _ _ _ _ _ (lengths (goal.at.returns-clause-number c).Else-image2-size)
    (both_lists _ _ _ c.in_ok-first.ensures.number c.in_ok-second.ensures.number
    (rw (f.0, f.1, f.2, s.1, s.2) at c.compare.ensures.number))
