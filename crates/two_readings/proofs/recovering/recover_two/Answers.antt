-- `two_readings::recovering::recover_two` meets its contract. Assumes nothing.
use Rattle.std.proofs.Common.{sym, ap, ◌∙◌}
use Rattle.layout.proofs.Refusals.{if_taken_lem}
use Rattle.recovery.specs.RecoveryCall.{answer_of}
use Rattle.two_readings.proofs.LaidOfTwo.{laid_is, words_are}
use Rattle.two_readings.proofs.TwoRefusals.{buffers_long}
use Rattle.two_readings.proofs.recovering.recover_two.Goals as goal

pub lay_stripes-requires : goal.lay_stripes-requires
lay_stripes-requires c =
    let a = c.args in
    let p = buffers_long a.header a.image1.now a.erasures1.now a.image2.now a.erasures2.now a.out.now a.scratch.now (sym c.in_ok-readings.ensures.number) in
    rw c.in_ok-readings.ensures.same.0.header (record { output = p.0; room = p.1 })

pub returns-clause-value : goal.returns-clause-value
returns-clause-value c =
    let s = c.in_ok-readings.ensures.same in
    c.lay_stripes.ensures.value ∙ ap answer_of (laid_is c.in_ok-readings.readings s.0 s.1)
    ∙ sym (if_taken_lem _ _ (sym c.in_ok-readings.ensures.number))

pub returns-clause-out_after : goal.returns-clause-out_after
returns-clause-out_after c =
    let s = c.in_ok-readings.ensures.same in
    c.lay_stripes.ensures.out_after ∙ words_are c.in_ok-readings.readings s.0 s.1 ∙ sym (if_taken_lem _ _ (sym c.in_ok-readings.ensures.number))
