-- `judging::records::judge` meets its contract, by the loop of proofs/Judging. Assumes nothing.
use Rattle.std.proofs.Common.{arith}
use Rattle.judging.proofs.Judging.{judge_start, judge_turn, judged, judged_all}
use Rattle.judging.proofs.records.judge.Goals as goal

pub loop-j-init : goal.loop-j-init
loop-j-init c = judge_start _ _ _ _ _

pub loop-j-preserved : goal.loop-j-preserved
loop-j-preserved c = judge_turn c.loop-j.invariant c.loop-j-test.true c.row_fits-row.ensures.plain c.row_fits-row.ensures.struck

pub returns-clause-fits_after : goal.returns-clause-fits_after
returns-clause-fits_after c =
    let e = c.block_count-rows.ensures in
    judged c.args.fits.now c.loop-j.invariant e (omega (arith, e, c.requires.fits_len)) c.loop-j-test.false

pub returns-clause-value : goal.returns-clause-value
returns-clause-value c =
    let e = c.block_count-rows.ensures in
    judged_all c.args.fits.now c.loop-j.invariant e (omega (arith, e, c.requires.fits_len)) c.loop-j-test.false (omega arith)
