-- The loop of `two_readings::agreeing::compare`, which is the one over the stripes of proofs/Comparing. Assumes nothing: these are definitions.
use Rattle.two_readings.proofs.Comparing.{Compared}
use Rattle.two_readings.proofs.agreeing.compare.Given as goal

abbrev pub invariant-loop-level : goal.invariant-loop-level
invariant-loop-level l =
    Compared l.first.header.header l.first.image.now l.first.erasures.now l.second.image.now l.second.erasures.now l.takes_second l.level
