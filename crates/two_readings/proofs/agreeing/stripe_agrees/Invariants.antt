-- The loop of `two_readings::agreeing::stripe_agrees`: the positions before `i` agree. Assumes nothing: these are definitions.
use Rattle.std.proofs.Common.{◌≡◌, true}
use Rattle.two_readings.specs.Agreeing.{all_below, position_agrees}
use Rattle.two_readings.proofs.agreeing.stripe_agrees.Given as goal

abbrev pub invariant-loop-i : goal.invariant-loop-i
invariant-loop-i l =
    true ≡ all_below l.i (position_agrees l.first.header.header l.first.image.now l.first.erasures.now l.second.image.now l.second.erasures.now l.level)
