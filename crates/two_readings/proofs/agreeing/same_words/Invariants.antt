-- The loop of `two_readings::agreeing::same_words`: whether the words before `j` are the same. Assumes nothing: these are definitions.
use Rattle.std.proofs.Common.{◌≡◌}
use Rattle.two_readings.specs.Agreeing.{same_words}
use Rattle.two_readings.proofs.agreeing.same_words.Given as goal

abbrev pub invariant-loop-j : goal.invariant-loop-j
invariant-loop-j l = l.same ≡ same_words l.first l.second l.at l.j
