-- The loop of `mixing::words::repeat_factor`: the factor is stored at the first j words. Assumes nothing.
use Rattle.code.specs.steps.Storing.{always}
use Rattle.code.proofs.RowLaws.{Storing}
use Rattle.mixing.proofs.words.repeat_factor.Given as goal

abbrev pub invariant-loop-j : goal.invariant-loop-j
invariant-loop-j l = Storing l.at (always l.g) l.width l.initial.factors l.factors l.j
