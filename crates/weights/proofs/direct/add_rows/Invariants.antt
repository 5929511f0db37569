-- The loop of `weights::direct::add_rows`: the rows of the erased positions below j are added (`Sums` of specs/steps/Direct). Assumes nothing.
use Rattle.std.proofs.Common.{◌++◌}
use Rattle.weights.specs.steps.Direct.{Sums}
use Rattle.weights.proofs.direct.add_rows.Given as goal

abbrev pub invariant-loop-j : goal.invariant-loop-j
invariant-loop-j l = Sums l.marks.at.level l.marks.erased.now l.j (l.sums ++ l.terms)
