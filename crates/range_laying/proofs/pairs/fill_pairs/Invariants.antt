-- The loop of `range_laying::pairs::fill_pairs`: the first i pairs are stored. Assumes nothing: these are definitions.
use Rattle.range_laying.proofs.PairLoops.{Filling}
use Rattle.range_laying.proofs.pairs.fill_pairs.Given as goal

abbrev pub invariant-loop-i : goal.invariant-loop-i
invariant-loop-i l = Filling (λ j. l.one) (λ j. l.other) l.n l.initial.out l.out l.i
