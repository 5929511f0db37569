-- The loop of `range_laying::blocks::lay_origins`: the origins of the first i blocks are laid. Assumes nothing: these are definitions.
use Rattle.range_laying.proofs.PairLoops.{Naming}
use Rattle.range_laying.proofs.blocks.lay_origins.Given as goal

abbrev pub invariant-loop-i : goal.invariant-loop-i
invariant-loop-i l = Naming l.width l.level l.first l.blocks l.rows l.initial.out l.out l.i
