-- The loop of `range_laying::blocks::lay_data`: the first j blocks are laid. Assumes nothing: these are definitions.
use Rattle.range_laying.proofs.BlockLaying.{Laying}
use Rattle.range_laying.proofs.blocks.lay_data.Given as goal

abbrev pub invariant-loop-j : goal.invariant-loop-j
invariant-loop-j l = Laying l.s l.blocks l.rows l.initial.out l.out l.j
