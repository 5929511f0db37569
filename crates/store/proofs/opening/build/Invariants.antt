-- The loop of `store::opening::build`: with the blocks that are left stored too, all blocks are stored. Assumes nothing.
use Rattle.store.proofs.Building.{BuildLoop}
use Rattle.store.proofs.opening.build.Given as goal

abbrev pub invariant-loop-i : goal.invariant-loop-i
invariant-loop-i g l = BuildLoop l.raw l.initial.full l.header.header.k l.s l.i-end l.width l.full l.i
