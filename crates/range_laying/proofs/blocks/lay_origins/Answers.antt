-- `range_laying::blocks::lay_origins` meets its contract. The invariant: the origins of the first i blocks are laid. Assumes nothing.
use Rattle.range_laying.proofs.PairLoops.{naming_start, naming_turn}
use Rattle.range_laying.proofs.blocks.lay_origins.Goals as goal

pub loop-i-init : goal.loop-i-init
loop-i-init c = naming_start _ _ _ _ _ _

pub loop-i-preserved : goal.loop-i-preserved
loop-i-preserved c = naming_turn c.loop-i.invariant c.loop-i-test.true c.put_pair.ensures
