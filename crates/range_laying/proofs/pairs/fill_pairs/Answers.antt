-- `range_laying::pairs::fill_pairs` meets its contract. Assumes nothing.
use Rattle.range_laying.proofs.PairLoops.{filling_start, filling_turn}
use Rattle.range_laying.proofs.pairs.fill_pairs.Goals as goal

pub loop-i-init : goal.loop-i-init
loop-i-init c = filling_start _ _ _ _

pub loop-i-preserved : goal.loop-i-preserved
loop-i-preserved c = filling_turn _ _ c.loop-i.invariant c.loop-i-test.true c.requires c.put_pair.ensures
