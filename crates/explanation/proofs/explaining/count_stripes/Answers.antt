-- `explanation::explaining::count_stripes` meets its contract. Assumes nothing.
use Rattle.std.proofs.Common.{arith}
use Rattle.range_laying.proofs.PairLoops.{filling_start, filling_turn}
use Rattle.explanation.proofs.explaining.count_stripes.Goals as goal

pub loop-level-init : goal.loop-level-init
loop-level-init c = filling_start _ _ _ _

pub loop-level-preserved : goal.loop-level-preserved
loop-level-preserved c =
    filling_turn _ _ c.loop-level.invariant (omega (arith, c.loop-level-test.true)) (omega (arith, c.requires)) c.count_stripe.ensures
