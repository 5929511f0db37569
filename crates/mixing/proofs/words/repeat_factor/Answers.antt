-- `mixing::words::repeat_factor` meets its contract, by the laws of a loop that stores words. Assumes nothing.
use Rattle.std.proofs.Common.{refl}
use Rattle.code.specs.steps.Storing.{always}
use Rattle.code.proofs.RowLaws.{storing_start, storing_turn}
use Rattle.mixing.proofs.words.repeat_factor.Goals as goal

pub loop-j-init : goal.loop-j-init
loop-j-init c = storing_start _ _ _ _

pub loop-j-preserved : goal.loop-j-preserved
unfolding always
loop-j-preserved c = storing_turn c.loop-j.invariant c.loop-j-test.true refl
