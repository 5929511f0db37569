-- `range_laying::blocks::copy_rows` meets its contract. Assumes nothing.
use Rattle.range_laying.proofs.CopiedRows.{copying_start, copying_turn}
use Rattle.range_laying.proofs.blocks.copy_rows.Goals as goal

pub loop-i-init : goal.loop-i-init
loop-i-init c = copying_start _ _ _ _ _ _ _ _

pub loop-i-preserved : goal.loop-i-preserved
loop-i-preserved c = copying_turn c.loop-i.invariant c.loop-i-test.true c.copy_row.ensures
