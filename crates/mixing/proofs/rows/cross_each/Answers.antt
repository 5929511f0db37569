-- `mixing::rows::cross_each` meets its contract, by the laws of the loop over blocks of code's proofs/Blocks. Assumes nothing.
use native.Mathlib.Nat.{zero-mul}
use Rattle.code.proofs.Blocks.{blocks_start, blocks_turn}
use Rattle.code.proofs.Lifting.{row_next}
use Rattle.mixing.proofs.Crossing.{crossing_stores, row_block}
use Rattle.mixing.proofs.rows.cross_each.Goals as goal

pub loop-b-init : goal.loop-b-init
loop-b-init g c = rw zero-mul (blocks_start c.requires.half_len c.requires.words)

pub loop-b-preserved : goal.loop-b-preserved
loop-b-preserved g c =
    rw row_next
    (blocks_turn (row_block (crossing_stores g.D.Direction.unmixing) (g.F.Factors.value c.args.factors) c.args.size) c.loop-b.invariant c.loop-b-test.true
    c.cross_row.ensures)
