-- `mixing::rows::cross_row` meets its contract, by the laws of the loop over a row of proofs/Crossing. Assumes nothing.
use Rattle.mixing.proofs.Crossing.{crossing_stores, row_start, row_turn}
use Rattle.mixing.proofs.rows.cross_row.Goals as goal

pub loop-j-init : goal.loop-j-init
loop-j-init g c = row_start c.requires.words

pub loop-j-preserved : goal.loop-j-preserved
loop-j-preserved g c =
    let low = rw c.of.ensures at c.cross-a.ensures.low in
    let high = rw c.of.ensures at c.cross-a.ensures.high in
    row_turn (crossing_stores g.D.Direction.unmixing) c.loop-j.invariant c.loop-j-test.true low high
