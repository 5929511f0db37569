-- `mixing_twice::rows::cross_rows` meets its contract, by the laws of the loop over four rows of proofs/FourRows. Assumes nothing.
use Rattle.mixing_twice.proofs.FourRows.{four_stores, four_start, four_turn}
use Rattle.mixing_twice.proofs.rows.cross_rows.Goals as goal

pub loop-j-init : goal.loop-j-init
loop-j-init g c = four_start c.requires.words

pub loop-j-preserved : goal.loop-j-preserved
loop-j-preserved g c =
    let crossed = c.cross_four-a.ensures in
    four_turn (four_stores g.D.Direction.unmixing) c.loop-j.invariant c.loop-j-test.true crossed.out0 crossed.out1 crossed.out2 crossed.out3
