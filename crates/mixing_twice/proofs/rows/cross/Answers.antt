-- `mixing_twice::rows::cross` meets its contract, by the laws of the loop over rows of proofs/QuadRows and of two levels of proofs/TwoLevels. Assumes nothing.
use Rattle.mixing_twice.proofs.FourRows.{four_stores}
use Rattle.mixing_twice.proofs.QuadRows.{quads_start, quads_turn, quads_end}
use Rattle.mixing_twice.proofs.TwoLevels.{crosses_four}
use Rattle.mixing_twice.proofs.rows.cross.Goals as goal

pub loop-i-init : goal.loop-i-init
loop-i-init g c = quads_start c.requires.part_len c.requires.words

pub loop-i-preserved : goal.loop-i-preserved
loop-i-preserved g c =
    quads_turn c.loop-i.invariant (four_stores g.D.Direction.unmixing) c.requires.quad_factors c.loop-i-test.true c.cross_by.ensures

pub returns : goal.returns
returns g c = quads_end c.loop-i.invariant (crosses_four g.D.Direction.unmixing _ _ c.requires.quad_factors.turn) c.loop-i-test.false
