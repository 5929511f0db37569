-- `mixing::direction::Unmixing` crosses four words as `unmixing_four` says. Assumes nothing.
use Rattle.mixing_twice.proofs.FourRows.{is_unmixed0, is_unmixed1, is_unmixed2, is_unmixed3}
use Rattle.mixing_twice.proofs.direction.UnmixingTwoLevels.cross_four.Goals as goal

pub returns-clause-out0 : goal.returns-clause-out0
returns-clause-out0 g c = is_unmixed0 _ _ _ _ 0 0 c.sum.ensures

pub returns-clause-out1 : goal.returns-clause-out1
returns-clause-out1 g c = is_unmixed1 _ _ _ _ _ 0 c.difference.ensures c.product.ensures

pub returns-clause-out2 : goal.returns-clause-out2
returns-clause-out2 g c = is_unmixed2 _ _ _ _ 0 _ _ c.shifted-turned.ensures.1 c.turned_sum.ensures c.product-2.ensures

pub returns-clause-out3 : goal.returns-clause-out3
returns-clause-out3 g c = is_unmixed3 _ _ _ _ _ _ _ c.shifted-turned.ensures.1 c.turned_difference.ensures c.product-3.ensures c.args.t.now.product
