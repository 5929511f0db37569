-- `mixing::direction::Mixing` crosses four words as `mixing_four` says. Assumes nothing.
use Rattle.mixing_twice.proofs.FourRows.{slacks, is_mixed0, is_mixed1, is_mixed2, is_mixed3}
use Rattle.mixing_twice.proofs.direction.MixingTwoLevels.cross_four.Goals as goal

pub returns-clause-out0 : goal.returns-clause-out0
returns-clause-out0 g c =
    is_mixed0 (slacks c.unreduced_product-y.ensures.1 c.unreduced_product-z.ensures.1 c.unreduced_product-w.ensures.1 c.args.t.now.product
    c.shifted-turned.ensures.1) c.sum.ensures

pub returns-clause-out1 : goal.returns-clause-out1
returns-clause-out1 g c =
    is_mixed1 (slacks c.unreduced_product-y.ensures.1 c.unreduced_product-z.ensures.1 c.unreduced_product-w.ensures.1 c.args.t.now.product
    c.shifted-turned.ensures.1) c.turned_difference.ensures

pub returns-clause-out2 : goal.returns-clause-out2
returns-clause-out2 g c =
    is_mixed2 (slacks c.unreduced_product-y.ensures.1 c.unreduced_product-z.ensures.1 c.unreduced_product-w.ensures.1 c.args.t.now.product
    c.shifted-turned.ensures.1) c.difference.ensures

pub returns-clause-out3 : goal.returns-clause-out3
returns-clause-out3 g c =
    is_mixed3 (slacks c.unreduced_product-y.ensures.1 c.unreduced_product-z.ensures.1 c.unreduced_product-w.ensures.1 c.args.t.now.product
    c.shifted-turned.ensures.1) c.turned_sum.ensures
