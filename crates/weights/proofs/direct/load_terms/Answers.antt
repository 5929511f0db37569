-- `weights::direct::load_terms` meets its contract: the invariant is that of a loop that stores each word. Assumes nothing.
use Rattle.std.proofs.Common.{arith}
use Rattle.weights.proofs.ColumnLaws.{each_start, each_turn, each_part}
use Rattle.weights.proofs.direct.load_terms.Goals as goal

pub loop-d-init : goal.loop-d-init
loop-d-init c = each_start _ _

pub loop-d-preserved : goal.loop-d-preserved
loop-d-preserved c = each_turn c.loop-d.invariant c.loop-d-test.true c.log_of_less.ensures

pub returns : goal.returns
returns c =
    each_part c.args.part.now c.count-count.ensures (omega (arith, c.count-count.ensures)) c.loop-d.invariant c.loop-d-test.false
    (omega (arith, c.requires))
