-- `weights::direct::add_row` meets its contract, by the laws of the loop that adds a row (proofs/DirectLaws). Assumes nothing.
use Rattle.std.proofs.Common.{refl, arith}
use Rattle.weights.proofs.ColumnLaws.{each_start, each_done}
use Rattle.weights.proofs.DirectLaws.{add_fits, add_turn}
use Rattle.weights.proofs.direct.add_row.Goals as goal

pub loop-e-init : goal.loop-e-init
loop-e-init c = each_start _ _

pub overflow_add-sum : goal.overflow_add-sum
overflow_add-sum c = omega (arith, add_fits c.args.terms.now c.loop-e.invariant c.requires.by_index c.loop-e-test.true)

pub loop-e-preserved : goal.loop-e-preserved
loop-e-preserved c = add_turn c.args.terms.now c.loop-e.invariant c.loop-e-test.true

pub returns : goal.returns
returns c = each_done c.loop-e.invariant c.loop-e-test.false refl
