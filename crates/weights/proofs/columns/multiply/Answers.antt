-- `weights::columns::multiply` meets its contract, by the laws of the loop that multiplies (proofs/ColumnLaws). Assumes nothing.
use Rattle.weights.proofs.ColumnLaws.{each_start, multiply_words, multiply_turn, multiply_done}
use Rattle.weights.proofs.columns.multiply.Goals as goal

pub loop-i-init : goal.loop-i-init
loop-i-init c = each_start _ _

pub mul-requires : goal.mul-requires
mul-requires c = multiply_words c.args.by.now c.loop-i.invariant c.requires.words c.requires.words_2

pub loop-i-preserved : goal.loop-i-preserved
loop-i-preserved c = multiply_turn c.args.by.now c.loop-i.invariant c.loop-i-test.true c.mul.ensures

pub returns : goal.returns
returns c = multiply_done c.args.by.now c.loop-i.invariant c.loop-i-test.false
