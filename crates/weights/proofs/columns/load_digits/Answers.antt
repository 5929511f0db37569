-- `weights::columns::load_digits` meets its contract, by the laws of the loop that loads (proofs/ColumnLaws). Assumes nothing.
use Rattle.std.proofs.Common.{suc, arith}
use Rattle.code.proofs.Shapes.{reversed_lt}
use Rattle.weights.specs.steps.Digits.{digits}
use Rattle.weights.proofs.ColumnLaws.{each_start, each_turn, load_done, digit_loaded}
use Rattle.weights.proofs.columns.load_digits.Goals as goal

pub loop-j-init : goal.loop-j-init
loop-j-init c = each_start _ _

pub log_of_less-requires : goal.log_of_less-requires
log_of_less-requires c =
    omega (arith, c.reversed.ensures, reversed_lt (suc c.args.at.level) c.loop-j.j)

pub loop-j-preserved : goal.loop-j-preserved
loop-j-preserved c =
    each_turn c.loop-j.invariant c.loop-j-test.true
    (digit_loaded c.args.at.level c.args.digit.unit c.loop-j.j c.reversed.ensures c.log_of_less.ensures)

pub returns : goal.returns
returns c = load_done c.args.at.level (digits c.args.at.level c.args.digit.unit) c.loop-j.invariant c.loop-j-test.false c.requires
