-- `weights::columns::load_flags` meets its contract, by the laws of the loop that loads (proofs/ColumnLaws). Assumes nothing.
use Rattle.std.proofs.Common.{suc, ◌^◌, ◌<◌, ◌∙◌, arith}
use Rattle.code.proofs.Shapes.{reversed_lt}
use Rattle.weights.proofs.ExponentLaws.{position_lt, flag_is}
use Rattle.weights.specs.steps.Digits.{flags}
use Rattle.weights.proofs.ColumnLaws.{each_start, each_turn, load_done, flag_loaded}
use Rattle.weights.proofs.columns.load_flags.Goals as goal

pub loop-j-init : goal.loop-j-init
loop-j-init c = each_start _ _

pub position-i-requires : goal.position-i-requires
position-i-requires c = omega (arith, c.reversed.ensures, reversed_lt (suc c.args.marks.at.level) c.loop-j.j)

pub bounds-marks-i : goal.bounds-marks-i
bounds-marks-i c =
    let l = c.args.marks.at.level in
    let inside : c.reversed.result < 2 ^ suc l = omega (arith, c.reversed.ensures, reversed_lt (suc l) c.loop-j.j) in
    omega (arith, c.position-i.ensures, position_lt l c.reversed.result inside)

pub loop-j-preserved : goal.loop-j-preserved
loop-j-preserved c =
    each_turn c.loop-j.invariant c.loop-j-test.true
    (flag_loaded c.args.marks.at.level c.args.marks.erased.now c.loop-j.j c.reversed.ensures c.position-i.ensures (c.from.ensures ∙ flag_is _))

pub returns : goal.returns
returns c = load_done c.args.marks.at.level (flags c.args.marks.at.level c.args.marks.erased.now) c.loop-j.invariant c.loop-j-test.false c.requires
