-- `field::power` meets its contract: each turn squares, and multiplies where the bit is set. Assumes nothing.
use Rattle.std.proofs.Common.{◌∙◌, ◌<◌, arith, lit<, rules}
use Rattle.field.proofs.Laws.{times_lt}
use Rattle.field.proofs.Powers.{loop_start, loop_odd, loop_even, loop_end}
use Rattle.field.proofs.power.Goals as goal
use Rattle.field.proofs.power.Goals.{then-rest-eq1, else-rest-eq1}

pub loop-rest-init : goal.loop-rest-init
loop-rest-init c = record { acc_in = search rules; base_in = search rules; whole = loop_start 65537 (lit< tt) c.args.x c.args.e }

pub loop-rest-preserved : goal.loop-rest-preserved
loop-rest-preserved c =
    let l = c.loop-rest in
    let small : c.mul-base.result < 65537 = omega (arith, c.mul-base.ensures, times_lt 65537 (lit< tt) l.base l.base) in
    elim c.if-rest-eq1.branch [
      | then-rest-eq1 w ↦ record {
        acc_in = omega (arith, w.acc-is, w.mul-acc.ensures, times_lt 65537 (lit< tt) l.acc l.base);
        base_in = small;
        whole = loop_odd 65537 (lit< tt) l.acc l.base l.rest _ _ _ w.if-rest-eq1.true (w.acc-is ∙ w.mul-acc.ensures) c.mul-base.ensures l.invariant.whole;
      }
      | else-rest-eq1 w ↦ record {
        acc_in = omega (arith, w.acc-is, l.invariant.acc_in);
        base_in = small;
        whole = loop_even 65537 (lit< tt) l.acc l.base l.rest _ _ _ w.if-rest-eq1.false w.acc-is c.mul-base.ensures l.invariant.whole;
      }
    ]

pub returns : goal.returns
returns c = let l = c.loop-rest in loop_end 65537 (lit< tt) l.acc l.base l.rest _ l.invariant.acc_in c.loop-rest-test.false l.invariant.whole
