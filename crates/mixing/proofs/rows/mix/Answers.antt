-- `mixing::rows::mix` meets its contract, by the laws of the loop over rows of proofs/Crossing. Assumes nothing.
use Rattle.std.proofs.Common.{false}
use Rattle.mixing.proofs.Crossing.{crossing_stores, rows_start, rows_turn, rows_end, mixing_crosses}
use Rattle.mixing.proofs.rows.mix.Goals as goal

pub loop-i-init : goal.loop-i-init
loop-i-init c = rows_start c.requires.part_len c.requires.words

pub loop-i-preserved : goal.loop-i-preserved
loop-i-preserved c = rows_turn (crossing_stores false) c.args.powers.factors c.loop-i.invariant c.loop-i-test.true (rw c.of.ensures at c.mix_row.ensures)

pub returns : goal.returns
returns c = rows_end (mixing_crosses _ _) c.loop-i.invariant c.loop-i-test.false
