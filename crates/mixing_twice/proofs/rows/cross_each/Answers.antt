-- `mixing_twice::rows::cross_each` meets its contract, by the laws of the loop over blocks of code's proofs/Blocks. Assumes nothing.
use Rattle.std.proofs.Common.{get_or, arith}
use native.Mathlib.Nat.{zero-mul}
use Rattle.code.proofs.Blocks.{part_words, blocks_start, blocks_turn}
use Rattle.code.proofs.Lifting.{row_next}
use Rattle.mixing_twice.proofs.TwoLevels.{twice_block}
use Rattle.mixing_twice.proofs.rows.cross_each.Goals as goal

pub loop-b-init : goal.loop-b-init
loop-b-init g c = rw zero-mul (blocks_start c.requires.half_len c.requires.words)

pub cross-requires-clause-words : goal.cross-requires-clause-words
cross-requires-clause-words g c = part_words _ _ (omega arith) c.loop-b.invariant.words

pub loop-b-preserved : goal.loop-b-preserved
loop-b-preserved g c =
    rw row_next
    (blocks_turn (twice_block g.D.Direction.unmixing c.args.width c.args.powers.rows (get_or c.args.powers.table.now c.args.powers.step 0)) c.loop-b.invariant
    c.loop-b-test.true c.cross.ensures)
