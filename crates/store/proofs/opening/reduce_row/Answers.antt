-- `store::opening::reduce_row` meets its contract, by the laws of a loop that stores words. Assumes nothing.
use Rattle.std.proofs.Common.{zero-add, ◌∙◌}
use Rattle.code.proofs.RowLaws.{storing_start, storing_turn, storing_done}
use Rattle.store.proofs.Stores.{residues}
use Rattle.store.proofs.opening.reduce_row.Goals as goal

pub loop-j-init : goal.loop-j-init
loop-j-init c = storing_start _ _ _ _

pub loop-j-preserved : goal.loop-j-preserved
loop-j-preserved c = rw zero-add at (storing_turn c.loop-j.invariant (rw c.requires at c.loop-j-test.true) c.reduce.ensures)

pub returns : goal.returns
returns c = storing_done c.loop-j.invariant (rw c.requires at c.loop-j-test.false) ∙ residues c.args.words.now c.args.out.now c.requires
