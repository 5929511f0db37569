-- `image::loading::load_row` meets its contract, by the loop that stores of code/proofs/RowLaws. Assumes nothing.
use Rattle.std.proofs.Common.{length, sym, ◌∙◌, zero-add}
use Rattle.code.specs.steps.Storing.{word_from}
use Rattle.code.proofs.RowLaws.{storing_start, storing_turn, storing_done, stored_last}
use Rattle.image.proofs.loading.load_row.Goals as goal

pub loop-j-init : goal.loop-j-init
loop-j-init g c = storing_start _ _ _ _

pub loop-j-preserved : goal.loop-j-preserved
unfolding word_from
loop-j-preserved g c = rw zero-add at (storing_turn c.loop-j.invariant c.loop-j-test.true c.word.ensures)

pub returns : goal.returns
returns g c = storing_done c.loop-j.invariant c.loop-j-test.false ∙ stored_last 0 _ _ c.args.row.now (sym (zero-add (length c.args.row.now)))
