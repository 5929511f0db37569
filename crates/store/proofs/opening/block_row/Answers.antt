-- `store::opening::block_row` meets its contract. Assumes nothing.
use Rattle.std.proofs.Common.{suc, sym, ap, ◌∙◌}
use Rattle.store.specs.Buffers.{reduced}
use Rattle.store.proofs.StoredRecords.{length_reduced}
use Rattle.store.proofs.Stores.{row_put}
use Rattle.store.proofs.opening.block_row.Goals as goal

pub returns : goal.returns
returns g c =
    let a = c.args in
    rw c.store.ensures (row_put a.row.now a.i (reduced 65537 a.words.now) (c.requires.row_len ∙ ap suc (sym (length_reduced 65537 a.words.now))))
