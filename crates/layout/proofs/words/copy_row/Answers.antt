-- `layout::words::copy_row` meets its contract. Assumes nothing.
use Rattle.code.proofs.RowLaws.{stored_copy}
use Rattle.layout.proofs.words.copy_row.Goals as goal

pub returns : goal.returns
returns c = stored_copy c.args.to c.args.from c.args.count c.args.out.now c.args.words.now c.requires.0 c.requires.1 c.copy_words.ensures
