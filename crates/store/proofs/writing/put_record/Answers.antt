-- `store::writing::put_record` meets its contract. Assumes nothing.
use Rattle.std.proofs.Common.{◌*◌, length, arith}
use Rattle.store.proofs.Stores.{put_over}
use Rattle.store.proofs.writing.put_record.Goals as goal

pub returns : goal.returns
returns c =
    let a = c.args in
    rw c.copy_words.ensures (put_over (a.i * length a.words.now) _ a.raw.now a.words.now (omega (arith, c.requires)) (omega arith))
