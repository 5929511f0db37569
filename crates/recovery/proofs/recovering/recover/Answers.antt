-- `recovery::recovering::recover` meets its contract. Assumes nothing.
use mathlib.Core.Path.{sym}
use Rattle.std.proofs.Common.{length}
use Rattle.image.proofs.ImageRefusals.{lent}
use Rattle.recovery.proofs.recovering.recover.Goals as goal

-- the sizes, where no test applies
pub lay_stripes-requires : goal.lay_stripes-requires
lay_stripes-requires c =
    let a = c.args in
    let L = lent a.header a.image.now a.erasures.now a.header.s (length a.out.now) (length a.scratch.now) (sym c.in_ok-reading.ensures.number) in
    rw c.in_ok-reading.ensures.same.0 (record { output = L.output; room = L.room })
