-- `range_laying::blocks::lay_data` meets its contract. The invariant: the first j blocks are laid. Assumes nothing.
use mathlib.Core.Path.{refl}
use Rattle.std.proofs.Common.{suc, ◌+◌, ◌*◌, ◌≤◌, length, get_or, arith, add-one}
use Rattle.range_laying.proofs.BlockLaying.{laying_start, laying_reads, laying_turn}
use Rattle.range_laying.proofs.blocks.lay_data.Goals.{In-loop-j}
use Rattle.range_laying.proofs.blocks.lay_data.Goals as goal

pub loop-j-init : goal.loop-j-init
loop-j-init c = laying_start _ _ _ _

-- the next block
reads : (c : In-loop-j) → c.loop-j.j * (c.args.s + 1) + 1 + c.args.s ≤ length c.args.blocks.now
reads c = laying_reads c.args.s c.loop-j-test.true (omega (arith, c.requires.blocks_len))

-- the record that it is laid over
fits_at : (c : In-loop-j) → get_or c.args.blocks.now (c.loop-j.j * (c.args.s + 1)) 0 * c.args.s + c.args.s ≤ length c.loop-j.out
fits_at c =
    let n : suc (get_or c.args.blocks.now (c.loop-j.j * (c.args.s + 1)) 0) * c.args.s ≤ length c.args.out.now =
    rw (add-one c.args.s) (c.requires.by_index c.loop-j.j c.loop-j-test.true) in
    omega (arith, n, c.loop-j.invariant.same)

pub copy_row-requires : goal.copy_row-requires
copy_row-requires c = (fits_at (goal.at.copy_row-requires c).In-loop-j, reads (goal.at.copy_row-requires c).In-loop-j)

pub loop-j-preserved : goal.loop-j-preserved
loop-j-preserved c = laying_turn c.loop-j.invariant c.loop-j-test.true _ refl (omega (arith, c.requires.blocks_len)) c.copy_row.ensures
