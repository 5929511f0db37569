-- The loop of `mixing_twice::rows::cross_each`: the first b blocks are crossed. Assumes nothing.
use Rattle.std.proofs.Common.{◌+◌, ◌*◌, get_or}
use Rattle.code.specs.Rows.{lifted}
use Rattle.code.proofs.Blocks.{BlockLoop}
use Rattle.mixing_twice.specs.steps.Quads.{twice}
use Rattle.mixing_twice.proofs.rows.cross_each.Given as goal

abbrev pub invariant-loop-b : goal.invariant-loop-b
invariant-loop-b g l =
    BlockLoop l.initial.half l.blocks l.size
    (lifted l.width (l.m + l.m + (l.m + l.m)) (l.m + l.m + (l.m + l.m)) (twice g.D.Direction.unmixing 65537 (get_or l.powers.table.now l.powers.step 0) l.m))
    l.half (l.b * l.size) l.b
