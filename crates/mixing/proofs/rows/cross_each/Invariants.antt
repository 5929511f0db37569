-- The loop of `mixing::rows::cross_each`: the first b blocks are crossed. Assumes nothing.
use Rattle.std.proofs.Common.{◌*◌}
use Rattle.code.specs.steps.Mixing.{crossed_row}
use Rattle.code.proofs.Blocks.{BlockLoop}
use Rattle.mixing.specs.steps.Words.{crossing_of}
use Rattle.mixing.proofs.rows.cross_each.Given as goal

abbrev pub invariant-loop-b : goal.invariant-loop-b
invariant-loop-b g l =
    BlockLoop l.initial.half l.blocks l.both
    (crossed_row (crossing_of g.D.Direction.unmixing 65537) (g.F.Factors.value l.factors) l.size 0 l.size) l.half (l.b * l.both) l.b
