-- What holds in the loop of `range_laying::blocks::copy_rows`: the first i rows are copied. Assumes nothing.
use Rattle.range_laying.proofs.CopiedRows.{Copying}
use Rattle.range_laying.proofs.blocks.copy_rows.Given as goal

abbrev pub invariant-loop-i : goal.invariant-loop-i
invariant-loop-i l = Copying l.to.first l.to.stride l.from.first l.from.stride l.count l.words l.rows l.initial.out l.out l.i
