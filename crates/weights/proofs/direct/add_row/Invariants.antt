-- The loop of `weights::direct::add_row` is the one that adds a row (proofs/DirectLaws). Assumes nothing.
use Rattle.weights.proofs.ColumnLaws.{StoringEach}
use Rattle.weights.proofs.DirectLaws.{sum_of}
use Rattle.weights.proofs.direct.add_row.Given as goal

abbrev pub invariant-loop-e : goal.invariant-loop-e
invariant-loop-e l = StoringEach (sum_of l.terms l.fn.sums) l.fn.sums l.sums l.e
