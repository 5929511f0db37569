-- The loop of `weights::columns::multiply` is the one that multiplies (proofs/ColumnLaws). Assumes nothing.
use Rattle.weights.proofs.ColumnLaws.{StoringEach, product_at}
use Rattle.weights.proofs.columns.multiply.Given as goal

abbrev pub invariant-loop-i : goal.invariant-loop-i
invariant-loop-i l = StoringEach (product_at l.by l.fn.column) l.fn.column l.column l.i
