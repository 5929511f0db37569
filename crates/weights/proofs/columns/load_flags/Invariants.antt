-- The loop of `weights::columns::load_flags` is one that loads (proofs/ColumnLaws). Assumes nothing.
use Rattle.weights.specs.steps.Digits.{flags}
use Rattle.weights.proofs.ColumnLaws.{StoringEach, loaded_at}
use Rattle.weights.proofs.columns.load_flags.Given as goal

abbrev pub invariant-loop-j : goal.invariant-loop-j
invariant-loop-j l = StoringEach (loaded_at l.marks.at.level (flags l.marks.at.level l.marks.erased.now)) l.fn.column l.column l.j
