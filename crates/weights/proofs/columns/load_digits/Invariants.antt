-- The loop of `weights::columns::load_digits` is one that loads (proofs/ColumnLaws). Assumes nothing.
use Rattle.weights.specs.steps.Digits.{digits}
use Rattle.weights.proofs.ColumnLaws.{StoringEach, loaded_at}
use Rattle.weights.proofs.columns.load_digits.Given as goal

abbrev pub invariant-loop-j : goal.invariant-loop-j
invariant-loop-j l = StoringEach (loaded_at l.at.level (digits l.at.level l.digit.unit)) l.fn.column l.column l.j
