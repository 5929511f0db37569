-- The loop of `weights::sums::add_sums` is the one that adds (proofs/PartLaws). Assumes nothing.
use Rattle.std.proofs.Common.{take}
use Rattle.weights.specs.steps.Digits.{added_at}
use Rattle.weights.proofs.ColumnLaws.{StoringEach}
use Rattle.weights.proofs.sums.add_sums.Given as goal

abbrev pub invariant-loop-i : goal.invariant-loop-i
invariant-loop-i l = StoringEach (added_at l.at.level l.digit.unit l.part l.fn.logs) (take l.count l.fn.logs) l.log-items l.i
