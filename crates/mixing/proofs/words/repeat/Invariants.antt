-- The loop of `mixing::words::repeat`: the factors of the first i rows are stored. Assumes nothing.
use Rattle.std.proofs.Common.{◌*◌}
use Rattle.code.specs.steps.Mixing.{repeated_at}
use Rattle.code.proofs.RowLaws.{StoringRows}
use Rattle.mixing.proofs.words.repeat.Given as goal

abbrev pub invariant-loop-i : goal.invariant-loop-i
invariant-loop-i l = StoringRows 0 (repeated_at l.powers.table.now l.width l.powers.step) l.rows l.width l.initial.factors l.factors (l.i * l.width) l.i
