-- The loop of `mixing::rows::mix`: the first i rows are mixed. Assumes nothing.
use Rattle.code.specs.steps.Mixing.{mixing}
use Rattle.mixing.proofs.Crossing.{RowsLoop}
use Rattle.mixing.proofs.rows.mix.Given as goal

abbrev pub invariant-loop-i : goal.invariant-loop-i
invariant-loop-i l = RowsLoop (mixing 65537) l.initial.part l.rows l.width l.powers.table.now l.powers.step l.part l.i
