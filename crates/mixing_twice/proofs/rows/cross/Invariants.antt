-- The loop of `mixing_twice::rows::cross`: the first i rows of each of the four parts are crossed. Assumes nothing.
use Rattle.mixing_twice.specs.steps.Quads.{four_of}
use Rattle.mixing_twice.proofs.QuadRows.{QuadsLoop}
use Rattle.mixing_twice.proofs.rows.cross.Given as goal

abbrev pub invariant-loop-i : goal.invariant-loop-i
invariant-loop-i g l = QuadsLoop (four_of g.D.Direction.unmixing) l.initial.part l.m l.width l.powers.table.now l.powers.step l.part l.i
