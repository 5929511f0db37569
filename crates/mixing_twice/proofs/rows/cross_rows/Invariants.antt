-- The loop of `mixing_twice::rows::cross_rows`: the first j words of the four rows are crossed. Assumes nothing.
use Rattle.mixing_twice.specs.steps.Quads.{four_of}
use Rattle.mixing_twice.proofs.FourRows.{FourLoop}
use Rattle.mixing_twice.proofs.rows.cross_rows.Given as goal

abbrev pub invariant-loop-j : goal.invariant-loop-j
invariant-loop-j g l =
    FourLoop (four_of g.D.Direction.unmixing) l.initial.part l.at l.far l.width (g.F.Factor.value l.t.t1) (g.F.Factor.value l.t.t2) l.part l.j
