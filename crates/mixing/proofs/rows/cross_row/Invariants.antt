-- The loop of `mixing::rows::cross_row`: the first j words of the row are crossed. Assumes nothing.
use Rattle.mixing.specs.steps.Words.{crossing_of}
use Rattle.mixing.proofs.Crossing.{RowLoop}
use Rattle.mixing.proofs.rows.cross_row.Given as goal

abbrev pub invariant-loop-j : goal.invariant-loop-j
invariant-loop-j g l = RowLoop (crossing_of g.D.Direction.unmixing 65537) l.initial.part l.low l.high l.width (g.F.Factors.value l.factors) l.part l.j
