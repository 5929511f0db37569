-- The loop of `encoder::scale_row_over`: the first j words of the row at `to` are stored. Assumes nothing.
use Rattle.code.specs.steps.Storing.{scaled_word}
use Rattle.code.proofs.RowLaws.{Storing}
use Rattle.encoder.proofs.scale_row_over.Given as goal

abbrev pub invariant-loop-j : goal.invariant-loop-j
invariant-loop-j g l = Storing l.to (scaled_word 65537 l.from (g.F.Factor.value l.g) l.fn.part) l.width l.fn.part l.part l.j
