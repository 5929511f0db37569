-- The loop of `store::writing::put_row`: the words before j are stored, each times the factor. Assumes nothing.
use Rattle.std.proofs.Common.{get_or, length}
use Rattle.field.specs.Residue.{times}
use Rattle.code.proofs.RowLaws.{Storing}
use Rattle.store.proofs.writing.put_row.Given as goal

abbrev pub invariant-loop-j : goal.invariant-loop-j
invariant-loop-j g l =
    Storing 0 (λ i. times 65537 (g.F.Factor.value l.factor) (get_or l.block.words.now i 0)) (length l.block.words.now) l.initial.rest l.rest
    l.j
