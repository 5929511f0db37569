-- The loop of `store::writing::fold`: the last 2 ^ l rows are folded. Assumes nothing.
use Rattle.std.proofs.Common.{◌-◌, ◌*◌, ◌^◌, length}
use Rattle.field.specs.Field.{fermat, root_of}
use Rattle.store.proofs.Folding.{FoldLoop}
use Rattle.store.proofs.writing.fold.Given as goal

abbrev pub invariant-loop-l : goal.invariant-loop-l
invariant-loop-l l = FoldLoop l.initial.half l.level l.width (root_of fermat) l.half (length l.initial.half - 2 ^ l.l * l.width) l.l
