-- The loop of `image::loading::load_row`, which is the loop that stores words of code/proofs/RowLaws. Assumes nothing.
use Rattle.std.proofs.Common.{length}
use Rattle.code.specs.steps.Storing.{word_from}
use Rattle.code.proofs.RowLaws.{Storing}
use Rattle.image.proofs.loading.load_row.Given as goal

abbrev pub invariant-loop-j : goal.invariant-loop-j
invariant-loop-j g l = Storing 0 (word_from (g.S.Source.words l.source) l.at) (length l.initial.row) l.initial.row l.row l.j
