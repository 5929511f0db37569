-- The loop of `layout::words::copy_words`: the first j words are copied. Assumes nothing.
use Rattle.std.proofs.Common.{length}
use Rattle.code.specs.steps.Storing.{word_from}
use Rattle.code.proofs.RowLaws.{Storing}
use Rattle.layout.proofs.words.copy_words.Given as goal

abbrev pub invariant-loop-j : goal.invariant-loop-j
invariant-loop-j l = Storing 0 (word_from l.words 0) (length l.words) l.initial.out l.out l.j
