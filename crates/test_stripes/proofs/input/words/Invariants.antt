-- What the loop of `test_stripes::input::words` keeps: the words read so far are words of the field. Assumes nothing.
use Rattle.std.proofs.Common.{take}
use Rattle.field.specs.Words.{Words}
use Rattle.test_stripes.proofs.input.words.Given as goal

abbrev pub invariant-loop-x : goal.invariant-loop-x
invariant-loop-x g l = Words 65537 (take l.x-index l.x-items)
