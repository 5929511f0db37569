-- The loop of `weights::direct::store_words` is one that stores each word (proofs/ColumnLaws). Assumes nothing.
use Rattle.std.proofs.Common.{take}
use Rattle.weights.specs.steps.Direct.{direct_at}
use Rattle.weights.proofs.ColumnLaws.{StoringEach}
use Rattle.weights.proofs.direct.store_words.Given as goal

abbrev pub invariant-loop-i : goal.invariant-loop-i
invariant-loop-i l = StoringEach (direct_at l.at.level l.shared l.part) (take l.count l.fn.logs) l.log-items l.i
