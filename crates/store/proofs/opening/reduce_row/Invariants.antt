-- The loop of `store::opening::reduce_row`: the words before j are stored, each modulo p. Assumes nothing.
use Rattle.std.proofs.Common.{◌%◌, get_or, length}
use Rattle.code.proofs.RowLaws.{Storing}
use Rattle.store.proofs.opening.reduce_row.Given as goal

abbrev pub invariant-loop-j : goal.invariant-loop-j
invariant-loop-j l = Storing 0 (λ i. get_or l.words i 0 % 65537) (length l.words) l.initial.out l.out l.j
