-- The loop of `weights::direct::load_terms` is one that stores each word (proofs/ColumnLaws). Assumes nothing.
use Rattle.logarithms.specs.Weights.{log_of_less}
use Rattle.weights.proofs.ColumnLaws.{StoringEach}
use Rattle.weights.proofs.direct.load_terms.Given as goal

abbrev pub invariant-loop-d : goal.invariant-loop-d
invariant-loop-d l = StoringEach (log_of_less l.at.level) l.initial.term-items l.term-items l.d
