-- The loop of `explanation::explaining::count_stripes`: the counts of the stripes below `level` are stored. Assumes nothing: these are definitions.
use Rattle.std.proofs.Common.{suc}
use Rattle.image.specs.Erasures.{erasures_in}
use Rattle.explanation.specs.Counts.{left, shortfall}
use Rattle.range_laying.proofs.PairLoops.{Filling}
use Rattle.explanation.proofs.explaining.count_stripes.Given as goal

abbrev pub invariant-loop-level : goal.invariant-loop-level
invariant-loop-level l =
    let h = l.reading.header.header in
    let gs = erasures_in l.reading.erasures.now in
    Filling (left h gs) (shortfall h gs) (suc h.k) l.initial.counts l.counts l.level
