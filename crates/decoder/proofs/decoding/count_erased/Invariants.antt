-- The loop of `decoder::decoding::count_erased`: those of the marks before that are erased are counted. Assumes nothing: these are definitions.
use Rattle.std.proofs.Common.{◌≡◌}
use Rattle.logarithms.specs.Weights.{erased_to}
use Rattle.decoder.proofs.decoding.count_erased.Given as goal

abbrev pub invariant-loop-mark : goal.invariant-loop-mark
invariant-loop-mark l = l.erased ≡ erased_to l.marks l.mark-index
