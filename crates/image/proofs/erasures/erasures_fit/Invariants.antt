-- The loop of `image::erasures::erasures_fit`, which is that of test 3 in proofs/ErasureLists. Assumes nothing.
use Rattle.image.proofs.ErasureLists.{RiseLoop}
use Rattle.image.proofs.erasures.erasures_fit.Given as goal

abbrev pub invariant-loop-pair : goal.invariant-loop-pair
invariant-loop-pair l = RiseLoop l.erasures l.size l.least l.pair-index
