-- The loop of `image::erasures::mark`, which is the one over an erasure list of proofs/Marking. Assumes nothing.
use Rattle.image.proofs.Marking.{MarkLoop}
use Rattle.image.proofs.erasures.mark.Given as goal

abbrev pub invariant-loop-pair : goal.invariant-loop-pair
invariant-loop-pair l = MarkLoop l.places.base l.places.step l.places.positions l.erasures 2048 l.marks l.pair-index
