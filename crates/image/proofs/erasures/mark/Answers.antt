-- `image::erasures::mark` meets its contract, by the loop over an erasure list of proofs/Marking. Assumes nothing.
use Rattle.std.proofs.Common.{arith}
use Rattle.image.proofs.Pairs.{is_pair}
use Rattle.image.proofs.Marking.{mark_start, mark_turn, mark_end}
use Rattle.image.proofs.erasures.mark.Goals as goal

pub loop-pair-init : goal.loop-pair-init
loop-pair-init c = mark_start c.requires.0

pub loop-pair-preserved : goal.loop-pair-preserved
loop-pair-preserved c =
    mark_turn c.loop-pair.invariant (is_pair c.args.erasures.now c.as_chunks.ensures.front (omega arith) c.from.ensures) c.mark_touched.ensures

pub returns : goal.returns
returns c = mark_end c.loop-pair.invariant (omega arith)
