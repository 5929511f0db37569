-- What `stripe_decoding::ranges::decode_and_lay` keeps in its loop, and what its loop counts down. Assumes nothing.
use Rattle.std.proofs.Common.{◌-◌, length}
use Rattle.stripe_decoding.proofs.RangeLoop.{Ranging}
use Rattle.stripe_decoding.proofs.ranges.decode_and_lay.Given as goal

abbrev pub invariant-loop-from : goal.invariant-loop-from
invariant-loop-from g l =
    Ranging l.fn.content l.st l.ready.marks.now (g.S.Source.words l.fn.source) (length l.fn.scratch) l.fn.out l.out l.scratch l.fits l.fit l.from

abbrev pub decreases-loop-from : goal.decreases-loop-from
decreases-loop-from g l = l.st.width - l.from
