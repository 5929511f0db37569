-- The loop of `layout::places::first_empty`: the levels passed are filled, and the search goes on at `level` with the bits left. Assumes nothing.
use Rattle.layout.proofs.FirstLevel.{Search}
use Rattle.layout.proofs.places.first_empty.Given as goal

abbrev pub invariant-loop-rest : goal.invariant-loop-rest
invariant-loop-rest l = Search l.c l.level l.rest

abbrev pub decreases-loop-rest : goal.decreases-loop-rest
decreases-loop-rest l = l.rest
