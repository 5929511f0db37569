-- The loop of `transform::large_rows::cross_large_rows`: `turn` passes are made. Assumes nothing.
use Rattle.transform.proofs.EitherWay.{PassesLoop}
use Rattle.transform.proofs.large_rows.cross_large_rows.Given as goal

abbrev pub invariant-loop-turn : goal.invariant-loop-turn
invariant-loop-turn g l = PassesLoop g.D.Direction.unmixing l.initial.half l.level l.width l.half l.turn
