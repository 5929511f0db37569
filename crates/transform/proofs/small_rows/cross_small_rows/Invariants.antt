-- The loop of `transform::small_rows::cross_small_rows`: `turn` levels are crossed. Assumes nothing.
use Rattle.std.proofs.Common.{◌-◌}
use Rattle.transform.proofs.EitherWay.{LevelsLoop}
use Rattle.transform.proofs.small_rows.cross_small_rows.Given as goal

abbrev pub invariant-loop-turn : goal.invariant-loop-turn
invariant-loop-turn g l = LevelsLoop g.D.Direction.unmixing l.initial.half l.level l.width l.half l.turn (l.level - l.turn)
