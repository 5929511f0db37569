-- The loop of `splitting::levels::split_halves`: the levels from the top down to l are taken out. Assumes nothing.
use Rattle.splitting.proofs.HalvesLoop.{HalvesLoop}
use Rattle.splitting.proofs.levels.split_halves.Given as goal

abbrev pub invariant-loop-l : goal.invariant-loop-l
invariant-loop-l l = HalvesLoop l.width l.level l.initial.x l.initial.y l.below l.x l.y l.l
